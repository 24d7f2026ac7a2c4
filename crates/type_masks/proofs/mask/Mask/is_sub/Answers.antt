use Rattle.std.proofs.Common.{ap}
use Rattle.type_masks.specs.Masks.{Kinds}
use Rattle.type_masks.proofs.Sets.{all_is_subset}
use Rattle.type_masks.proofs.mask.Mask.is_sub.Goals as goal

pub returns : goal.returns
returns c =
    let subset = all_is_subset c.self.inside.kinds.items c.args.other.now.set in
    let seen = ap (λ (k : Kinds). k.set) c.self.view_is in
    cc (c.all_in.ensures, c.as_slice.ensures, seen, subset)
