use Rattle.type_masks.proofs.Ascending.{found_in}
use Rattle.std.proofs.Common.{◌∙◌}
use Rattle.type_masks.proofs.mask.Mask.has.Goals as goal

pub returns : goal.returns
returns c = c.is_ok.ensures.value ∙ found_in c.self.inside.kinds.items _ c.args.kind _ c.self.inside.bound c.args.self.now c.as_slice.ensures c.self.view_is c.binary_search.ensures.position c.self.invariant.1
