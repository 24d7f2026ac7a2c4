use Rattle.std.proofs.Common.{ap, ◌∙◌, arith}
use Rattle.std.proofs.lemmas.Bool.{le-ltb}
use Rattle.std.specs.FinSet as sets
use Rattle.type_masks.specs.Masks.{Kinds, has}
use Rattle.world_state.specs.Worlds.{Facts}
use Rattle.world_state.specs.Pages.{mask_of}
use Rattle.world_state.proofs.Kept.{kept_live, kept_not_live}
use Rattle.world_state.proofs.world.World.is_live.Goals as goal

pub returns-then-member-self : goal.returns-then-member-self
returns-then-member-self c =
    c.has.ensures ∙ ap (λ (m : Kinds). has m c.args.member) c.mask.ensures ∙ ap (λ n. has (mask_of c.self.inside.live n) c.args.member) c.block_of.ensures
    ∙ kept_live c.self.inside.shape c.self.inside.masks c.self.inside.live c.args.member c.self.invariant ∙ ap (λ (w : Facts). sets.contains w.live c.args.member) c.self.view_is

pub returns-else-member-self : goal.returns-else-member-self
returns-else-member-self c =
    le-ltb c.args.member c.self.inside.shape.members (omega arith)
    ∙ kept_not_live c.self.inside.shape c.self.inside.masks c.self.inside.live c.args.member c.self.invariant (omega arith) ∙ ap (λ (w : Facts). sets.contains w.live c.args.member) c.self.view_is
