use Rattle.std.proofs.Common.{ap, ◌∙◌, sym, subst}
use Rattle.world_state.specs.declared.fact.Fact.TheVariants.{In}
use Rattle.world_state.specs.Facts.{InShape}
use Rattle.world_state.specs.Worlds.{Facts, with_fact}
use Rattle.world_state.specs.Kept.{facts_in, IsKept}
use Rattle.world_state.proofs.Kept.{in_kept, in_facts}
use Rattle.world_state.proofs.world.World.add_kind.Goals as goal

pub invariant_of-self-2 : goal.invariant_of-self-2
invariant_of-self-2 c =
    let room : InShape c.self.inside.shape (In c.args.slot c.args.kind) = subst (λ (w : Facts). InShape w.shape (In c.args.slot c.args.kind)) (sym c.self.view_is) c.requires in
    subst (λ ms. IsKept c.self.inside.shape ms c.self.inside.live) (sym c.in_ok-add.ensures.ok)
    (in_kept c.self.inside.shape c.self.inside.masks c.self.inside.live c.args.slot c.args.kind c.self.invariant room)

pub returns-clause-ok : goal.returns-clause-ok
returns-clause-ok c =
    let room : InShape c.self.inside.shape (In c.args.slot c.args.kind) = subst (λ (w : Facts). InShape w.shape (In c.args.slot c.args.kind)) (sym c.self.view_is) c.requires in
    ap (λ ms. facts_in c.self.inside.shape ms c.self.inside.live) c.in_ok-add.ensures.ok
    ∙ in_facts c.self.inside.shape c.self.inside.masks c.self.inside.live c.args.slot c.args.kind room.0
    ∙ ap (λ (w : Facts). with_fact w (In c.args.slot c.args.kind)) c.self.view_is
