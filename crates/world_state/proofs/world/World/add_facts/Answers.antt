use Rattle.std.proofs.Common.{sym, ap, ◌∙◌, subst}
use Rattle.std.specs.List.{list_all, AllByRecursion}
use Rattle.world_state.specs.Facts.{InShape}
use Rattle.world_state.specs.Worlds.{Facts, has_fact, absent_along, IsWorld}
use Rattle.world_state.proofs.Absent.{absent_is, absent_nothing, withs_again}
use Rattle.world_state.proofs.world.World.add_facts.Goals as goal

pub returns-then-has_all-clause-added : goal.returns-then-has_all-clause-added
returns-then-has_all-clause-added c =
    c.new.ensures ∙ sym (absent_nothing c.args.self.now c.args.facts.now (ap (list_all (has_fact c.args.self.now)) (sym c.as_slice.ensures) ∙ sym c.if-has_all.ensures))

pub returns-then-has_all-clause-ok : goal.returns-then-has_all-clause-ok
returns-then-has_all-clause-ok c =
    sym (withs_again c.args.self.now c.args.facts.now (ap (list_all (has_fact c.args.self.now)) (sym c.as_slice.ensures) ∙ sym c.if-has_all.ensures))

pub grow-requires : goal.grow-requires
grow-requires c =
    subst (λ (w : Facts). AllByRecursion (InShape w.shape) c.as_slice-2.result.now) (sym c.in_ok-grown.ensures)
    (subst (AllByRecursion (InShape c.args.self.now.shape)) (sym c.as_slice-2.ensures) c.requires)

pub returns-clause-added : goal.returns-clause-added
returns-clause-added c =
    c.in_ok-added.ensures.added
    ∙ ap (λ (w : Facts). absent_along w c.as_slice-2.result.now) c.in_ok-grown.ensures
    ∙ ap (absent_along c.args.self.now) c.as_slice-2.ensures
    ∙ absent_is c.args.self.now c.args.facts.now (subst IsWorld c.self.view_is c.self.invariant.world) c.requires
