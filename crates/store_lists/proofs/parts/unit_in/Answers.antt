use mathlib.Core.Path.{sym, ap, ◌∙◌}
use Rattle.std.specs.Prelude.{slice_get, length, ◌<◌, ◌≤◌, ◌+◌, ◌-◌, ◌++◌, drop, List, ℕ}
use mathlib.Core.Path.{subst}
use Rattle.store_lists.specs.Parts.{flat}
use Rattle.store_lists.proofs.Units.{here_in, behind_in, last_in}
use Rattle.store_lists.proofs.parts.unit_in.Goals as goal

pub returns-then-rest-units : goal.returns-then-rest-units
returns-then-rest-units c =
    c.copied.ensures ∙ c.at.ensures ∙ ap (λ (p : List ℕ). slice_get p c.loop-part.rest) c.units-units.ensures
    ∙ sym (here_in c.args.front.now c.args.last.now c.loop-part.part-index c.part-item.result c.loop-part.rest c.loop-part-test.true c.part-item.is (subst (λ (p : List ℕ). c.loop-part.rest < length p) c.units-units.ensures c.if-rest-units.true))
    ∙ c.loop-part.invariant

pub loop-part-preserved : goal.loop-part-preserved
loop-part-preserved c =
    ap (λ (p : List ℕ). slice_get (flat (drop (c.loop-part.part-index + 1) c.args.front.now) ++ c.args.last.now) (c.loop-part.rest - length p)) c.units-units.ensures
    ∙ sym (behind_in c.args.front.now c.args.last.now c.loop-part.part-index c.part-item.result c.loop-part.rest c.loop-part-test.true c.part-item.is (subst (λ (p : List ℕ). length p ≤ c.loop-part.rest) c.units-units.ensures c.if-rest-units.false))
    ∙ c.loop-part.invariant

pub returns : goal.returns
returns c = c.copied-2.ensures ∙ c.at-2.ensures ∙ sym (last_in c.args.front.now c.args.last.now c.loop-part.part-index c.loop-part.rest c.loop-part-test.false) ∙ c.loop-part.invariant
