use mathlib.Core.Path.{ap, ◌∙◌}
use Rattle.std.specs.Prelude.{◌-◌, ◌++◌, length, take, drop, List, ℕ}
use Rattle.store_lists.proofs.Units.{range_in}
use Rattle.store_lists.proofs.parts.push_range.Goals as goal

pub loop-part-preserved : goal.loop-part-preserved
loop-part-preserved c =
    range_in c.loop-part.units.items c.push_overlap.new.units.items c.args.front.now c.args.last.now c.loop-part.part-index c.part-item.result c.loop-part.from c.loop-part.to c.saturating_sub-from.result c.saturating_sub-to.result
    c.loop-part-test.true
    c.part-item.is
    (c.in_ok-push_overlap.ensures ∙ ap (λ (p : List ℕ). c.loop-part.units.items ++ take (c.loop-part.to - c.loop-part.from) (drop c.loop-part.from p)) c.units.ensures)
    (c.saturating_sub-from.ensures ∙ ap (λ (p : List ℕ). c.loop-part.from - length p) c.units-in-loop-part.ensures)
    (c.saturating_sub-to.ensures ∙ ap (λ (p : List ℕ). c.loop-part.to - length p) c.units-in-loop-part-2.ensures)
    ∙ c.loop-part.invariant
