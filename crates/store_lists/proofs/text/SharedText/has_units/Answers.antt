use mathlib.Core.Path.{sym, ◌∙◌}
use Rattle.store_lists.proofs.Units.{same_step}
use Rattle.store_lists.proofs.text.SharedText.has_units.Goals as goal

pub loop-at-preserved : goal.loop-at-preserved
loop-at-preserved c =
    same_step c.args.self.now c.args.other.now c.loop-at.at c.in-Some.a c.in-Some-get.b (sym c.in-Some.is ∙ c.get.ensures) (sym c.in-Some-get.is ∙ c.get-in-Some.ensures) c.if-a-b.false
    ∙ c.loop-at.invariant
