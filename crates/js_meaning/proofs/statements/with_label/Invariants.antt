use Rattle.std.proofs.Common.{◌≡◌, ◌∷◌, ◌++◌, drop}
use Rattle.js_meaning.proofs.statements.with_label.Given as goal

abbrev pub invariant-loop-outer : goal.invariant-loop-outer
invariant-loop-outer l = l.all ++ drop l.outer-index l.labels ≡ l.label ∷ l.labels
