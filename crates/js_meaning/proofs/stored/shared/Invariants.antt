use Rattle.std.proofs.Common.{◌≡◌, ◌++◌, drop}
use Rattle.js_meaning.proofs.stored.shared.Given as goal

abbrev pub invariant-loop-value : goal.invariant-loop-value
invariant-loop-value l = l.list ++ drop l.value-index l.values ≡ l.values
