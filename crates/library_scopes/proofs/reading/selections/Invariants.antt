use Rattle.std.proofs.Common.{◌≡◌, ◌++◌, drop, map}
use Rattle.library_scopes.specs.Libraries.{selection}
use Rattle.library_scopes.proofs.reading.selections.Given as goal

abbrev pub invariant-loop-combinator : goal.invariant-loop-combinator
invariant-loop-combinator l = l.selections ++ map selection (drop l.combinator-index l.combinators) ≡ map selection l.combinators
