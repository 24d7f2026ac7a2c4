use Rattle.std.proofs.Common.{◌≡◌, length}
use Rattle.dart_grammar.specs.Loads.{overload, first_overload}
use Rattle.dart_grammar.proofs.loads.first_overload.Given as goal

abbrev pub invariant-tokens : goal.invariant-tokens
invariant-tokens l = overload l.runs l.rest ≡ first_overload l.fn.ts

abbrev pub decreases-tokens : goal.decreases-tokens
decreases-tokens l = length l.rest
