use Rattle.std.proofs.Common.{◌≡◌, ◌-◌, [], length}
use Rattle.decl_parser.specs.Files.{combinators_from}
use Rattle.decl_parser.proofs.imports.combinators.Given as goal

abbrev pub invariant-loop-turn : goal.invariant-loop-turn
invariant-loop-turn l = combinators_from (length l.fn.ts) [] l.fn.ts ≡ combinators_from (l._turn-end - l._turn) l.found l.rest
