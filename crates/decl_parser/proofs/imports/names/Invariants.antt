use Rattle.std.proofs.Common.{◌≡◌, ◌-◌, [], length}
use Rattle.decl_parser.specs.Files.{names_from}
use Rattle.decl_parser.proofs.imports.names.Given as goal

abbrev pub invariant-loop-turn : goal.invariant-loop-turn
invariant-loop-turn l = names_from (length l.fn.ts) [] l.fn.ts ≡ names_from (l._turn-end - l._turn) l.found l.rest
