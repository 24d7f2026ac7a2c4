use Rattle.std.proofs.Common.{◌≡◌, ◌-◌}
use Rattle.decl_parser.specs.Files.{library_name_from}
use Rattle.decl_parser.proofs.imports.past_library_name.Given as goal

abbrev pub invariant-loop-turn : goal.invariant-loop-turn
invariant-loop-turn l = library_name_from l.fn.turns l.fn.ts ≡ library_name_from (l.fn.turns - l._turn) l.rest
