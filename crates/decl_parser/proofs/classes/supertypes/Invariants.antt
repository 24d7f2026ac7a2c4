use Rattle.std.proofs.Common.{◌≡◌, ◌-◌, [], length}
use Rattle.decl_parser.specs.Classes.{supertypes, supertypes_from}
use Rattle.decl_parser.proofs.classes.supertypes.Given as goal

abbrev pub invariant-loop-turn : goal.invariant-loop-turn
invariant-loop-turn l = supertypes l.fn.ts ≡ supertypes_from (l._turn-end - l._turn) l.found l.rest
