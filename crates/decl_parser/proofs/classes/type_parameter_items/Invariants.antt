use Rattle.std.proofs.Common.{◌≡◌, ◌-◌, []}
use Rattle.decl_parser.specs.Classes.{type_parameters_from}
use Rattle.decl_parser.proofs.classes.type_parameter_items.Given as goal

abbrev pub invariant-loop-turn : goal.invariant-loop-turn
invariant-loop-turn l = type_parameters_from l.fn.turns [] l.fn.ts ≡ type_parameters_from (l.fn.turns - l._turn) l.found l.rest
