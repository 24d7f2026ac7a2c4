use Rattle.std.proofs.Common.{◌≡◌, ◌-◌, [], length}
use Rattle.expr_parser.specs.Knot.{inner_at}
use Rattle.expr_parser.specs.Parameters.{parameters_from}
use Rattle.expr_parser.proofs.grammar.Grammar.items.Given as goal

abbrev pub invariant-loop-turn : goal.invariant-loop-turn
invariant-loop-turn g l = parameters_from (inner_at l.self.depth) (length l.fn.ts) [] l.fn.ts ≡ parameters_from (inner_at l.self.depth) (l._turn-end - l._turn) l.found l.rest
