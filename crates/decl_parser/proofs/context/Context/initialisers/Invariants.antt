use Rattle.std.proofs.Common.{◌≡◌, ◌-◌, []}
use Rattle.expr_parser.specs.Knot.{inner_at}
use Rattle.decl_parser.specs.Members.{initialisers_from}
use Rattle.decl_parser.proofs.context.Context.initialisers.Given as goal

abbrev pub invariant-loop-turn : goal.invariant-loop-turn
invariant-loop-turn l = initialisers_from (inner_at l.self.depth) l.fn.turns [] l.fn.ts ≡ initialisers_from (inner_at l.self.depth) (l.fn.turns - l._turn) l.found l.rest
