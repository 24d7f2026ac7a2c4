use Rattle.std.proofs.Common.{◌≡◌, ◌-◌, []}
use Rattle.expr_parser.specs.Knot.{inner_at}
use Rattle.expr_parser.specs.Statements.{clauses_from}
use Rattle.expr_parser.proofs.grammar.Grammar.clauses.Given as goal

abbrev pub invariant-loop-turn : goal.invariant-loop-turn
invariant-loop-turn g l = clauses_from (inner_at l.self.depth) l.fn.turns [] l.fn.end l.fn.ts ≡ clauses_from (inner_at l.self.depth) (l.fn.turns - l._turn) l.found l.last l.rest
