use Rattle.std.proofs.Common.{◌≡◌, ◌-◌, [], length}
use Rattle.expr_parser.specs.Knot.{inner_at}
use Rattle.expr_parser.specs.Lists.{exprs, exprs_from}
use Rattle.expr_parser.proofs.grammar.Grammar.exprs.Given as goal

abbrev pub invariant-loop-turn : goal.invariant-loop-turn
invariant-loop-turn g l = exprs (inner_at l.self.depth) l.fn.close l.fn.ts ≡ exprs_from (inner_at l.self.depth) l.close (l._turn-end - l._turn) l.found l.rest
