use Rattle.std.proofs.Common.{◌≡◌, ◌-◌, [], length}
use Rattle.expr_parser.specs.Knot.{inner_at}
use Rattle.expr_parser.specs.Blocks.{stmts_from}
use Rattle.expr_parser.proofs.grammar.Grammar.stmts.Given as goal

abbrev pub invariant-loop-turn : goal.invariant-loop-turn
invariant-loop-turn g l = stmts_from (inner_at l.self.depth) (length l.fn.ts) [] l.fn.ts ≡ stmts_from (inner_at l.self.depth) (l._turn-end - l._turn) l.found l.rest
