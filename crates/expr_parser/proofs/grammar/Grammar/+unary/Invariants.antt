use Rattle.std.proofs.Common.{length}
use Rattle.expr_parser.proofs.grammar.Grammar.+unary.Given as goal

abbrev pub decreases-unary : goal.decreases-unary
decreases-unary g l = length l.ts.now
