use Rattle.expr_parser.proofs.Found.{one_expression_here}
use Rattle.expr_parser.proofs.laws.one_expression.Goals as goal

pub returns : goal.returns
returns c = one_expression_here
