use Rattle.expr_parser.proofs.Places.{one_expression_at_place}
use Rattle.expr_parser.proofs.laws.one_expression_at.Goals as goal

pub returns : goal.returns
returns c = one_expression_at_place
