use Rattle.expr_parser.proofs.Found.{one_statement_here}
use Rattle.expr_parser.proofs.laws.one_statement.Goals as goal

pub returns : goal.returns
returns c = one_statement_here
