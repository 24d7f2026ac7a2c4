use Rattle.expr_parser.proofs.Found.{expressions_are_parsed, statements_are_parsed}
use Rattle.expr_parser.proofs.laws.what_is_derived_is_parsed.Goals as goal

pub returns-clause-expressions : goal.returns-clause-expressions
returns-clause-expressions c = expressions_are_parsed

pub returns-clause-statements : goal.returns-clause-statements
returns-clause-statements c = statements_are_parsed
