use Rattle.expr_parser.proofs.Found.{expressions_are_derived, statements_are_derived}
use Rattle.expr_parser.proofs.laws.what_is_parsed_is_derived.Goals as goal

pub returns-clause-expressions : goal.returns-clause-expressions
returns-clause-expressions c = expressions_are_derived

pub returns-clause-statements : goal.returns-clause-statements
returns-clause-statements c = statements_are_derived
