use Rattle.decl_parser.proofs.Found.{is_file, is_parsed}
use Rattle.decl_parser.proofs.laws.the_parser_and_the_grammar_agree.Goals as goal

pub returns-clause-derived : goal.returns-clause-derived
returns-clause-derived c = is_file

pub returns-clause-parsed : goal.returns-clause-parsed
returns-clause-parsed c = is_parsed
