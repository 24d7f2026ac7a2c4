use Rattle.decl_parser.proofs.Examples.{each_form_stands as the_example}
use Rattle.decl_parser.proofs.laws.each_form_stands.Goals as goal

pub returns : goal.returns
returns c = the_example
