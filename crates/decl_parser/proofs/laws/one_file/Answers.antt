use Rattle.decl_parser.proofs.Found.{one_file_here}
use Rattle.decl_parser.proofs.laws.one_file.Goals as goal

pub returns : goal.returns
returns c = one_file_here
