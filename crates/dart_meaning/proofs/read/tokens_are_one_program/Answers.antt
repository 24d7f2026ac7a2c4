use Rattle.dart_meaning.proofs.Statements.{one_program}
use Rattle.dart_meaning.proofs.read.tokens_are_one_program.Goals as goal

pub returns : goal.returns
returns c = one_program
