use Rattle.dart_meaning.proofs.Statements.{exact_program, only_program}
use Rattle.dart_meaning.proofs.read.read_program.Goals as goal

pub returns-clause-exact : goal.returns-clause-exact
returns-clause-exact c = exact_program c.args.tokens.now c.read.result c.read.ensures

pub returns-clause-one : goal.returns-clause-one
returns-clause-one c = only_program c.args.tokens.now c.read.result c.read.ensures
