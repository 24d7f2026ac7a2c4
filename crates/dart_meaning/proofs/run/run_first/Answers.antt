use Rattle.dart_meaning.proofs.Statements.{found_program}
use Rattle.dart_meaning.proofs.run.run_first.Goals as goal

pub returns : goal.returns
returns c = (c.as_slice.result.now, found_program _ _ _ _ c.in_ok-program.ensures.exact c.in-Some.is c.as_slice.ensures, c.in_ok-run_program.ensures)
