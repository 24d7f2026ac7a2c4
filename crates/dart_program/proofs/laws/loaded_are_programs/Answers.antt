use Rattle.dart_program.proofs.Linked.{loaded_are_programs}
use Rattle.dart_program.proofs.laws.loaded_are_programs.Goals as goal

pub returns : goal.returns
returns c = loaded_are_programs
