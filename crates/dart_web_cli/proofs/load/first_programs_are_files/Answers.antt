use Rattle.dart_web_cli.proofs.Derived.{first_programs_are_files}
use Rattle.dart_web_cli.proofs.load.first_programs_are_files.Goals as goal

pub returns : goal.returns
returns c = first_programs_are_files
