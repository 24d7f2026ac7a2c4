use Rattle.dart_web_cli.proofs.Refusing.{fine_or_broken}
use Rattle.dart_web_cli.proofs.load.entries_are_fine_or_broken.Goals as goal

pub returns : goal.returns
returns c = fine_or_broken
