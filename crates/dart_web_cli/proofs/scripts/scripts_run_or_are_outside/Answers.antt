use Rattle.dart_web_cli.proofs.Spelled.{run_or_outside}
use Rattle.dart_web_cli.proofs.scripts.scripts_run_or_are_outside.Goals as goal

pub returns : goal.returns
returns c = run_or_outside
