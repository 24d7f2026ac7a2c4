use Rattle.dart_web_cli.proofs.Spelled.{one_run}
use Rattle.dart_web_cli.proofs.scripts.scripts_are_one.Goals as goal

pub returns : goal.returns
returns c = one_run
