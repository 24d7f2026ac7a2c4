use Rattle.dart_web_cli.proofs.Spelled.{one_outside}
use Rattle.dart_web_cli.proofs.scripts.outside_is_one.Goals as goal

pub returns : goal.returns
returns c = one_outside
