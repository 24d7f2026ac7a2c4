use Rattle.dart_web_cli.proofs.Refusing.{one_refusal}
use Rattle.dart_web_cli.proofs.load.refusals_are_one.Goals as goal

pub returns : goal.returns
returns c = one_refusal
