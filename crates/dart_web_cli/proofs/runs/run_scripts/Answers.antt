use Rattle.dart_web_cli.specs.RunAnswers.{cut}
use Rattle.dart_web_cli.proofs.Sayings.{says_none_of}
use Rattle.dart_web_cli.proofs.runs.run_scripts.Goals as goal

pub returns-in-Err : goal.returns-in-Err
returns-in-Err g c = cut (says_none_of _ _)
