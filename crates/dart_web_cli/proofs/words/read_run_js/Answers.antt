use Rattle.dart_web_cli.proofs.Meanings.{refuses_run}
use Rattle.dart_web_cli.proofs.words.read_run_js.Goals as goal

pub returns-in-Err : goal.returns-in-Err
returns-in-Err c = refuses_run c.args.words.now c.in-Err.fault c.in-Err.ensures
