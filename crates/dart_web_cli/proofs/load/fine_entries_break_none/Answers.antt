use Rattle.dart_web_cli.proofs.Refusing.{fine_breaks_none}
use Rattle.dart_web_cli.proofs.load.fine_entries_break_none.Goals as goal

pub returns : goal.returns
returns c = fine_breaks_none
