use Rattle.dart_web_cli.proofs.Meanings.{one_meaning}
use Rattle.dart_web_cli.proofs.words.commands_have_one_meaning.Goals as goal

pub returns : goal.returns
returns c = one_meaning
