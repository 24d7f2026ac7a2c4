use Rattle.dart_web_cli.proofs.Translating.{translation_is_right}
use Rattle.dart_web_cli.proofs.translate.translation_is_right.Goals as goal

pub returns : goal.returns
returns c = translation_is_right
