use Rattle.dart_syntax.proofs.Exact.{tokens_are_one}
use Rattle.dart_syntax.proofs.laws.tokens_are_one.Goals as goal

pub returns : goal.returns
returns c = tokens_are_one
