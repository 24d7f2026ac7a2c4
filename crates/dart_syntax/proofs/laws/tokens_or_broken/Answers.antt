use Rattle.dart_syntax.proofs.Exact.{tokens_or_broken}
use Rattle.dart_syntax.proofs.laws.tokens_or_broken.Goals as goal

pub returns : goal.returns
returns c = tokens_or_broken
