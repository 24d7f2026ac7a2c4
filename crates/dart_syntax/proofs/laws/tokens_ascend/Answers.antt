use Rattle.dart_syntax.proofs.Exact.{tokens_ascend}
use Rattle.dart_syntax.proofs.laws.tokens_ascend.Goals as goal

pub returns : goal.returns
returns c = tokens_ascend
