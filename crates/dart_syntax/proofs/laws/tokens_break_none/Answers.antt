use Rattle.dart_syntax.proofs.Exact.{tokens_break_none}
use Rattle.dart_syntax.proofs.laws.tokens_break_none.Goals as goal

pub returns : goal.returns
returns c = tokens_break_none
