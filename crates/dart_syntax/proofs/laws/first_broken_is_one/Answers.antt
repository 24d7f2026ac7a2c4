use Rattle.dart_syntax.proofs.Exact.{first_broken_is_one}
use Rattle.dart_syntax.proofs.laws.first_broken_is_one.Goals as goal

pub returns : goal.returns
returns c = first_broken_is_one
