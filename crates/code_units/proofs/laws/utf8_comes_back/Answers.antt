use Rattle.code_units.proofs.TextLaws.{utf8_comes_back}
use Rattle.code_units.proofs.laws.utf8_comes_back.Goals as goal

pub returns : goal.returns
returns c = utf8_comes_back
