use Rattle.code_units.proofs.TextLaws.{writes_utf8}
use Rattle.code_units.proofs.laws.writes_utf8.Goals as goal

pub returns : goal.returns
returns c = writes_utf8
