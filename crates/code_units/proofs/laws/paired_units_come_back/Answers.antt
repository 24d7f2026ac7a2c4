use Rattle.code_units.proofs.TextLaws.{paired_units_come_back}
use Rattle.code_units.proofs.laws.paired_units_come_back.Goals as goal

pub returns : goal.returns
returns c = paired_units_come_back
