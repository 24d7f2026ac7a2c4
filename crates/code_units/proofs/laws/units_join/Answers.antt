use Rattle.code_units.proofs.TextLaws.{units_join}
use Rattle.code_units.proofs.laws.units_join.Goals as goal

pub returns : goal.returns
returns c = units_join
