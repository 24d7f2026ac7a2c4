use Rattle.code_units.proofs.TextLaws.{units_tell_apart}
use Rattle.code_units.proofs.laws.units_tell_apart.Goals as goal

pub returns : goal.returns
returns c = units_tell_apart
