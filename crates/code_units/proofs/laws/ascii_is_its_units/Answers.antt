use Rattle.code_units.proofs.TextLaws.{ascii_is_its_units}
use Rattle.code_units.proofs.laws.ascii_is_its_units.Goals as goal

pub returns : goal.returns
returns c = ascii_is_its_units
