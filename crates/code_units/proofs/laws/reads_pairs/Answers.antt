use Rattle.code_units.proofs.TextLaws.{reads_pairs}
use Rattle.code_units.proofs.laws.reads_pairs.Goals as goal

pub returns : goal.returns
returns c = reads_pairs
