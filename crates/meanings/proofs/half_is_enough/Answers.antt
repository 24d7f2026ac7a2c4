use Rattle.meanings.proofs.Halves.{half_enough}
use Rattle.meanings.proofs.half_is_enough.Goals as goal

pub returns : goal.returns
returns c = half_enough
