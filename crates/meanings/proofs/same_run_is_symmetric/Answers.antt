use Rattle.meanings.proofs.Halves.{same_back}
use Rattle.meanings.proofs.same_run_is_symmetric.Goals as goal

pub returns : goal.returns
returns c = same_back
