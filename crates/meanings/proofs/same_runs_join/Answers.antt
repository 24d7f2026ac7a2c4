use Rattle.meanings.proofs.Halves.{same_then}
use Rattle.meanings.proofs.same_runs_join.Goals as goal

pub returns : goal.returns
returns c = same_then
