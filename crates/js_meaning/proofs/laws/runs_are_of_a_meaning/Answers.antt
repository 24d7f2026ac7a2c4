use Rattle.js_meaning.proofs.Runs.{runs_are_of_a_meaning}
use Rattle.js_meaning.proofs.laws.runs_are_of_a_meaning.Goals as goal

pub returns : goal.returns
returns c = runs_are_of_a_meaning
