use Rattle.js_reader.proofs.Exact.{one}
use Rattle.js_reader.proofs.read.one_tree.Goals as goal

pub returns : goal.returns
returns c = one
