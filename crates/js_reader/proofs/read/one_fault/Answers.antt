use Rattle.js_reader.proofs.Placed.{one_fault}
use Rattle.js_reader.proofs.read.one_fault.Goals as goal

pub returns : goal.returns
returns c = one_fault
