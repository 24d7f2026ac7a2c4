use Rattle.js_reader.proofs.Exact.{spelled, fault_is}
use Rattle.js_reader.proofs.read.read_file.Goals as goal

pub returns-in-Ok-clause-found : goal.returns-in-Ok-clause-found
returns-in-Ok-clause-found c = spelled c.args.bytes.now c.in-Ok.items c.in-Ok.ensures

pub returns-in-Err-clause-fault : goal.returns-in-Err-clause-fault
returns-in-Err-clause-fault c = fault_is c.args.bytes.now c.in-Err.fault c.in-Err.ensures
