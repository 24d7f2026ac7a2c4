use Rattle.std.proofs.Common.{arith, length-take}
use Rattle.js_reader.proofs.Fronts.{sign_fits}
use Rattle.js_reader.proofs.bytes.sign.Goals as goal

pub slice_bounds-result-end : goal.slice_bounds-result-end
slice_bounds-result-end c = omega (arith, sign_fits c.args.bytes.now, length-take c.sign_length-count.result c.args.bytes.now)
