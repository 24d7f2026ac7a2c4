use Rattle.std.proofs.Common.{◌≡◌, drop}
use Rattle.js_meaning.specs.Calls as spec
use Rattle.js_meaning.proofs.calls.with_parameters.Given as goal

abbrev pub invariant-loop-i : goal.invariant-loop-i
invariant-loop-i l = spec.with_parameters l.scope l.i (drop l.i l.names) l.vs ≡ spec.with_parameters l.fn.scope 0 l.names l.vs
