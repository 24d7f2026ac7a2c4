use Rattle.std.proofs.Common.{◌≡◌, drop}
use Rattle.js_meaning.specs.Files as spec
use Rattle.js_meaning.specs.Nests.{at}
use Rattle.js_meaning.proofs.run.all_wanted.Given as goal

abbrev pub invariant-loop-name : goal.invariant-loop-name
invariant-loop-name l = at (spec.all_wanted l.files l.spot l.names) l.level.depth l.fn.state ≡ at (spec.all_wanted l.files l.spot (drop l.name-index l.names)) l.level.depth l.state
