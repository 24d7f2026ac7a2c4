use Rattle.std.proofs.Common.{◌≡◌, map, drop}
use Rattle.js_meaning.specs.Parts.{values, values_from}
use Rattle.js_meaning.specs.Trees.{expr}
use Rattle.js_meaning.specs.Nests.{at}
use Rattle.js_meaning.proofs.forms.Forms.values.Given as goal

abbrev pub invariant-loop-e : goal.invariant-loop-e
invariant-loop-e g l = at (values l.here (map expr l.es)) l.self.level.depth l.fn.state ≡ at (values_from l.here l.done (map expr (drop l.e-index l.es))) l.self.level.depth l.state
