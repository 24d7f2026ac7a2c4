use Rattle.std.proofs.Common.{◌≡◌, map, drop}
use Rattle.js_meaning.specs.Expressions.{entries_from}
use Rattle.js_meaning.specs.Trees.{entry}
use Rattle.js_meaning.specs.Nests.{at}
use Rattle.js_meaning.proofs.forms.Forms.entries_from.Given as goal

abbrev pub invariant-loop-e : goal.invariant-loop-e
invariant-loop-e g l = at (entries_from l.here l.fn.made (map entry l.es)) l.self.level.depth l.fn.state ≡ at (entries_from l.here l.made (map entry (drop l.e-index l.es))) l.self.level.depth l.state
