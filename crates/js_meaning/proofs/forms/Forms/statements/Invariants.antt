use Rattle.std.proofs.Common.{◌≡◌, drop}
use Rattle.js_meaning.specs.Statements.{statements}
use Rattle.js_meaning.specs.Nests.{at}
use Rattle.js_meaning.proofs.forms.Forms.statements.Given as goal

abbrev pub invariant-loop-c : goal.invariant-loop-c
invariant-loop-c g l = at (statements l.around l.labels l.body) l.self.level.depth l.fn.state ≡ at (statements l.around l.labels (drop l.c-index l.body)) l.self.level.depth l.state
