use Rattle.std.proofs.Common.{◌≡◌, ◌-◌}
use Rattle.js_meaning.specs.Statements.{forever}
use Rattle.js_meaning.specs.Machine.{Turn, turns_out}
use Rattle.js_meaning.specs.Meaning.{to}
use Rattle.js_meaning.specs.Nests.{at}
use Rattle.js_meaning.proofs.forms.Forms.forever.Given as goal

abbrev pub invariant-loop-turn : goal.invariant-loop-turn
invariant-loop-turn g l = at (forever l.around l.labels l.body) l.self.level.depth l.fn.state ≡ turns_out (to l.self.level.depth) (l.steps - l.turn) (Turn l.around l.labels l.body) l.state
