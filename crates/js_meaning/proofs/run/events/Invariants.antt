use Rattle.std.proofs.Common.{◌≡◌, ◌-◌}
use Rattle.js_meaning.specs.Files as spec
use Rattle.js_meaning.specs.Nests.{at}
use Rattle.js_meaning.proofs.run.events.Given as goal

abbrev pub invariant-loop-turn : goal.invariant-loop-turn
invariant-loop-turn l = at (spec.events l.files l.most) l.level.depth l.fn.state ≡ at (spec.events l.files (l.most - l.turn)) l.level.depth l.state
