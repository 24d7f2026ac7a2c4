use Rattle.std.proofs.Common.{◌≡◌, drop}
use Rattle.js_meaning.specs.Files as spec
use Rattle.js_meaning.specs.Nests.{at}
use Rattle.js_meaning.proofs.run.are_new.Given as goal

abbrev pub invariant-loop-item : goal.invariant-loop-item
invariant-loop-item l = at (spec.are_new l.file l.items) l.level.depth l.fn.state ≡ at (spec.are_new l.file (drop l.item-index l.items)) l.level.depth l.state
