use Rattle.std.proofs.Common.{◌≡◌, map, drop}
use Rattle.js_meaning.specs.Parts.{selected}
use Rattle.js_meaning.specs.Trees.{selector}
use Rattle.js_meaning.specs.Nests.{at}
use Rattle.js_meaning.proofs.forms.Forms.selected.Given as goal

abbrev pub invariant-loop-selector : goal.invariant-loop-selector
invariant-loop-selector g l = at (selected l.here l.fn.from (map selector l.selectors)) l.self.level.depth l.fn.state ≡ at (selected l.here l.v (map selector (drop l.selector-index l.selectors))) l.self.level.depth l.state
