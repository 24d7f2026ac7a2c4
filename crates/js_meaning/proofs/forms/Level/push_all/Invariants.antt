use Rattle.std.proofs.Common.{◌≡◌, drop}
use Rattle.js_meaning.specs.Stored.{push_all}
use Rattle.js_meaning.specs.Nests.{at}
use Rattle.js_meaning.proofs.forms.Level.push_all.Given as goal

abbrev pub invariant-loop-v : goal.invariant-loop-v
invariant-loop-v l = at (push_all l.a l.vs) l.self.depth l.fn.state ≡ at (push_all l.a (drop l.v-index l.vs)) l.self.depth l.state
