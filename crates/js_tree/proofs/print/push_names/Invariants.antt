use Rattle.std.proofs.Common.{◌≡◌, ◌++◌, drop}
use Rattle.js_tree.specs.Text.{separated}
use Rattle.js_tree.proofs.Lists.{listed}
use Rattle.js_tree.proofs.print.push_names.Given as goal

abbrev pub invariant-loop-name : goal.invariant-loop-name
invariant-loop-name l = l.out ++ listed l.is_first (drop l.name-index l.names) ≡ l.fn.out ++ separated l.names
