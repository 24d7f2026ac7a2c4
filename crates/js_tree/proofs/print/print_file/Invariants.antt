use Rattle.std.proofs.Common.{◌≡◌, ◌++◌, map, drop}
use Rattle.js_tree.specs.Text.{joined, text_of_item}
use Rattle.js_tree.proofs.print.print_file.Given as goal

abbrev pub invariant-loop-item : goal.invariant-loop-item
invariant-loop-item l = l.out ++ joined (map text_of_item (drop l.item-index l.item-items)) ≡ joined (map text_of_item l.item-items)
