use Rattle.std.proofs.Common.{◌≡◌, ◌++◌, map, drop}
use Rattle.js_tree.specs.Text.{joined, text_of_selector}
use Rattle.js_tree.proofs.print.Printer.push_selectors.Given as goal

abbrev pub invariant-loop-selector : goal.invariant-loop-selector
invariant-loop-selector g l = l.out ++ joined (map text_of_selector (drop l.selector-index l.selectors)) ≡ l.fn.out ++ joined (map text_of_selector l.selectors)
