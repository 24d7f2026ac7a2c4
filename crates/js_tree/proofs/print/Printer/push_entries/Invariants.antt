use Rattle.std.proofs.Common.{◌≡◌, ◌++◌, map, drop}
use Rattle.js_tree.specs.Text.{separated, text_of_entry}
use Rattle.js_tree.proofs.Lists.{listed}
use Rattle.js_tree.proofs.print.Printer.push_entries.Given as goal

abbrev pub invariant-loop-entry : goal.invariant-loop-entry
invariant-loop-entry g l = l.out ++ listed l.is_first (map text_of_entry (drop l.entry-index l.entries)) ≡ l.fn.out ++ separated (map text_of_entry l.entries)
