use Rattle.std.proofs.Common.{◌++◌, map, sym, ap}
use Rattle.js_tree.specs.Text.{text_of_entry}
use Rattle.js_tree.proofs.Lists.{separated_listed}
use Rattle.js_tree.proofs.print.Printer.push_entries.Goals as goal

pub loop-entry-init : goal.loop-entry-init
loop-entry-init g c = ap (λ text. c.args.out.now ++ text) (sym (separated_listed (map text_of_entry c.args.entries.now)))
