use Rattle.std.proofs.Common.{arith}
use Rattle.std.proofs.lemmas.Grind.{common_steps}
use Rattle.js_tree.proofs.Layers.{text_of_key_and_value}
use Rattle.js_tree.proofs.print.Printer.push_entry.Goals as goal

pub returns : goal.returns
returns g c = rw (text_of_key_and_value c.args.entry.now) (grind (arith, common_steps))
