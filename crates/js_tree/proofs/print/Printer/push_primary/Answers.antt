use Rattle.std.proofs.Common.{arith}
use Rattle.std.proofs.lemmas.Grind.{common_steps}
use Rattle.js_tree.proofs.Layers.{text_of_its_parts}
use Rattle.js_tree.proofs.print.Printer.push_primary.Goals as goal

pub returns : goal.returns
returns g c = rw (text_of_its_parts c.args.primary.now) (grind (arith, common_steps))
