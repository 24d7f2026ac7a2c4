use Rattle.std.proofs.Common.{arith}
use Rattle.std.proofs.lemmas.Grind.{common_steps}
use Rattle.js_tree.proofs.Layers.{text_of_its_body}
use Rattle.js_tree.proofs.print.Printer.push_function.Goals as goal

pub returns : goal.returns
returns g c = rw (text_of_its_body c.args.function.now) (grind (arith, common_steps))
