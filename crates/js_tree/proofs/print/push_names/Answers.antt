use Rattle.std.proofs.Common.{◌++◌, sym, ap}
use Rattle.js_tree.proofs.Lists.{separated_listed}
use Rattle.js_tree.proofs.print.push_names.Goals as goal

pub loop-name-init : goal.loop-name-init
loop-name-init c = ap (λ text. c.args.out.now ++ text) (sym (separated_listed c.args.names.now))
