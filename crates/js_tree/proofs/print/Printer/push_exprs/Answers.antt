use Rattle.std.proofs.Common.{◌++◌, map, sym, ap}
use Rattle.js_tree.specs.Text.{text_of_expr}
use Rattle.js_tree.proofs.Lists.{separated_listed}
use Rattle.js_tree.proofs.print.Printer.push_exprs.Goals as goal

pub loop-expr-init : goal.loop-expr-init
loop-expr-init g c = ap (λ text. c.args.out.now ++ text) (sym (separated_listed (map text_of_expr c.args.exprs.now)))
