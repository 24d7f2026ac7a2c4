use Rattle.std.proofs.Common.{◌≡◌, ◌++◌, map, drop}
use Rattle.js_tree.specs.Text.{separated, text_of_expr}
use Rattle.js_tree.proofs.Lists.{listed}
use Rattle.js_tree.proofs.print.Printer.push_exprs.Given as goal

abbrev pub invariant-loop-expr : goal.invariant-loop-expr
invariant-loop-expr g l = l.out ++ listed l.is_first (map text_of_expr (drop l.expr-index l.exprs)) ≡ l.fn.out ++ separated (map text_of_expr l.exprs)
