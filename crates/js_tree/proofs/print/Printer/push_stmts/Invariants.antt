use Rattle.std.proofs.Common.{◌≡◌, ◌++◌, map, drop}
use Rattle.js_tree.specs.Text.{joined, text_of_stmt}
use Rattle.js_tree.proofs.print.Printer.push_stmts.Given as goal

abbrev pub invariant-loop-stmt : goal.invariant-loop-stmt
invariant-loop-stmt g l = l.out ++ joined (map text_of_stmt (drop l.stmt-index l.stmts)) ≡ l.fn.out ++ joined (map text_of_stmt l.stmts)
