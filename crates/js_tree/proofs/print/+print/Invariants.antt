use Rattle.js_tree.proofs.print.+print.Given as goal

abbrev pub decreases-expr_to : goal.decreases-expr_to
decreases-expr_to l = l.depth

abbrev pub decreases-stmt_to : goal.decreases-stmt_to
decreases-stmt_to l = l.depth
