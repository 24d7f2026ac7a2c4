use Rattle.dart_sites.proofs.knot.+walk.Given as goal

abbrev pub decreases-expr_to : goal.decreases-expr_to
decreases-expr_to g l = l.depth

abbrev pub decreases-stmt_to : goal.decreases-stmt_to
decreases-stmt_to g l = l.depth
