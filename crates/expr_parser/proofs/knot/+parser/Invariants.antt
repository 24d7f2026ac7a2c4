use Rattle.expr_parser.proofs.knot.+parser.Given as goal

abbrev pub decreases-expr : goal.decreases-expr
decreases-expr l = l.depth

abbrev pub decreases-stmt : goal.decreases-stmt
decreases-stmt l = l.depth

abbrev pub decreases-parameters : goal.decreases-parameters
decreases-parameters l = l.depth
