use Rattle.js_reader.proofs.grammar.+parser.Given as goal

abbrev pub decreases-expr : goal.decreases-expr
decreases-expr l = l.depth

abbrev pub decreases-stmt : goal.decreases-stmt
decreases-stmt l = l.depth
