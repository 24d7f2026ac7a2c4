-- The parsers of what nests: expressions, statements and parameters.
use Rattle.dart_grammar.specs.declared.trees.Expr.{Expr}
use Rattle.dart_grammar.specs.declared.trees.Stmt.{Stmt}
use Rattle.dart_grammar.specs.declared.trees.Parameters.{Parameters}
use Rattle.expr_parser.specs.Cursor.{Parser}

pub record Inner : Type 0 where
  pub expr : Parser Expr
  pub stmt : Parser Stmt
  pub parameters : Parser Parameters
