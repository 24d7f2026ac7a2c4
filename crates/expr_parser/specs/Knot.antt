-- The parsers of what nests, each by the rules in which it stands. The number bounds how deep they nest.
use Rattle.std.specs.Prelude.{ℕ, zero, suc, None}
use Rattle.dart_grammar.specs.declared.trees.Expr.{Expr}
use Rattle.dart_grammar.specs.declared.trees.Stmt.{Stmt}
use Rattle.dart_grammar.specs.declared.trees.Parameters.{Parameters}
use Rattle.expr_parser.specs.Cursor.{Parser}
use Rattle.expr_parser.specs.Inner.{Inner}
use Rattle.expr_parser.specs.Parameters.{parameters}
use Rattle.expr_parser.specs.Operators.{ended}
use Rattle.expr_parser.specs.Statements.{statement}

unfoldable pub inner_at : ℕ → Inner
inner_at zero = record { expr = λ ts. None; stmt = λ ts. None; parameters = λ ts. None }
inner_at (suc n) = record { expr = ended (inner_at n); stmt = statement (inner_at n); parameters = parameters (inner_at n) }

abbrev pub expr_at : ℕ → Parser Expr
expr_at n = (inner_at n).expr

abbrev pub stmt_at : ℕ → Parser Stmt
stmt_at n = (inner_at n).stmt

abbrev pub parameters_at : ℕ → Parser Parameters
parameters_at n = (inner_at n).parameters
