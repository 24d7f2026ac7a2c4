-- The grammar has at most one tree for tokens, and the parser finds it.
use Rattle.std.specs.Prelude.{◌≡◌, suc, length, ℕ, Some}
use Rattle.dart_grammar.specs.declared.trees.Expr.{Expr}
use Rattle.dart_grammar.specs.declared.trees.Stmt.{Stmt}
use Rattle.dart_grammar.specs.Marks.{Tokens, looseness}
use Rattle.dart_grammar.specs.Grammar.{IsExpr, IsStmt}
use Rattle.expr_parser.specs.Knot.{expr_at, stmt_at}

-- Tokens begin with at most one expression that no joining token follows.
abbrev pub OneExpression : Type 0
OneExpression = (ts r s : Tokens) (a b : Expr) → IsExpr ts a r → looseness r ≡ 10 → IsExpr ts b s → looseness s ≡ 10 → (a ≡ b) × (r ≡ s)

-- Tokens begin with at most one statement.
abbrev pub OneStatement : Type 0
OneStatement = (ts r s : Tokens) (a b : Stmt) → IsStmt ts a r → IsStmt ts b s → (a ≡ b) × (r ≡ s)

-- What is parsed to a depth is derived.
abbrev pub ExpressionsAreDerived : Type 0
ExpressionsAreDerived = (n : ℕ) (ts r : Tokens) (a : Expr) → expr_at n ts ≡ Some (a, r) → IsExpr ts a r × (looseness r ≡ 10)

abbrev pub StatementsAreDerived : Type 0
StatementsAreDerived = (n : ℕ) (ts r : Tokens) (a : Stmt) → stmt_at n ts ≡ Some (a, r) → IsStmt ts a r

-- What is derived is parsed, where the depth is the number of tokens, and one more for a statement.
abbrev pub ExpressionsAreParsed : Type 0
ExpressionsAreParsed = (ts r : Tokens) (a : Expr) → IsExpr ts a r → looseness r ≡ 10 → expr_at (length ts) ts ≡ Some (a, r)

abbrev pub StatementsAreParsed : Type 0
StatementsAreParsed = (ts r : Tokens) (a : Stmt) → IsStmt ts a r → stmt_at (suc (length ts)) ts ≡ Some (a, r)
