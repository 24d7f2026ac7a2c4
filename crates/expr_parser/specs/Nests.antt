-- Function values that parse what nests to a depth.
use Rattle.std.specs.Prelude.{ℕ, Result, List}
use Rattle.std.specs.declared.alloc.Global.{Global}
use denote.Ref.{Bor}
use Rattle.dart_syntax.specs.declared.tokens.Token.{Token}
use Rattle.dart_grammar.specs.declared.trees.Expr.{Expr}
use Rattle.dart_grammar.specs.declared.trees.Stmt.{Stmt}
use Rattle.dart_grammar.specs.declared.trees.Parameters.{Parameters}
use Rattle.expr_parser.specs.declared.fault.Fault.{Fault}
use Rattle.expr_parser.specs.Cursor.{Gives}
use Rattle.expr_parser.specs.Knot.{expr_at, stmt_at, parameters_at}

abbrev pub Pre : Type 1
Pre = Global → Bor (List Token) → ℕ → Type 0

abbrev pub Post : Type 0 → Type 1
Post A = Global → Bor (List Token) → ℕ → Result (A × Bor (List Token)) Fault → Type 0

pub record Nests (depth : ℕ) (expr_pre : Pre) (expr_post : Post Expr) (stmt_pre : Pre) (stmt_post : Post Stmt)
    (parameters_pre : Pre) (parameters_post : Post Parameters) : Type 0 where
  pub expr_callable : (alloc : Global) (ts : Bor (List Token)) → expr_pre alloc ts depth
  pub expr_parses : (alloc : Global) (ts : Bor (List Token)) (r : Result (Expr × Bor (List Token)) Fault) → expr_post alloc ts depth r
      → Gives (λ x. (x.0, x.1.now)) r (expr_at depth ts.now)
  pub stmt_callable : (alloc : Global) (ts : Bor (List Token)) → stmt_pre alloc ts depth
  pub stmt_parses : (alloc : Global) (ts : Bor (List Token)) (r : Result (Stmt × Bor (List Token)) Fault) → stmt_post alloc ts depth r
      → Gives (λ x. (x.0, x.1.now)) r (stmt_at depth ts.now)
  pub parameters_callable : (alloc : Global) (ts : Bor (List Token)) → parameters_pre alloc ts depth
  pub parameters_parse : (alloc : Global) (ts : Bor (List Token)) (r : Result (Parameters × Bor (List Token)) Fault) → parameters_post alloc ts depth r
      → Gives (λ x. (x.0, x.1.now)) r (parameters_at depth ts.now)
