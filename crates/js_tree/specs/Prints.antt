-- What the functions that a printer is passed give.
use Rattle.std.specs.Prelude.{◌≡◌, ℕ, ◌++◌, Result, OnOk}
use Rattle.std.specs.declared.alloc.AllocError.{AllocError}
use denote.Ref.{Bor, MutBor}
use Rattle.js_tree.specs.declared.tree.JsExpr.{JsExpr}
use Rattle.js_tree.specs.declared.tree.JsStmt.{JsStmt}
use Rattle.js_tree.specs.Tokens.{Bytes}
use Rattle.js_tree.specs.Text.{text_of_expr, text_of_stmt}

pub record Prints (depth : ℕ)
    (expr_pre : ℕ → MutBor Bytes → Bor JsExpr → Type 0) (expr_post : ℕ → MutBor Bytes → Bor JsExpr → Result (Unit {0}) AllocError → MutBor Bytes → Type 0)
    (stmt_pre : ℕ → MutBor Bytes → Bor JsStmt → Type 0) (stmt_post : ℕ → MutBor Bytes → Bor JsStmt → Result (Unit {0}) AllocError → MutBor Bytes → Type 0) : Type 0 where
  pub can_expr : (old : MutBor Bytes) (a : Bor JsExpr) → expr_pre depth old a
  pub exprs : (old new : MutBor Bytes) (a : Bor JsExpr) (r : Result (Unit {0}) AllocError) → expr_post depth old a r new → OnOk r (new.now ≡ old.now ++ text_of_expr a.now)
  pub can_stmt : (old : MutBor Bytes) (a : Bor JsStmt) → stmt_pre depth old a
  pub stmts : (old new : MutBor Bytes) (a : Bor JsStmt) (r : Result (Unit {0}) AllocError) → stmt_post depth old a r new → OnOk r (new.now ≡ old.now ++ text_of_stmt a.now)
