-- Function values that parse what stands in brackets, nested less deep than a number.
use Rattle.std.specs.Prelude.{ℕ, Result, List}
use denote.Ref.{Bor}
use Rattle.js_tree.specs.declared.tree.JsExpr.{JsExpr}
use Rattle.js_tree.specs.declared.tree.JsStmt.{JsStmt}
use Rattle.js_reader.specs.declared.fault.JsFault.{JsFault}
use Rattle.js_reader.specs.declared.source.Source.{Source}
use Rattle.js_reader.specs.Scanning.{tokens_of}
use Rattle.js_reader.specs.Taking.{Gives}
use Rattle.js_reader.specs.Parsing.{expr_at, stmt_at}

abbrev pub Pre : Type 1
Pre = Source → Bor (List ℕ) → ℕ → Type 0

abbrev pub Post : Type 0 → Type 1
Post A = Source → Bor (List ℕ) → ℕ → Result (A × Bor (List ℕ)) JsFault → Type 0

pub record Nests (depth : ℕ) (expr_pre : Pre) (expr_post : Post JsExpr) (stmt_pre : Pre) (stmt_post : Post JsStmt) : Type 0 where
  pub expr_callable : (source : Source) (bytes : Bor (List ℕ)) → expr_pre source bytes depth
  pub expr_parses : (source : Source) (bytes : Bor (List ℕ)) (r : Result (JsExpr × Bor (List ℕ)) JsFault) → expr_post source bytes depth r
      → Gives (λ x. (x.0, tokens_of source.size x.1.now)) r (expr_at source.size depth (tokens_of source.size bytes.now))
  pub stmt_callable : (source : Source) (bytes : Bor (List ℕ)) → stmt_pre source bytes depth
  pub stmt_parses : (source : Source) (bytes : Bor (List ℕ)) (r : Result (JsStmt × Bor (List ℕ)) JsFault) → stmt_post source bytes depth r
      → Gives (λ x. (x.0, tokens_of source.size x.1.now)) r (stmt_at source.size depth (tokens_of source.size bytes.now))
