-- Blocks, and what a function does.
use Rattle.std.specs.Prelude.{ℕ, zero, suc, if◌then◌else◌, List, [], ◌∷◌, ◌++◌, length, Some, None}
use Rattle.dart_syntax.specs.declared.words.Sign.TheVariants as s
use Rattle.dart_grammar.specs.declared.trees.Stmt.{Stmt}
use Rattle.dart_grammar.specs.declared.trees.Body.{Body}
use Rattle.dart_grammar.specs.declared.trees.Body.TheVariants as b
use Rattle.dart_grammar.specs.Marks.{next_sign, behind}
use Rattle.dart_grammar.specs.Shapes.{◌>>=◌}
use Rattle.dart_grammar.specs.Trees.{span_of}
use Rattle.expr_parser.specs.Cursor.{Parser, sign_at}
use Rattle.expr_parser.specs.Inner.{Inner}

module _ (g : Inner) where
  -- statements up to a `}`; the number bounds the turns, each of which takes a token
  unfoldable pub stmts_from : ℕ → List Stmt → Parser (List Stmt)
  stmts_from zero found ts = None
  stmts_from (suc n) found ts =
      if next_sign s.CloseBrace ts then Some (found, ts)
      else (do x ← g.stmt ts; stmts_from n (found ++ x.0 ∷ []) x.1)

  -- a block, and where it ends
  unfoldable pub block : Parser (List Stmt × ℕ)
  block ts = do
    p ← sign_at s.OpenBrace ts
    xs ← stmts_from (length p.1) [] p.1
    q ← sign_at s.CloseBrace xs.1
    Some ((xs.0, q.0.to), q.1)

  -- the body of a function literal, and where it ends
  unfoldable pub literal_body : Parser (Body × ℕ)
  literal_body ts =
      if next_sign s.Arrow ts then (do a ← g.expr (behind ts); Some ((b.Gives a.0, (span_of a.0).to), a.1))
      else (do x ← block ts; Some ((b.Block x.0.0, x.0.1), x.1))

  -- the body of a local function, and where it ends
  unfoldable pub local_body : Parser (Body × ℕ)
  local_body ts =
      if next_sign s.Arrow ts then (do a ← g.expr (behind ts); q ← sign_at s.Semicolon a.1; Some ((b.Gives a.0, q.0.to), q.1))
      else (do x ← block ts; Some ((b.Block x.0.0, x.0.1), x.1))
