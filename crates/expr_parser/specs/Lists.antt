-- Expressions and entries with commas between, and arguments.
use Rattle.std.specs.Prelude.{ℕ, zero, suc, Bool, not, ◌&&◌, if◌then◌else◌, List, [], ◌∷◌, ◌++◌, length, Some, None}
use Rattle.dart_syntax.specs.declared.words.Sign.{Sign}
use Rattle.dart_syntax.specs.declared.words.Sign.TheVariants as s
use Rattle.dart_grammar.specs.declared.trees.Expr.{Expr}
use Rattle.dart_grammar.specs.declared.trees.Arguments.{Arguments}
use Rattle.dart_grammar.specs.declared.trees.Entry.{Entry}
use Rattle.dart_grammar.specs.Marks.{Tokens, next_sign, behind}
use Rattle.dart_grammar.specs.Shapes.{◌>>=◌}
use Rattle.dart_grammar.specs.Trees.{span}
use Rattle.expr_parser.specs.Cursor.{Parser, Skipper, sign_at}
use Rattle.expr_parser.specs.Inner.{Inner}

-- one more item follows, and not the sign that closes
abbrev pub goes_on : Sign → Tokens → Bool
goes_on close ts = next_sign s.Comma ts && not (next_sign close (behind ts))

-- a comma, if there is one, and the sign that closes, with where it ends
unfoldable pub last_comma : Sign → Parser ℕ
last_comma close ts =
    if next_sign s.Comma ts then (do q ← sign_at close (behind ts); Some (q.0.to, q.1))
    else (do q ← sign_at close ts; Some (q.0.to, q.1))

module _ (g : Inner) where
  -- The number bounds the turns, each of which takes a token.
  unfoldable pub exprs_from : Sign → ℕ → List Expr → Parser (List Expr)
  exprs_from close zero found ts = None
  exprs_from close (suc n) found ts = do
    x ← g.expr ts
    if goes_on close x.1 then exprs_from close n (found ++ x.0 ∷ []) (behind x.1) else Some (found ++ x.0 ∷ [], x.1)

  -- expressions, before a sign that closes
  unfoldable pub exprs : Sign → Parser (List Expr)
  exprs close ts = exprs_from close (length ts) [] ts

  -- the value of an entry, with the colon before it
  unfoldable pub entry_value : Parser Expr
  entry_value ts = do
    c ← sign_at s.Colon ts
    g.expr c.1

  unfoldable pub entry : Parser Entry
  entry ts = do
    a ← g.expr ts
    d ← entry_value a.1
    Some (record { key = a.0; value = d.0 }, d.1)

  unfoldable pub entries_from : ℕ → List Entry → Parser (List Entry)
  entries_from zero found ts = None
  entries_from (suc n) found ts = do
    x ← entry ts
    if goes_on s.CloseBrace x.1 then entries_from n (found ++ x.0 ∷ []) (behind x.1) else Some (found ++ x.0 ∷ [], x.1)

  unfoldable pub entries : Parser (List Entry)
  entries ts = entries_from (length ts) [] ts

  unfoldable pub arguments : Parser Arguments
  arguments ts = do
    p ← sign_at s.OpenParen ts
    if next_sign s.CloseParen p.1 then (do
      q ← sign_at s.CloseParen p.1
      Some (record { span = span p.0.from q.0.to; items = [] }, q.1))
        else (do
          xs ← exprs s.CloseParen p.1
          q ← sign_at s.CloseParen xs.1
          Some (record { span = span p.0.from q.0.to; items = xs.0 }, q.1))

  unfoldable pub past_arguments : Skipper
  past_arguments ts = if next_sign s.OpenParen ts then (do a ← arguments ts; Some a.1) else Some ts
