-- Statements.
use Rattle.std.specs.Prelude.{ℕ, zero, suc, if◌then◌else◌, List, [], ◌∷◌, ◌++◌, length, Option, Some, None}
use Rattle.dart_syntax.specs.declared.words.Word.{Word}
use Rattle.dart_syntax.specs.declared.words.Word.TheVariants as w
use Rattle.dart_syntax.specs.declared.words.Sign.{Sign}
use Rattle.dart_syntax.specs.declared.words.Sign.TheVariants as s
use Rattle.dart_syntax.specs.declared.tokens.Form.{Form}
use Rattle.dart_syntax.specs.declared.tokens.Form.TheVariants as f
use Rattle.dart_grammar.specs.declared.trees.Name.{Name}
use Rattle.dart_grammar.specs.declared.trees.Expr.{Expr}
use Rattle.dart_grammar.specs.declared.trees.Stmt.{Stmt}
use Rattle.dart_grammar.specs.declared.trees.Stmt.TheVariants as c
use Rattle.dart_grammar.specs.declared.trees.Catch.{Catch}
use Rattle.dart_grammar.specs.declared.trees.Variable.{Variable}
use Rattle.dart_grammar.specs.declared.trees.Variable.TheVariants as v
use Rattle.dart_grammar.specs.declared.trees.Variables.{Variables}
use Rattle.dart_grammar.specs.Marks.{Tokens, next_word, next_sign, behind}
use Rattle.dart_grammar.specs.declared.kinds.Kind.{Kind}
use Rattle.dart_grammar.specs.declared.kinds.Kind.TheVariants.{Variables as OfVariables, Typed, Untyped, Expression}
use Rattle.dart_grammar.specs.declared.kinds.ForKind.{ForKind}
use Rattle.dart_grammar.specs.declared.kinds.ForKind.TheVariants.{In, DeclaredIn, Declared, Expressions}
use Rattle.dart_grammar.specs.Shapes.{◌>>=◌, begins_map, kind_of, for_kind_of, begins_clause}
use Rattle.dart_grammar.specs.Trees.{span, stmt_span}
use Rattle.dart_grammar.specs.Grammar.{start}
use Rattle.expr_parser.specs.Cursor.{Parser, sign_at, word_at, name_at}
use Rattle.expr_parser.specs.Types.{type_at, past_result, lead}
use Rattle.expr_parser.specs.Inner.{Inner}
use Rattle.expr_parser.specs.Lists.{exprs}
use Rattle.expr_parser.specs.Blocks.{block, local_body}

-- `(name)`
unfoldable pub caught : Parser Name
caught ts = do
  p ← sign_at s.OpenParen ts
  x ← name_at p.1
  q ← sign_at s.CloseParen x.1
  Some (x.0, q.1)

-- `catch (name)`, if it stands here
unfoldable pub may_catch : Parser (Option Name)
may_catch ts = if next_word w.Catch ts then (do x ← caught (behind ts); Some (Some x.0, x.1)) else Some (None, ts)

-- a `try` behind its clauses, which end at j
abbrev pub without_finally : ℕ → List Stmt → List Catch → ℕ → Parser Stmt
without_finally from xs [] j ts = None
without_finally from xs (d ∷ ds) j ts = Some (c.Try (span from j) xs (d ∷ ds), ts)

module _ (g : Inner) where
  -- ---- parts of statements

  unfoldable pub variable : Parser Variable
  variable ts = do
    x ← name_at ts
    if next_sign s.Assign x.1 then (do a ← g.expr (behind x.1); Some (v.Initialised x.0 a.0, a.1)) else Some (v.Unset x.0, x.1)

  -- the number bounds the turns, each of which takes a token
  unfoldable pub variables_from : ℕ → List Variable → Parser (List Variable)
  variables_from zero found ts = None
  variables_from (suc n) found ts = do
    x ← variable ts
    if next_sign s.Comma x.1 then variables_from n (found ++ x.0 ∷ []) (behind x.1) else Some (found ++ x.0 ∷ [], x.1)

  -- variables that are declared, and where the `;` ends
  unfoldable pub variables : Parser (Variables × ℕ)
  variables ts = do
    is_final ← lead ts
    xs ← variables_from (length is_final.1) [] is_final.1
    q ← sign_at s.Semicolon xs.1
    Some ((record { is_final = is_final.0; items = xs.0 }, q.0.to), q.1)

  -- `(value)`
  unfoldable pub condition : Parser Expr
  condition ts = do
    p ← sign_at s.OpenParen ts
    a ← g.expr p.1
    q ← sign_at s.CloseParen a.1
    Some (a.0, q.1)

  -- ---- declarations and expressions

  unfoldable pub declare : Parser Stmt
  declare ts = do
    x ← variables ts
    Some (c.Declare (span (start ts) x.0.1) x.0.0, x.1)

  -- from the name of a local function; the statement begins at `from`
  unfoldable pub local_function : ℕ → Parser Stmt
  local_function from ts = do
    x ← name_at ts
    ps ← g.parameters x.1
    d ← local_body g ps.1
    Some (c.LocalFunction (span from d.0.1) x.0 ps.0 d.0.0, d.1)

  unfoldable pub typed_function : Parser Stmt
  typed_function ts = do
    mid ← past_result ts
    local_function (start ts) mid

  unfoldable pub evaluate : Parser Stmt
  evaluate ts =
      if begins_map ts then None
      else (do
        a ← g.expr ts
        q ← sign_at s.Semicolon a.1
        Some (c.Evaluate (span (start ts) q.0.to) a.0, q.1))

  abbrev pub kinded : Kind → Parser Stmt
  kinded OfVariables ts = declare ts
  kinded Typed ts = typed_function ts
  kinded Untyped ts = local_function (start ts) ts
  kinded Expression ts = evaluate ts

  unfoldable pub simple : Parser Stmt
  simple ts = kinded (kind_of ts) ts

  -- ---- statements that begin with a word or a sign of their own. The first number is where the statement begins, and the
  -- tokens stand behind the word.

  unfoldable pub nested_block : Parser Stmt
  nested_block ts = do
    x ← block g ts
    Some (c.Nested (span (start ts) x.0.1) x.0.0, x.1)

  -- behind the first statement of an `if`
  unfoldable pub otherwise : ℕ → Expr → Stmt → Parser Stmt
  otherwise from a x ts =
      if next_word w.Else ts then (do y ← g.stmt (behind ts); Some (c.IfElse (span from (stmt_span y.0).to) a x y.0, y.1))
      else Some (c.If (span from (stmt_span x).to) a x, ts)

  unfoldable pub choose : ℕ → Parser Stmt
  choose from ts = do
    a ← condition ts
    x ← g.stmt a.1
    otherwise from a.0 x.0 x.1

  unfoldable pub repeat : ℕ → Parser Stmt
  repeat from ts = do
    a ← condition ts
    x ← g.stmt a.1
    Some (c.While (span from (stmt_span x.0).to) a.0 x.0, x.1)

  unfoldable pub repeat_once : ℕ → Parser Stmt
  repeat_once from ts = do
    x ← g.stmt ts
    p ← word_at w.While x.1
    a ← condition p.1
    q ← sign_at s.Semicolon a.1
    Some (c.Do (span from q.0.to) x.0 a.0, q.1)

  -- an expression and the `;` behind it, or the `;` alone
  unfoldable pub loop_test : Parser (Option Expr)
  loop_test ts =
      if next_sign s.Semicolon ts then Some (None, behind ts)
      else (do a ← g.expr ts; q ← sign_at s.Semicolon a.1; Some (Some a.0, q.1))

  -- expressions and the sign that closes, or that sign alone
  unfoldable pub closed_exprs : Sign → Parser (List Expr)
  closed_exprs close ts =
      if next_sign close ts then Some ([], behind ts)
      else (do xs ← exprs g close ts; q ← sign_at close xs.1; Some (xs.0, q.1))

  unfoldable pub loop_declared : ℕ → Parser Stmt
  loop_declared from ts = do
    x ← variables ts
    a ← loop_test x.1
    xs ← closed_exprs s.CloseParen a.1
    y ← g.stmt xs.1
    Some (c.ForDeclared (span from (stmt_span y.0).to) x.0.0 a.0 xs.0 y.0, y.1)

  unfoldable pub loop_plain : ℕ → Parser Stmt
  loop_plain from ts = do
    ys ← closed_exprs s.Semicolon ts
    a ← loop_test ys.1
    xs ← closed_exprs s.CloseParen a.1
    y ← g.stmt xs.1
    Some (c.For (span from (stmt_span y.0).to) ys.0 a.0 xs.0 y.0, y.1)

  -- behind `in`: the values and the `)`, and the body
  unfoldable pub each : Parser (Expr × Stmt)
  each ts = do
    a ← g.expr ts
    q ← sign_at s.CloseParen a.1
    y ← g.stmt q.1
    Some ((a.0, y.0), y.1)

  unfoldable pub loop_in_declared : ℕ → Parser Stmt
  loop_in_declared from ts = do
    is_final ← lead ts
    x ← name_at is_final.1
    p ← word_at w.In x.1
    y ← each p.1
    Some (c.ForInDeclared (span from (stmt_span y.0.1).to) is_final.0 x.0 y.0.0 y.0.1, y.1)

  unfoldable pub loop_in : ℕ → Parser Stmt
  loop_in from ts = do
    x ← name_at ts
    p ← word_at w.In x.1
    y ← each p.1
    Some (c.ForIn (span from (stmt_span y.0.1).to) x.0 y.0.0 y.0.1, y.1)

  abbrev pub loop_by : ForKind → ℕ → Parser Stmt
  loop_by In from ts = loop_in from ts
  loop_by DeclaredIn from ts = loop_in_declared from ts
  loop_by Declared from ts = loop_declared from ts
  loop_by Expressions from ts = loop_plain from ts

  unfoldable pub for_loop : ℕ → Parser Stmt
  for_loop from ts = do
    p ← sign_at s.OpenParen ts
    loop_by (for_kind_of p.1) from p.1

  unfoldable pub break_loop : ℕ → Parser Stmt
  break_loop from ts = do
    q ← sign_at s.Semicolon ts
    Some (c.Break (span from q.0.to), q.1)

  unfoldable pub continue_loop : ℕ → Parser Stmt
  continue_loop from ts = do
    q ← sign_at s.Semicolon ts
    Some (c.Continue (span from q.0.to), q.1)

  unfoldable pub leave : ℕ → Parser Stmt
  leave from ts =
      if next_sign s.Semicolon ts then (do q ← sign_at s.Semicolon ts; Some (c.Return (span from q.0.to), q.1))
      else (do a ← g.expr ts; q ← sign_at s.Semicolon a.1; Some (c.ReturnValue (span from q.0.to) a.0, q.1))

  unfoldable pub throw_again : ℕ → Parser Stmt
  throw_again from ts = do
    q ← sign_at s.Semicolon ts
    Some (c.Rethrow (span from q.0.to), q.1)

  unfoldable pub asserted : ℕ → Parser Stmt
  asserted from ts = do
    a ← condition ts
    q ← sign_at s.Semicolon a.1
    Some (c.Assert (span from q.0.to), q.1)

  -- ---- `try`

  unfoldable pub catch_all : ℕ → Parser Catch
  catch_all from ts = do
    x ← caught ts
    ys ← block g x.1
    Some (record { span = span from ys.0.1; type_names = None; name = Some x.0; body = ys.0.0 }, ys.1)

  unfoldable pub catch_typed : ℕ → Parser Catch
  catch_typed from ts = do
    xs ← type_at ts
    x ← may_catch xs.1
    ys ← block g x.1
    Some (record { span = span from ys.0.1; type_names = Some xs.0.0; name = x.0; body = ys.0.0 }, ys.1)

  unfoldable pub clause : Parser Catch
  clause ts = if next_word w.Catch ts then catch_all (start ts) (behind ts) else catch_typed (start ts) (behind ts)

  -- clauses, and where the last one ends, or else what stands before them; the number bounds the turns, each of which takes
  -- a token
  unfoldable pub clauses_from : ℕ → List Catch → ℕ → Parser (List Catch × ℕ)
  clauses_from zero found j ts = None
  clauses_from (suc n) found j ts =
      if begins_clause ts then (do x ← clause ts; clauses_from n (found ++ x.0 ∷ []) x.0.span.to x.1) else Some ((found, j), ts)

  unfoldable pub with_finally : ℕ → List Stmt → List Catch → Parser Stmt
  with_finally from xs ds ts = do
    ys ← block g ts
    Some (c.TryFinally (span from ys.0.1) xs ds ys.0.0, ys.1)

  unfoldable pub attempt : ℕ → Parser Stmt
  attempt from ts = do
    xs ← block g ts
    ds ← clauses_from (length ts) [] xs.0.1 xs.1
    if next_word w.Finally ds.1 then with_finally from xs.0.0 ds.0.0 (behind ds.1) else without_finally from xs.0.0 ds.0.0 ds.0.1 ds.1

  -- ---- by the first token, from the tokens that it begins and those behind it

  abbrev pub word_statement : Word → ℕ → Tokens → Parser Stmt
  word_statement w.If from ts rest = choose from rest
  word_statement w.While from ts rest = repeat from rest
  word_statement w.Do from ts rest = repeat_once from rest
  word_statement w.For from ts rest = for_loop from rest
  word_statement w.Break from ts rest = break_loop from rest
  word_statement w.Continue from ts rest = continue_loop from rest
  word_statement w.Return from ts rest = leave from rest
  word_statement w.Rethrow from ts rest = throw_again from rest
  word_statement w.Assert from ts rest = asserted from rest
  word_statement w.Try from ts rest = attempt from rest
  word_statement _ from ts rest = simple ts

  abbrev pub statement_by : Form → ℕ → ℕ → Tokens → Parser Stmt
  statement_by (f.Sign s.OpenBrace) from to ts rest = nested_block ts
  statement_by (f.Sign s.Semicolon) from to ts rest = Some (c.Empty (span from to), rest)
  statement_by (f.Word x) from to ts rest = word_statement x from ts rest
  statement_by _ from to ts rest = simple ts

  unfoldable pub statement : Parser Stmt
  statement [] = None
  statement (t ∷ ts) = statement_by t.form t.from t.to (t ∷ ts) ts
