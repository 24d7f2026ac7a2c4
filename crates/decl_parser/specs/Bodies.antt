-- Bodies, functions, accessors and operators, from behind their metadata; `from` is where that begins.
use Rattle.std.specs.Prelude.{ℕ, Bool, true, if◌then◌else◌, List, [], ◌∷◌, Option, Some, None}
use Rattle.dart_syntax.specs.declared.tokens.Form.{Form}
use Rattle.dart_syntax.specs.declared.tokens.Form.TheVariants as f
use Rattle.dart_syntax.specs.declared.words.Sign.{Sign}
use Rattle.dart_syntax.specs.declared.words.Sign.TheVariants as s
use Rattle.dart_grammar.specs.declared.trees.Span.{Span}
use Rattle.dart_grammar.specs.declared.trees.Body.{Body}
use Rattle.dart_grammar.specs.declared.trees.Body.TheVariants as b
use Rattle.dart_grammar.specs.declared.declarations.Function.{Function}
use Rattle.dart_grammar.specs.declared.declarations.Getter.{Getter}
use Rattle.dart_grammar.specs.declared.declarations.Setter.{Setter}
use Rattle.dart_grammar.specs.declared.declarations.OperatorName.{OperatorName}
use Rattle.dart_grammar.specs.declared.declarations.OperatorName.TheVariants as o
use Rattle.dart_grammar.specs.declared.declarations.OperatorMethod.{OperatorMethod}
use Rattle.dart_grammar.specs.Marks.{Tokens, next_sign, behind}
use Rattle.dart_grammar.specs.Shapes.{◌>>=◌}
use Rattle.dart_grammar.specs.Trees.{span}
use Rattle.dart_grammar.specs.Declarations.{next_named, get_word, set_word, operator_word, native_word, kind_at, is_variables}
use Rattle.expr_parser.specs.Cursor.{Parser, Skipper, sign_at, name_at}
use Rattle.expr_parser.specs.Types.{past_result}
use Rattle.expr_parser.specs.Inner.{Inner}
use Rattle.expr_parser.specs.Parameters.{parameter}
use Rattle.expr_parser.specs.Blocks.{block}

-- the name of this spelling, and where it stands
unfoldable pub named_at : List ℕ → Parser Span
named_at text ts = if next_named text ts then (do x ← name_at ts; Some (x.0.span, x.1)) else None

-- a type, or `void`, before `get`, `set` and `operator`
unfoldable pub past_type_before : Skipper
past_type_before ts = if is_variables (kind_at ts) then past_result ts else Some ts

unfoldable pub native_body : Parser (Body × ℕ)
native_body ts = do
  w ← named_at native_word ts
  x ← name_at w.1
  q ← sign_at s.Semicolon x.1
  Some ((b.Native x.0, q.0.to), q.1)

-- ---- the signs that a class can declare

-- `[]` or `[]=`, behind its bracket, from where that begins
unfoldable pub index_name : ℕ → Parser (OperatorName × Span)
index_name from ts = do
  q ← sign_at s.CloseBracket ts
  if next_sign s.Assign q.1 then (do r ← sign_at s.Assign q.1; Some ((o.SetIndex, span from r.0.to), r.1))
      else Some ((o.Index, span from q.0.to), q.1)

abbrev pub operator_by : Form → Span → Parser (OperatorName × Span)
operator_by (f.Sign s.Plus) at ts = Some ((o.Plus, at), ts)
operator_by (f.Sign s.Minus) at ts = Some ((o.Minus, at), ts)
operator_by (f.Sign s.Times) at ts = Some ((o.Times, at), ts)
operator_by (f.Sign s.Divide) at ts = Some ((o.Divide, at), ts)
operator_by (f.Sign s.Modulo) at ts = Some ((o.Modulo, at), ts)
operator_by (f.Sign s.Less) at ts = Some ((o.Less, at), ts)
operator_by (f.Sign s.Greater) at ts = Some ((o.Greater, at), ts)
operator_by (f.Sign s.LessEqual) at ts = Some ((o.LessEqual, at), ts)
operator_by (f.Sign s.GreaterEqual) at ts = Some ((o.GreaterEqual, at), ts)
operator_by (f.Sign s.OpenBracket) at ts = index_name at.from ts
operator_by _ at ts = None

unfoldable pub operator_name : Parser (OperatorName × Span)
operator_name [] = None
operator_name (t ∷ ts) = operator_by t.form (span t.from t.to) ts

module _ (g : Inner) (native : Bool) where
  -- what a function does, and where it ends
  unfoldable pub body : Bool → Parser (Body × ℕ)
  body in_class ts =
      if next_sign s.Arrow ts then (do a ← g.expr (behind ts); q ← sign_at s.Semicolon a.1; Some ((b.Gives a.0, q.0.to), q.1))
      else if next_sign s.OpenBrace ts then (do x ← block g ts; Some ((b.Block x.0.0, x.0.1), x.1))
      else if next_sign s.Semicolon ts then (if in_class then (do q ← sign_at s.Semicolon ts; Some ((b.Abstract, q.0.to), q.1)) else None)
      else (if native then native_body ts else None)

  unfoldable pub function : Bool → ℕ → Parser Function
  function in_class from ts = do
    mid ← past_result ts
    x ← name_at mid
    ps ← g.parameters x.1
    d ← body in_class ps.1
    Some (record { span = span from d.0.1; name = x.0; parameters = ps.0; body = d.0.0 }, d.1)

  unfoldable pub getter : Bool → ℕ → Parser Getter
  getter in_class from ts = do
    mid ← past_type_before ts
    w ← named_at get_word mid
    x ← name_at w.1
    d ← body in_class x.1
    Some (record { span = span from d.0.1; name = x.0; body = d.0.0 }, d.1)

  unfoldable pub setter : Bool → ℕ → Parser Setter
  setter in_class from ts = do
    mid ← past_type_before ts
    w ← named_at set_word mid
    x ← name_at w.1
    p ← sign_at s.OpenParen x.1
    v ← parameter g p.1
    q ← sign_at s.CloseParen v.1
    d ← body in_class q.1
    Some (record { span = span from d.0.1; name = x.0; parameter = v.0; body = d.0.0 }, d.1)

  unfoldable pub operator_method : ℕ → Parser OperatorMethod
  operator_method from ts = do
    mid ← past_type_before ts
    w ← named_at operator_word mid
    x ← operator_name w.1
    ps ← g.parameters x.1
    d ← body true ps.1
    Some (record { span = span from d.0.1; operator = x.0.0; sign = x.0.1; parameters = ps.0; body = d.0.0 }, d.1)
