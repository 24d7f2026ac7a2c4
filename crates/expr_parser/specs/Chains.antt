-- Heads, selectors and targets.
use Rattle.std.specs.Prelude.{ℕ, zero, suc, Bool, ◌||◌, if◌then◌else◌, List, [], ◌∷◌, ◌++◌, length, Option, Some, None}
use Rattle.dart_syntax.specs.declared.words.Word.{Word}
use Rattle.dart_syntax.specs.declared.words.Word.TheVariants as w
use Rattle.dart_syntax.specs.declared.words.Sign.{Sign}
use Rattle.dart_syntax.specs.declared.words.Sign.TheVariants as s
use Rattle.dart_syntax.specs.declared.tokens.Form.{Form}
use Rattle.dart_syntax.specs.declared.tokens.Form.TheVariants as f
use Rattle.dart_grammar.specs.declared.trees.Span.{Span}
use Rattle.dart_grammar.specs.declared.trees.Expr.{Expr, out-Expr}
use Rattle.dart_grammar.specs.declared.trees.Body.TheOpen.{Expr-F, Head-F, Selector-F}
use Rattle.dart_grammar.specs.declared.trees.Head.{Head, out-Head}
use Rattle.dart_grammar.specs.declared.trees.Head.TheVariants as h
use Rattle.dart_grammar.specs.declared.trees.Selector.{Selector, out-Selector}
use Rattle.dart_grammar.specs.declared.trees.Selector.TheVariants as l
use Rattle.dart_grammar.specs.declared.trees.Target.{Target}
use Rattle.dart_grammar.specs.declared.trees.Target.TheVariants as t
use Rattle.dart_grammar.specs.declared.trees.Chain.{Chain}
use Rattle.dart_grammar.specs.Marks.{Tokens, next_sign, behind}
use Rattle.dart_grammar.specs.Shapes.{◌>>=◌, opens_function}
use Rattle.dart_grammar.specs.Trees.{ExprLevel, HeadLevel, SelectorLevel, span, name_of, chain_of}
use Rattle.dart_grammar.specs.Grammar.{start}
use Rattle.expr_parser.specs.Cursor.{Parser, sign_at, name_at}
use Rattle.expr_parser.specs.Types.{past_type_arguments, new_names}
use Rattle.expr_parser.specs.Inner.{Inner}
use Rattle.expr_parser.specs.Lists.{last_comma, exprs, entries, arguments}
use Rattle.expr_parser.specs.Blocks.{literal_body}
use Rattle.expr_parser.specs.Texts.{texts}

-- ---- a target is a chain whose last selector is a member or an index, or a name alone

abbrev pub bare_at : HeadLevel → Option Target
bare_at (Head-F.Named x) = Some (t.Bare x)
bare_at _ = None

abbrev pub selected_at : Head → List Selector → SelectorLevel → Option Target
selected_at a xs (Selector-F.Member at y) = Some (t.MemberOf (chain_of a xs) y)
selected_at a xs (Selector-F.Index at d) = Some (t.IndexOf (chain_of a xs) at d)
selected_at a xs _ = None

-- of a head and selectors, where so many stand before them
abbrev pub target_from : Head → List Selector → List Selector → Option Target
target_from a before [] = bare_at (out-Head a)
target_from a before (x ∷ []) = selected_at a before (out-Selector x)
target_from a before (x ∷ y ∷ xs) = target_from a (before ++ x ∷ []) (y ∷ xs)

unfoldable pub target_of : Chain → Option Target
target_of c = target_from c.head [] c.selectors

abbrev pub chain_at_level : ExprLevel → Option Chain
chain_at_level (Expr-F.Chained c) = Some c
chain_at_level _ = None

-- the chain that an expression is
unfoldable pub chain_in : Expr → Option Chain
chain_in a = chain_at_level (out-Expr a)

abbrev pub begins_selector : Tokens → Bool
begins_selector ts = next_sign s.Dot ts || next_sign s.OpenBracket ts || next_sign s.OpenParen ts

module _ (g : Inner) where
  -- ---- heads

  -- behind `new`, from where that begins
  unfoldable pub new : ℕ → Parser Head
  new from ts = do
    xs ← new_names ts
    a ← arguments g xs.1
    Some (h.New (span from a.0.span.to) xs.0 a.0, a.1)

  unfoldable pub parenthesised : Parser Head
  parenthesised ts = do
    p ← sign_at s.OpenParen ts
    a ← g.expr p.1
    q ← sign_at s.CloseParen a.1
    Some (h.Parenthesised (span p.0.from q.0.to) a.0, q.1)

  unfoldable pub literal : Parser Head
  literal ts = do
    ps ← g.parameters ts
    d ← literal_body g ps.1
    Some (h.Literal (span (start ts) d.0.1) ps.0 d.0.0, d.1)

  -- behind the bracket, from where the literal begins
  unfoldable pub list : ℕ → Parser Head
  list from ts =
      if next_sign s.CloseBracket ts then (do q ← sign_at s.CloseBracket ts; Some (h.List (span from q.0.to) [], q.1))
      else (do xs ← exprs g s.CloseBracket ts; j ← last_comma s.CloseBracket xs.1; Some (h.List (span from j.0) xs.0, j.1))

  unfoldable pub map : ℕ → Parser Head
  map from ts =
      if next_sign s.CloseBrace ts then (do q ← sign_at s.CloseBrace ts; Some (h.Map (span from q.0.to) [], q.1))
      else (do xs ← entries g ts; j ← last_comma s.CloseBrace xs.1; Some (h.Map (span from j.0) xs.0, j.1))

  -- a list or a map, with its type arguments
  unfoldable pub collection : Parser Head
  collection ts = do
    mid ← past_type_arguments ts
    if next_sign s.OpenBracket mid then list (start ts) (behind mid)
        else (do p ← sign_at s.OpenBrace mid; map (start ts) p.1)

  abbrev pub super : Span → Parser Head
  super at rest = if next_sign s.OpenParen rest then None else Some (h.Super at, rest)

  unfoldable pub text_head : Parser Head
  text_head ts = do
    x ← texts g ts
    Some (h.Texts (span (start ts) x.0.to) x.0.first x.0.parts, x.1)

  -- by the first token, from the tokens that it begins and those behind it
  abbrev pub word_head : Word → Span → Parser Head
  word_head w.This at rest = Some (h.This at, rest)
  word_head w.Super at rest = super at rest
  word_head w.Null at rest = Some (h.Null at, rest)
  word_head w.True at rest = Some (h.True at, rest)
  word_head w.False at rest = Some (h.False at, rest)
  word_head w.New at rest = new at.from rest
  word_head _ at rest = None

  abbrev pub sign_head : Sign → Tokens → Parser Head
  sign_head s.OpenParen ts rest = if opens_function rest then literal ts else parenthesised ts
  sign_head s.OpenBracket ts rest = collection ts
  sign_head s.OpenBrace ts rest = collection ts
  sign_head s.Less ts rest = collection ts
  sign_head _ ts rest = None

  abbrev pub head_by : Form → Span → Tokens → Parser Head
  head_by (f.Name x) at ts rest = Some (h.Named (name_of x at), rest)
  head_by (f.Word x) at ts rest = word_head x at rest
  head_by (f.Number n) at ts rest = Some (h.Number at n, rest)
  head_by (f.Sign x) at ts rest = sign_head x ts rest
  head_by f.TextOpen at ts rest = text_head ts
  head_by _ at ts rest = None

  unfoldable pub head : Parser Head
  head [] = None
  head (t ∷ ts) = head_by t.form (span t.from t.to) (t ∷ ts) ts

  -- ---- selectors

  unfoldable pub member : Parser Selector
  member ts = do
    p ← sign_at s.Dot ts
    x ← name_at p.1
    if next_sign s.OpenParen x.1 then (do a ← arguments g x.1; Some (l.Invoke (span p.0.from a.0.span.to) x.0 a.0, a.1))
        else Some (l.Member (span p.0.from x.0.span.to) x.0, x.1)

  unfoldable pub index : Parser Selector
  index ts = do
    p ← sign_at s.OpenBracket ts
    a ← g.expr p.1
    q ← sign_at s.CloseBracket a.1
    Some (l.Index (span p.0.from q.0.to) a.0, q.1)

  unfoldable pub selector : Parser Selector
  selector ts =
      if next_sign s.Dot ts then member ts
      else if next_sign s.OpenBracket ts then index ts
      else (do a ← arguments g ts; Some (l.Call a.0, a.1))

  -- the number bounds the turns, each of which takes a token
  unfoldable pub selectors_from : ℕ → List Selector → Parser (List Selector)
  selectors_from zero found ts = Some (found, ts)
  selectors_from (suc n) found ts =
      if begins_selector ts then (do x ← selector ts; selectors_from n (found ++ x.0 ∷ []) x.1) else Some (found, ts)

  unfoldable pub chain : Parser Chain
  chain ts = do
    a ← head ts
    xs ← selectors_from (length a.1) [] a.1
    Some (chain_of a.0 xs.0, xs.1)

  unfoldable pub target : Parser Target
  target ts = do
    c ← chain ts
    a ← target_of c.0
    Some (a, c.1)
