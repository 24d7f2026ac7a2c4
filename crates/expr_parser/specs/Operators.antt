-- Expressions by their levels.
use Rattle.std.specs.Prelude.{ℕ, zero, suc, ◌==◌, if◌then◌else◌, [], ◌∷◌, length, Option, Some, None}
use Rattle.dart_syntax.specs.declared.words.Word.TheVariants as w
use Rattle.dart_syntax.specs.declared.words.Sign.TheVariants as s
use Rattle.dart_syntax.specs.declared.tokens.Form.{Form}
use Rattle.dart_syntax.specs.declared.tokens.Form.TheVariants as f
use Rattle.dart_grammar.specs.declared.trees.Operator.{Operator}
use Rattle.dart_grammar.specs.declared.trees.PrefixOperator.{PrefixOperator}
use Rattle.dart_grammar.specs.declared.trees.Assignment.{Assignment}
use Rattle.dart_grammar.specs.declared.trees.Step.{Step}
use Rattle.dart_grammar.specs.declared.trees.Expr.{Expr}
use Rattle.dart_grammar.specs.declared.trees.Expr.TheVariants as e
use Rattle.dart_grammar.specs.declared.trees.Target.{Target}
use Rattle.dart_grammar.specs.declared.trees.Chain.{Chain}
use Rattle.dart_grammar.specs.Marks.{Tokens, is_named, next, next_word, next_sign, behind, operator_of, prefix_of, step_of, assignment_of, looseness, as_word, joins}
use Rattle.dart_grammar.specs.Shapes.{◌>>=◌}
use Rattle.dart_grammar.specs.Trees.{span, span_of, target_span, joined, is_super, fits}
use Rattle.dart_grammar.specs.Grammar.{start, is_once}
use Rattle.expr_parser.specs.Cursor.{Parser, sign_at}
use Rattle.expr_parser.specs.Types.{type_at}
use Rattle.expr_parser.specs.Inner.{Inner}
use Rattle.expr_parser.specs.Chains.{target_of, chain_in, chain, target}

-- ---- what the next token spells

abbrev pub form_operator : Form → Option Operator
form_operator (f.Sign x) = operator_of x
form_operator _ = None

abbrev pub form_prefix : Form → Option PrefixOperator
form_prefix (f.Sign x) = prefix_of x
form_prefix _ = None

abbrev pub form_step : Form → Option Step
form_step (f.Sign x) = step_of x
form_step _ = None

abbrev pub form_assignment : Form → Option Assignment
form_assignment (f.Sign x) = assignment_of x
form_assignment _ = None

abbrev pub spells : {A : Type 0} → (Form → Option A) → Tokens → Option A
spells what [] = None
spells what (t ∷ ts) = what t.form

-- where the first token ends
abbrev pub first_end : Tokens → ℕ
first_end [] = 0
first_end (t ∷ ts) = t.to

-- ---- operators between operands

-- an operator and an operand behind it
unfoldable pub operation : Parser Expr → Expr → Parser Expr
operation p a ts = do
  o ← spells form_operator ts
  d ← p (behind ts)
  if fits o a d.0 then Some (e.Operated (joined a d.0) o a d.0, d.1) else None

-- `is`, `is!` and `as` with the type behind them
unfoldable pub tested : Expr → Parser Expr
tested a ts =
    if is_super a then None
    else if next_sign s.Not (behind ts) then (do x ← type_at (behind (behind ts)); Some (e.IsNot (span (span_of a).from x.0.1) a x.0.0, x.1))
    else (do x ← type_at (behind ts); Some (e.Is (span (span_of a).from x.0.1) a x.0.0, x.1))

unfoldable pub cast : Expr → Parser Expr
cast a ts = if is_super a then None else (do x ← type_at (behind ts); Some (e.As (span (span_of a).from x.0.1) a x.0.0, x.1))

-- Operators of this looseness, with their operands. The number bounds the turns, each of which takes a token.
unfoldable pub operated_from : Parser Expr → ℕ → ℕ → Expr → Parser Expr
operated_from p k zero a ts = Some (a, ts)
operated_from p k (suc n) a ts =
    if looseness ts == k then (
    if next_word w.Is ts then tested a ts
    else if next (is_named as_word) ts then cast a ts
    else (do d ← operation p a ts; if is_once k then Some (d.0, d.1) else operated_from p k n d.0 d.1))
    else Some (a, ts)

module _ (g : Inner) where
  -- ---- unary expressions

  abbrev pub stepped : Chain → Option Step → Parser Expr
  stepped c None rest = Some (e.Chained c, rest)
  stepped c (Some o) rest = do
    a ← target_of c
    Some (e.StepBehind (span (target_span a).from (first_end rest)) o a, behind rest)

  -- a chain, and a step behind it
  unfoldable pub postfix : Parser Expr
  postfix ts = do
    c ← chain g ts
    stepped c.0 (spells form_step c.1) c.1

  abbrev pub prefixed : PrefixOperator → ℕ → Option (Expr × Tokens) → Option (Expr × Tokens)
  prefixed o from operand = do
    a ← operand
    if is_super a.0 then None else Some (e.Prefixed (span from (span_of a.0).to) o a.0, a.1)

  unfoldable pub step_before : Step → ℕ → Parser Expr
  step_before o from ts = do
    a ← target g ts
    Some (e.StepBefore (span from (target_span a.0).to) o a.0, a.1)

  -- by the sign before it
  abbrev pub unary_by : Option PrefixOperator → Option Step → ℕ → Option (Expr × Tokens) → Tokens → Parser Expr
  unary_by (Some o) step from operand ts rest = prefixed o from operand
  unary_by None (Some o) from operand ts rest = step_before o from rest
  unary_by None None from operand ts rest = postfix ts

  unfoldable pub unary : Parser Expr
  unary [] = None
  unary (t ∷ ts) = unary_by (form_prefix t.form) (form_step t.form) t.from (unary ts) (t ∷ ts) ts

  -- ---- expressions

  -- level 1 are unary expressions, 7 disjunctions
  unfoldable pub level : ℕ → Parser Expr
  level zero ts = None
  level (suc zero) ts = unary ts
  level (suc (suc n)) ts = do
    a ← level (suc n) ts
    operated_from (level (suc n)) (suc (suc n)) (length a.1) a.0 a.1

  -- behind the test and the `?`
  unfoldable pub branches : Expr → Parser Expr
  branches a ts = do
    d ← g.expr ts
    c ← sign_at s.Colon d.1
    x ← g.expr c.1
    Some (e.Conditional (joined a x.0) a d.0 x.0, x.1)

  unfoldable pub conditional : Parser Expr
  conditional ts = do
    a ← level 7 ts
    if is_super a.0 then None
        else if next_sign s.Question a.1 then branches a.0 (behind a.1)
        else Some (a.0, a.1)

  -- behind `throw`, from where that begins
  unfoldable pub thrown : ℕ → Parser Expr
  thrown from ts = do
    a ← g.expr ts
    Some (e.Throw (span from (span_of a.0).to) a.0, a.1)

  -- behind the target and the sign
  unfoldable pub assigned : Target → Assignment → Parser Expr
  assigned a o ts = do
    d ← g.expr ts
    Some (e.Assigned (span (target_span a).from (span_of d.0).to) a o d.0, d.1)

  -- what stands before an assignment is a target
  unfoldable pub assigned_by : Option Assignment → Expr → Parser Expr
  assigned_by None a rest = Some (a, rest)
  assigned_by (Some o) a rest = do
    c ← chain_in a
    x ← target_of c
    assigned x o (behind rest)

  unfoldable pub whole : Parser Expr
  whole ts =
      if next_word w.Throw ts then thrown (start ts) (behind ts)
      else (do a ← conditional ts; assigned_by (spells form_assignment a.1) a.0 a.1)

  -- up to the one end that no joining token follows
  unfoldable pub ended : Parser Expr
  ended ts = do
    a ← whole ts
    if joins a.1 then None else Some (a.0, a.1)
