-- The grammar of expressions and statements. `IsExpr ts a rest` says that the tokens ts begin with a spelling of a, after
-- which rest follows.
use Rattle.std.specs.Prelude.{◌≡◌, ℕ, suc, Bool, true, false, ◌||◌, ◌==◌, List, [], ◌∷◌, ◌++◌, Option, Some, None}
use Rattle.dart_syntax.specs.declared.words.Word.TheVariants as w
use Rattle.dart_syntax.specs.declared.words.Sign.{Sign}
use Rattle.dart_syntax.specs.declared.words.Sign.TheVariants as s
use Rattle.dart_syntax.specs.declared.tokens.Form.TheVariants as f
use Rattle.dart_grammar.specs.declared.kinds.Kind.TheVariants.{Variables as OfVariables, Typed, Untyped, Expression}
use Rattle.dart_grammar.specs.declared.kinds.ForKind.TheVariants.{DeclaredIn, Declared, Expressions}
use Rattle.dart_grammar.specs.declared.trees.Span.{Span}
use Rattle.dart_grammar.specs.declared.trees.Name.{Name}
use Rattle.dart_grammar.specs.declared.trees.Operator.{Operator}
use Rattle.dart_grammar.specs.declared.trees.PrefixOperator.{PrefixOperator}
use Rattle.dart_grammar.specs.declared.trees.Assignment.{Assignment}
use Rattle.dart_grammar.specs.declared.trees.Step.{Step}
use Rattle.dart_grammar.specs.declared.trees.Expr.{Expr}
use Rattle.dart_grammar.specs.declared.trees.Expr.TheVariants as e
use Rattle.dart_grammar.specs.declared.trees.Head.{Head}
use Rattle.dart_grammar.specs.declared.trees.Head.TheVariants as h
use Rattle.dart_grammar.specs.declared.trees.Selector.{Selector}
use Rattle.dart_grammar.specs.declared.trees.Selector.TheVariants as l
use Rattle.dart_grammar.specs.declared.trees.Target.{Target}
use Rattle.dart_grammar.specs.declared.trees.Target.TheVariants as t
use Rattle.dart_grammar.specs.declared.trees.Stmt.{Stmt}
use Rattle.dart_grammar.specs.declared.trees.Stmt.TheVariants as c
use Rattle.dart_grammar.specs.declared.trees.Body.{Body}
use Rattle.dart_grammar.specs.declared.trees.Body.TheVariants as b
use Rattle.dart_grammar.specs.declared.trees.Arguments.{Arguments}
use Rattle.dart_grammar.specs.declared.trees.Catch.{Catch}
use Rattle.dart_grammar.specs.declared.trees.Entry.{Entry}
use Rattle.dart_grammar.specs.declared.trees.Interpolation.{Interpolation}
use Rattle.dart_grammar.specs.declared.trees.OptionalParameter.{OptionalParameter}
use Rattle.dart_grammar.specs.declared.trees.OptionalParameter.TheVariants as d
use Rattle.dart_grammar.specs.declared.trees.Parameter.{Parameter}
use Rattle.dart_grammar.specs.declared.trees.Parameters.{Parameters}
use Rattle.dart_grammar.specs.declared.trees.Variable.{Variable}
use Rattle.dart_grammar.specs.declared.trees.Variable.TheVariants as v
use Rattle.dart_grammar.specs.declared.trees.Variables.{Variables}
use Rattle.dart_grammar.specs.Marks.{Tokens, token, word, sign, ident, is_text_open, next, next_word, next_sign, operator_of, prefix_of, step_of, assignment_of, sign_looseness, looseness, as_word}
use Rattle.dart_grammar.specs.Shapes.{begins_type, opens_function, begins_map, kind_of, for_kind_of, begins_clause, on_word}
use Rattle.dart_grammar.specs.Trees.{span, name_of, span_of, chain_of, target_span, stmt_span, joined, is_super, fits, first_of, parts_of}

-- where the first token begins
abbrev pub start : Tokens → ℕ
start [] = 0
start (t ∷ ts) = t.from

-- ---- types, whose arguments are read and not kept. `j` is where the last token ends.

-- name [ "." name ]
pub data IsDotted : Tokens → List Name → ℕ → Tokens → Type 0 where
  one : {x : List ℕ} {p : Span} {rest : Tokens} → next_sign s.Dot rest ≡ false → IsDotted (ident x p ∷ rest) (name_of x p ∷ []) p.to rest
  two : {x y : List ℕ} {p q r : Span} {rest : Tokens} → IsDotted (ident x p ∷ sign s.Dot q ∷ ident y r ∷ rest) (name_of x p ∷ name_of y r ∷ []) r.to rest

mutual
  -- type
  pub data IsType : Tokens → List Name → ℕ → Tokens → Type 0 where
    plain_type : {xs : List Name} {j : ℕ} {ts rest : Tokens} → IsDotted ts xs j rest → next_sign s.Less rest ≡ false → IsType ts xs j rest
    generic : {xs : List Name} {i j : ℕ} {ts mid rest : Tokens} → IsDotted ts xs i mid → AreTypeArguments mid j rest → IsType ts xs j rest

  -- "<" types ">"
  pub data AreTypeArguments : Tokens → ℕ → Tokens → Type 0 where
    type_arguments : {p q : Span} {ts rest : Tokens} → AreTypes ts (sign s.Greater q ∷ rest) → AreTypeArguments (sign s.Less p ∷ ts) q.to rest

  -- types
  pub data AreTypes : Tokens → Tokens → Type 0 where
    last_type : {xs : List Name} {j : ℕ} {ts rest : Tokens} → IsType ts xs j rest → AreTypes ts rest
    more_types : {xs : List Name} {j : ℕ} {p : Span} {ts mid rest : Tokens} → IsType ts xs j (sign s.Comma p ∷ mid) → AreTypes mid rest → AreTypes ts rest

-- [ "<" types ">" ]
pub data MayHaveTypeArguments : Tokens → Tokens → Type 0 where
  has_none : {ts : Tokens} → next_sign s.Less ts ≡ false → MayHaveTypeArguments ts ts
  has_some : {j : ℕ} {ts rest : Tokens} → AreTypeArguments ts j rest → MayHaveTypeArguments ts rest

-- [ rtype ], before a name
pub data MayHaveResult : Tokens → Tokens → Type 0 where
  no_result : {ts : Tokens} → begins_type ts ≡ false → MayHaveResult ts ts
  void_result : {p : Span} {rest : Tokens} → MayHaveResult (word w.Void p ∷ rest) rest
  type_result : {xs : List Name} {j : ℕ} {ts rest : Tokens} → next_word w.Void ts ≡ false → begins_type ts ≡ true → IsType ts xs j rest → MayHaveResult ts rest

-- lead, and whether what it declares is final
pub data IsLead : Tokens → Bool → Tokens → Type 0 where
  var_lead : {p : Span} {rest : Tokens} → IsLead (word w.Var p ∷ rest) false rest
  final_lead : {p : Span} {ts rest : Tokens} → next_word w.Void ts ≡ false → MayHaveResult ts rest → IsLead (word w.Final p ∷ ts) true rest
  const_lead : {p : Span} {ts rest : Tokens} → next_word w.Void ts ≡ false → MayHaveResult ts rest → IsLead (word w.Const p ∷ ts) true rest
  type_lead : {xs : List Name} {j : ℕ} {ts rest : Tokens} → IsType ts xs j rest → IsLead ts false rest

-- names behind `new`: up to three, with type arguments behind the first or the second
pub data AreNewNames : Tokens → List Name → Tokens → Type 0 where
  class_name : {xs : List Name} {j : ℕ} {ts rest : Tokens} → IsType ts xs j rest → next_sign s.Dot rest ≡ false → AreNewNames ts xs rest
  constructor_name : {x : List ℕ} {xs : List Name} {j : ℕ} {p q : Span} {ts rest : Tokens} → IsType ts xs j (sign s.Dot p ∷ ident x q ∷ rest)
      → AreNewNames ts (xs ++ name_of x q ∷ []) rest

-- ---- expressions and statements

-- operators of this looseness stand at most once between operands
abbrev pub is_once : ℕ → Bool
is_once n = n == 4 || n == 5

mutual
  -- expr
  pub data IsExpr : Tokens → Expr → Tokens → Type 0 where
    assigned : {x : Sign} {o : Assignment} {a : Target} {d : Expr} {p : Span} {ts mid rest : Tokens} → IsTarget ts a (sign x p ∷ mid) → assignment_of x ≡ Some o → IsExpr mid d rest
        → IsExpr ts (e.Assigned (span (target_span a).from (span_of d).to) a o d) rest
    throw' : {a : Expr} {p : Span} {ts rest : Tokens} → IsExpr ts a rest → IsExpr (word w.Throw p ∷ ts) (e.Throw (span p.from (span_of a).to) a) rest
    plain : {a : Expr} {ts rest : Tokens} → IsConditional ts a rest → IsExpr ts a rest

  -- cond
  pub data IsConditional : Tokens → Expr → Tokens → Type 0 where
    no_choice : {a : Expr} {ts rest : Tokens} → IsLevel 7 ts a rest → is_super a ≡ false → IsConditional ts a rest
    choice : {a d g : Expr} {p q : Span} {ts mid after rest : Tokens} → IsLevel 7 ts a (sign s.Question p ∷ mid) → is_super a ≡ false → IsExpr mid d (sign s.Colon q ∷ after)
        → IsExpr after g rest → IsConditional ts (e.Conditional (joined a g) a d g) rest

  -- level 1 are unary expressions, 2 products, 3 sums, 4 comparisons, 5 equations, 6 conjunctions, 7 disjunctions
  pub data IsLevel : ℕ → Tokens → Expr → Tokens → Type 0 where
    unary : {a : Expr} {ts rest : Tokens} → IsUnary ts a rest → IsLevel 1 ts a rest
    level : {n : ℕ} {a d : Expr} {ts mid rest : Tokens} → IsLevel (suc n) ts a mid → IsOperated (suc n) a mid d rest → IsLevel (suc (suc n)) ts d rest

  -- with the operators at the front of ts, which stand between operands of level n, a becomes d
  pub data IsOperated : ℕ → Expr → Tokens → Expr → Tokens → Type 0 where
    no_operator : {n : ℕ} {a : Expr} {ts : Tokens} → IsOperated n a ts a ts
    once : {n : ℕ} {x : Sign} {o : Operator} {a d : Expr} {p : Span} {ts rest : Tokens} → is_once (suc n) ≡ true → sign_looseness x ≡ suc n → operator_of x ≡ Some o
        → IsLevel n ts d rest → fits o a d ≡ true → IsOperated n a (sign x p ∷ ts) (e.Operated (joined a d) o a d) rest
    chain : {n : ℕ} {x : Sign} {o : Operator} {a d g : Expr} {p : Span} {ts mid rest : Tokens} → is_once (suc n) ≡ false → sign_looseness x ≡ suc n → operator_of x ≡ Some o
        → IsLevel n ts d mid → fits o a d ≡ true → IsOperated n (e.Operated (joined a d) o a d) mid g rest → IsOperated n a (sign x p ∷ ts) g rest
    is' : {a : Expr} {xs : List Name} {j : ℕ} {p : Span} {ts rest : Tokens} → is_super a ≡ false → IsType ts xs j rest
        → IsOperated 3 a (word w.Is p ∷ ts) (e.Is (span (span_of a).from j) a xs) rest
    is_not : {a : Expr} {xs : List Name} {j : ℕ} {p q : Span} {ts rest : Tokens} → is_super a ≡ false → IsType ts xs j rest
        → IsOperated 3 a (word w.Is p ∷ sign s.Not q ∷ ts) (e.IsNot (span (span_of a).from j) a xs) rest
    as' : {a : Expr} {xs : List Name} {j : ℕ} {p : Span} {ts rest : Tokens} → is_super a ≡ false → IsType ts xs j rest
        → IsOperated 3 a (ident as_word p ∷ ts) (e.As (span (span_of a).from j) a xs) rest

  -- unary
  pub data IsUnary : Tokens → Expr → Tokens → Type 0 where
    prefixed : {x : Sign} {o : PrefixOperator} {a : Expr} {p : Span} {ts rest : Tokens} → prefix_of x ≡ Some o → IsUnary ts a rest → is_super a ≡ false
        → IsUnary (sign x p ∷ ts) (e.Prefixed (span p.from (span_of a).to) o a) rest
    step_before : {x : Sign} {o : Step} {a : Target} {p : Span} {ts rest : Tokens} → step_of x ≡ Some o → IsTarget ts a rest
        → IsUnary (sign x p ∷ ts) (e.StepBefore (span p.from (target_span a).to) o a) rest
    step_behind : {x : Sign} {o : Step} {a : Target} {p : Span} {ts rest : Tokens} → IsTarget ts a (sign x p ∷ rest) → step_of x ≡ Some o
        → IsUnary ts (e.StepBehind (span (target_span a).from p.to) o a) rest
    chained : {a : Head} {xs : List Selector} {ts mid rest : Tokens} → IsHead ts a mid → AreSelectors mid xs rest → IsUnary ts (e.Chained (chain_of a xs)) rest

  -- target
  pub data IsTarget : Tokens → Target → Tokens → Type 0 where
    bare : {x : List ℕ} {p : Span} {rest : Tokens} → IsTarget (ident x p ∷ rest) (t.Bare (name_of x p)) rest
    member_of : {a : Head} {xs : List Selector} {y : List ℕ} {p q : Span} {ts mid rest : Tokens} → IsHead ts a mid → AreSelectors mid xs (sign s.Dot p ∷ ident y q ∷ rest)
        → IsTarget ts (t.MemberOf (chain_of a xs) (name_of y q)) rest
    index_of : {a : Head} {xs : List Selector} {d : Expr} {p q : Span} {ts mid after rest : Tokens} → IsHead ts a mid → AreSelectors mid xs (sign s.OpenBracket p ∷ after)
        → IsExpr after d (sign s.CloseBracket q ∷ rest) → IsTarget ts (t.IndexOf (chain_of a xs) (span p.from q.to) d) rest

  -- { sel }. Arguments behind a member are its arguments.
  pub data AreSelectors : Tokens → List Selector → Tokens → Type 0 where
    no_selectors : {ts : Tokens} → AreSelectors ts [] ts
    member : {x : List ℕ} {xs : List Selector} {p q : Span} {ts rest : Tokens} → next_sign s.OpenParen ts ≡ false → AreSelectors ts xs rest
        → AreSelectors (sign s.Dot p ∷ ident x q ∷ ts) (l.Member (span p.from q.to) (name_of x q) ∷ xs) rest
    invoke : {x : List ℕ} {a : Arguments} {xs : List Selector} {p q : Span} {ts mid rest : Tokens} → AreArguments ts a mid → AreSelectors mid xs rest
        → AreSelectors (sign s.Dot p ∷ ident x q ∷ ts) (l.Invoke (span p.from a.span.to) (name_of x q) a ∷ xs) rest
    index : {a : Expr} {xs : List Selector} {p q : Span} {ts mid rest : Tokens} → IsExpr ts a (sign s.CloseBracket q ∷ mid) → AreSelectors mid xs rest
        → AreSelectors (sign s.OpenBracket p ∷ ts) (l.Index (span p.from q.to) a ∷ xs) rest
    call : {a : Arguments} {xs : List Selector} {ts mid rest : Tokens} → AreArguments ts a mid → AreSelectors mid xs rest → AreSelectors ts (l.Call a ∷ xs) rest

  -- args
  pub data AreArguments : Tokens → Arguments → Tokens → Type 0 where
    no_arguments : {p q : Span} {rest : Tokens} → AreArguments (sign s.OpenParen p ∷ sign s.CloseParen q ∷ rest) (record { span = span p.from q.to; items = [] }) rest
    arguments : {xs : List Expr} {p q : Span} {ts rest : Tokens} → AreExprs ts xs (sign s.CloseParen q ∷ rest)
        → AreArguments (sign s.OpenParen p ∷ ts) (record { span = span p.from q.to; items = xs }) rest

  -- exprs
  pub data AreExprs : Tokens → List Expr → Tokens → Type 0 where
    last_expr : {a : Expr} {ts rest : Tokens} → IsExpr ts a rest → AreExprs ts (a ∷ []) rest
    more_exprs : {a : Expr} {xs : List Expr} {p : Span} {ts mid rest : Tokens} → IsExpr ts a (sign s.Comma p ∷ mid) → AreExprs mid xs rest → AreExprs ts (a ∷ xs) rest

  -- expr ":" expr { "," expr ":" expr }
  pub data AreEntries : Tokens → List Entry → Tokens → Type 0 where
    last_entry : {a d : Expr} {p : Span} {ts mid rest : Tokens} → IsExpr ts a (sign s.Colon p ∷ mid) → IsExpr mid d rest → AreEntries ts (record { key = a; value = d } ∷ []) rest
    more_entries : {a d : Expr} {xs : List Entry} {p q : Span} {ts mid after rest : Tokens} → IsExpr ts a (sign s.Colon p ∷ mid) → IsExpr mid d (sign s.Comma q ∷ after)
        → AreEntries after xs rest → AreEntries ts (record { key = a; value = d } ∷ xs) rest

  -- head
  pub data IsHead : Tokens → Head → Tokens → Type 0 where
    named : {x : List ℕ} {p : Span} {rest : Tokens} → IsHead (ident x p ∷ rest) (h.Named (name_of x p)) rest
    this : {p : Span} {rest : Tokens} → IsHead (word w.This p ∷ rest) (h.This p) rest
    super : {p : Span} {rest : Tokens} → next_sign s.OpenParen rest ≡ false → IsHead (word w.Super p ∷ rest) (h.Super p) rest
    null : {p : Span} {rest : Tokens} → IsHead (word w.Null p ∷ rest) (h.Null p) rest
    true' : {p : Span} {rest : Tokens} → IsHead (word w.True p ∷ rest) (h.True p) rest
    false' : {p : Span} {rest : Tokens} → IsHead (word w.False p ∷ rest) (h.False p) rest
    number : {n : ℕ} {p : Span} {rest : Tokens} → IsHead (token (f.Number n) p ∷ rest) (h.Number p n) rest
    texts : {us : List ℕ} {ps : List Interpolation} {j : ℕ} {ts rest : Tokens} → AreTexts ts us ps j rest → IsHead ts (h.Texts (span (start ts) j) us ps) rest
    new : {xs : List Name} {a : Arguments} {p : Span} {ts mid rest : Tokens} → AreNewNames ts xs mid → AreArguments mid a rest
        → IsHead (word w.New p ∷ ts) (h.New (span p.from a.span.to) xs a) rest
    parenthesised : {a : Expr} {p q : Span} {ts rest : Tokens} → opens_function ts ≡ false → IsExpr ts a (sign s.CloseParen q ∷ rest)
        → IsHead (sign s.OpenParen p ∷ ts) (h.Parenthesised (span p.from q.to) a) rest
    literal : {ps : Parameters} {d : Body} {j : ℕ} {p : Span} {ts mid rest : Tokens} → opens_function ts ≡ true → IsParameters (sign s.OpenParen p ∷ ts) ps mid → IsLiteralBody mid d j rest
        → IsHead (sign s.OpenParen p ∷ ts) (h.Literal (span p.from j) ps d) rest
    no_items : {p q : Span} {ts rest : Tokens} → MayHaveTypeArguments ts (sign s.OpenBracket p ∷ sign s.CloseBracket q ∷ rest) → IsHead ts (h.List (span (start ts) q.to) []) rest
    list : {xs : List Expr} {p : Span} {j : ℕ} {ts mid after rest : Tokens} → MayHaveTypeArguments ts (sign s.OpenBracket p ∷ mid) → AreExprs mid xs after
        → IsLastComma after s.CloseBracket j rest → IsHead ts (h.List (span (start ts) j) xs) rest
    no_entries : {p q : Span} {ts rest : Tokens} → MayHaveTypeArguments ts (sign s.OpenBrace p ∷ sign s.CloseBrace q ∷ rest) → IsHead ts (h.Map (span (start ts) q.to) []) rest
    map : {xs : List Entry} {p : Span} {j : ℕ} {ts mid after rest : Tokens} → MayHaveTypeArguments ts (sign s.OpenBrace p ∷ mid) → AreEntries mid xs after
        → IsLastComma after s.CloseBrace j rest → IsHead ts (h.Map (span (start ts) j) xs) rest

  -- [ "," ] and the sign that closes, with where it ends
  pub data IsLastComma : Tokens → Sign → ℕ → Tokens → Type 0 where
    no_comma : {x : Sign} {p : Span} {rest : Tokens} → IsLastComma (sign x p ∷ rest) x p.to rest
    comma : {x : Sign} {p q : Span} {rest : Tokens} → IsLastComma (sign s.Comma p ∷ sign x q ∷ rest) x q.to rest

  -- text { text }, to the last text that stands there, with where it ends
  pub data AreTexts : Tokens → List ℕ → List Interpolation → ℕ → Tokens → Type 0 where
    last_text : {us : List ℕ} {ps : List Interpolation} {j : ℕ} {ts rest : Tokens} → IsText ts us ps j rest → next is_text_open rest ≡ false → AreTexts ts us ps j rest
    more_texts : {us vs : List ℕ} {ps qs : List Interpolation} {i j : ℕ} {ts mid rest : Tokens} → IsText ts us ps i mid → AreTexts mid vs qs j rest
        → AreTexts ts (first_of us ps vs) (parts_of ps vs qs) j rest

  pub data IsText : Tokens → List ℕ → List Interpolation → ℕ → Tokens → Type 0 where
    text : {us : List ℕ} {ps : List Interpolation} {j : ℕ} {p q : Span} {ts rest : Tokens} → AreParts ts ps j rest → IsText (token f.TextOpen p ∷ token (f.Piece us) q ∷ ts) us ps j rest

  -- interpolations, each with the piece behind it, and the text's end
  pub data AreParts : Tokens → List Interpolation → ℕ → Tokens → Type 0 where
    close : {p : Span} {rest : Tokens} → AreParts (token f.TextClose p ∷ rest) [] p.to rest
    hole : {a : Expr} {us : List ℕ} {ps : List Interpolation} {j : ℕ} {p q r : Span} {ts mid rest : Tokens} → IsExpr ts a (token f.Leave q ∷ token (f.Piece us) r ∷ mid)
        → AreParts mid ps j rest → AreParts (token f.Enter p ∷ ts) (record { value = a; behind = us } ∷ ps) j rest

  -- The body of a function literal, with where it ends. No joining token follows an expression.
  pub data IsLiteralBody : Tokens → Body → ℕ → Tokens → Type 0 where
    gives : {a : Expr} {p : Span} {ts rest : Tokens} → IsExpr ts a rest → looseness rest ≡ 10 → IsLiteralBody (sign s.Arrow p ∷ ts) (b.Gives a) (span_of a).to rest
    block : {xs : List Stmt} {j : ℕ} {ts rest : Tokens} → IsBlock ts xs j rest → IsLiteralBody ts (b.Block xs) j rest

  -- params
  pub data IsParameters : Tokens → Parameters → Tokens → Type 0 where
    no_parameters : {p q : Span} {rest : Tokens} → IsParameters (sign s.OpenParen p ∷ sign s.CloseParen q ∷ rest) (record { span = span p.from q.to; required = []; optional = [] }) rest
    parameters : {xs : List Parameter} {ys : List OptionalParameter} {p q : Span} {ts rest : Tokens} → AreParameters ts xs ys (sign s.CloseParen q ∷ rest)
        → IsParameters (sign s.OpenParen p ∷ ts) (record { span = span p.from q.to; required = xs; optional = ys }) rest

  -- param { "," param } [ "," opt ] | opt
  pub data AreParameters : Tokens → List Parameter → List OptionalParameter → Tokens → Type 0 where
    last_parameter : {x : Parameter} {ts rest : Tokens} → IsParameter ts x rest → AreParameters ts (x ∷ []) [] rest
    more_parameters : {x : Parameter} {xs : List Parameter} {ys : List OptionalParameter} {p : Span} {ts mid rest : Tokens} → IsParameter ts x (sign s.Comma p ∷ mid)
        → AreParameters mid xs ys rest → AreParameters ts (x ∷ xs) ys rest
    optional : {ys : List OptionalParameter} {p q : Span} {ts rest : Tokens} → AreOptional ts ys (sign s.CloseBracket q ∷ rest) → AreParameters (sign s.OpenBracket p ∷ ts) [] ys rest

  -- param [ "=" expr ] { "," param [ "=" expr ] }
  pub data AreOptional : Tokens → List OptionalParameter → Tokens → Type 0 where
    last_optional : {x : OptionalParameter} {ts rest : Tokens} → IsOptional ts x rest → AreOptional ts (x ∷ []) rest
    more_optional : {x : OptionalParameter} {xs : List OptionalParameter} {p : Span} {ts mid rest : Tokens} → IsOptional ts x (sign s.Comma p ∷ mid) → AreOptional mid xs rest
        → AreOptional ts (x ∷ xs) rest

  pub data IsOptional : Tokens → OptionalParameter → Tokens → Type 0 where
    no_default : {x : Parameter} {ts rest : Tokens} → IsParameter ts x rest → IsOptional ts (d.WithoutDefault x) rest
    default : {x : Parameter} {a : Expr} {p : Span} {ts mid rest : Tokens} → IsParameter ts x (sign s.Assign p ∷ mid) → IsExpr mid a rest
        → IsOptional ts (d.WithDefault x a) rest

  -- param
  pub data IsParameter : Tokens → Parameter → Tokens → Type 0 where
    parameter : {is_final : Bool} {this : Option Span} {x : List ℕ} {j : ℕ} {p : Span} {ts mid after late end rest : Tokens} → IsMetadata ts mid → MayBeFinal mid is_final after
        → MayHaveResult after late → MayHaveThis late this (ident x p ∷ end) → MayHaveParameters p.to end j rest
        → IsParameter ts (record { span = span (start ts) j; is_final = is_final; this = this; name = name_of x p }) rest

  -- [ "var" | "final" ]
  pub data MayBeFinal : Tokens → Bool → Tokens → Type 0 where
    neither : {ts : Tokens} → next_word w.Var ts ≡ false → next_word w.Final ts ≡ false → MayBeFinal ts false ts
    var : {p : Span} {rest : Tokens} → MayBeFinal (word w.Var p ∷ rest) false rest
    final : {p : Span} {rest : Tokens} → MayBeFinal (word w.Final p ∷ rest) true rest

  -- [ "this" "." ]
  pub data MayHaveThis : Tokens → Option Span → Tokens → Type 0 where
    no_this : {ts : Tokens} → next_word w.This ts ≡ false → MayHaveThis ts None ts
    has_this : {p q : Span} {rest : Tokens} → MayHaveThis (word w.This p ∷ sign s.Dot q ∷ rest) (Some p) rest

  -- [ params ], with where they end
  pub data MayHaveParameters : ℕ → Tokens → ℕ → Tokens → Type 0 where
    no_nested : {i : ℕ} {ts : Tokens} → next_sign s.OpenParen ts ≡ false → MayHaveParameters i ts i ts
    nested : {i : ℕ} {ps : Parameters} {ts rest : Tokens} → IsParameters ts ps rest → MayHaveParameters i ts ps.span.to rest

  -- meta
  pub data IsMetadata : Tokens → Tokens → Type 0 where
    no_metadata : {ts : Tokens} → next_sign s.At ts ≡ false → IsMetadata ts ts
    metadata : {xs : List Name} {p : Span} {ts mid after rest : Tokens} → AreMetadataNames ts xs mid → MayHaveArguments mid after → IsMetadata after rest
        → IsMetadata (sign s.At p ∷ ts) rest

  -- name [ "." name ] [ "." name ]
  pub data AreMetadataNames : Tokens → List Name → Tokens → Type 0 where
    up_to_two : {xs : List Name} {j : ℕ} {ts rest : Tokens} → IsDotted ts xs j rest → next_sign s.Dot rest ≡ false → AreMetadataNames ts xs rest
    three : {xs : List Name} {y : List ℕ} {j : ℕ} {p q : Span} {ts rest : Tokens} → IsDotted ts xs j (sign s.Dot p ∷ ident y q ∷ rest) → AreMetadataNames ts (xs ++ name_of y q ∷ []) rest

  -- [ args ]
  pub data MayHaveArguments : Tokens → Tokens → Type 0 where
    no_args : {ts : Tokens} → next_sign s.OpenParen ts ≡ false → MayHaveArguments ts ts
    has_args : {a : Arguments} {ts rest : Tokens} → AreArguments ts a rest → MayHaveArguments ts rest

  -- vars, with where they end
  pub data AreVariables : Tokens → Variables → ℕ → Tokens → Type 0 where
    variables : {is_final : Bool} {xs : List Variable} {p : Span} {ts mid rest : Tokens} → IsLead ts is_final mid → AreDeclared mid xs (sign s.Semicolon p ∷ rest)
        → AreVariables ts (record { is_final = is_final; items = xs }) p.to rest

  -- name [ "=" expr ] { "," name [ "=" expr ] }
  pub data AreDeclared : Tokens → List Variable → Tokens → Type 0 where
    last_declared : {x : Variable} {ts rest : Tokens} → IsDeclared ts x rest → AreDeclared ts (x ∷ []) rest
    more_declared : {x : Variable} {xs : List Variable} {p : Span} {ts mid rest : Tokens} → IsDeclared ts x (sign s.Comma p ∷ mid) → AreDeclared mid xs rest → AreDeclared ts (x ∷ xs) rest

  pub data IsDeclared : Tokens → Variable → Tokens → Type 0 where
    no_value : {x : List ℕ} {p : Span} {rest : Tokens} → IsDeclared (ident x p ∷ rest) (v.Unset (name_of x p)) rest
    value : {x : List ℕ} {a : Expr} {p q : Span} {ts rest : Tokens} → IsExpr ts a rest → IsDeclared (ident x p ∷ sign s.Assign q ∷ ts) (v.Initialised (name_of x p) a) rest

  -- block, with where it ends
  pub data IsBlock : Tokens → List Stmt → ℕ → Tokens → Type 0 where
    braces : {xs : List Stmt} {p q : Span} {ts rest : Tokens} → AreStmts ts xs (sign s.CloseBrace q ∷ rest) → IsBlock (sign s.OpenBrace p ∷ ts) xs q.to rest

  -- { stmt }
  pub data AreStmts : Tokens → List Stmt → Tokens → Type 0 where
    no_stmts : {ts : Tokens} → AreStmts ts [] ts
    stmts : {a : Stmt} {xs : List Stmt} {ts mid rest : Tokens} → IsStmt ts a mid → AreStmts mid xs rest → AreStmts ts (a ∷ xs) rest

  -- the body of a local function, with where it ends
  pub data IsLocalBody : Tokens → Body → ℕ → Tokens → Type 0 where
    gives_local : {a : Expr} {p q : Span} {ts rest : Tokens} → IsExpr ts a (sign s.Semicolon q ∷ rest) → IsLocalBody (sign s.Arrow p ∷ ts) (b.Gives a) q.to rest
    block_local : {xs : List Stmt} {j : ℕ} {ts rest : Tokens} → IsBlock ts xs j rest → IsLocalBody ts (b.Block xs) j rest

  -- stmt
  pub data IsStmt : Tokens → Stmt → Tokens → Type 0 where
    nested_block : {xs : List Stmt} {j : ℕ} {ts rest : Tokens} → IsBlock ts xs j rest → IsStmt ts (c.Nested (span (start ts) j) xs) rest
    declare : {x : Variables} {j : ℕ} {ts rest : Tokens} → kind_of ts ≡ OfVariables → AreVariables ts x j rest → IsStmt ts (c.Declare (span (start ts) j) x) rest
    typed_function : {x : List ℕ} {ps : Parameters} {d : Body} {j : ℕ} {p : Span} {ts mid after rest : Tokens} → kind_of ts ≡ Typed → MayHaveResult ts (ident x p ∷ mid)
        → IsParameters mid ps after → IsLocalBody after d j rest → IsStmt ts (c.LocalFunction (span (start ts) j) (name_of x p) ps d) rest
    untyped_function : {x : List ℕ} {ps : Parameters} {d : Body} {j : ℕ} {p : Span} {mid after rest : Tokens} → kind_of (ident x p ∷ mid) ≡ Untyped
        → IsParameters mid ps after → IsLocalBody after d j rest → IsStmt (ident x p ∷ mid) (c.LocalFunction (span p.from j) (name_of x p) ps d) rest
    empty : {p : Span} {rest : Tokens} → IsStmt (sign s.Semicolon p ∷ rest) (c.Empty p) rest
    evaluate : {a : Expr} {p : Span} {ts rest : Tokens} → kind_of ts ≡ Expression → begins_map ts ≡ false → IsExpr ts a (sign s.Semicolon p ∷ rest)
        → IsStmt ts (c.Evaluate (span (start ts) p.to) a) rest
    -- an `else` belongs to the nearest `if`
    if' : {a : Expr} {x : Stmt} {p q r : Span} {ts mid rest : Tokens} → IsExpr ts a (sign s.CloseParen r ∷ mid) → IsStmt mid x rest → next_word w.Else rest ≡ false
        → IsStmt (word w.If p ∷ sign s.OpenParen q ∷ ts) (c.If (span p.from (stmt_span x).to) a x) rest
    if_else : {a : Expr} {x y : Stmt} {p q r u : Span} {ts mid after rest : Tokens} → IsExpr ts a (sign s.CloseParen r ∷ mid) → IsStmt mid x (word w.Else u ∷ after) → IsStmt after y rest
        → IsStmt (word w.If p ∷ sign s.OpenParen q ∷ ts) (c.IfElse (span p.from (stmt_span y).to) a x y) rest
    while : {a : Expr} {x : Stmt} {p q r : Span} {ts mid rest : Tokens} → IsExpr ts a (sign s.CloseParen r ∷ mid) → IsStmt mid x rest
        → IsStmt (word w.While p ∷ sign s.OpenParen q ∷ ts) (c.While (span p.from (stmt_span x).to) a x) rest
    do' : {a : Expr} {x : Stmt} {p q r u v : Span} {ts mid rest : Tokens} → IsStmt ts x (word w.While q ∷ sign s.OpenParen r ∷ mid)
        → IsExpr mid a (sign s.CloseParen u ∷ sign s.Semicolon v ∷ rest) → IsStmt (word w.Do p ∷ ts) (c.Do (span p.from v.to) x a) rest
    for_declared : {x : Variables} {a : Option Expr} {xs : List Expr} {y : Stmt} {j : ℕ} {p q r : Span} {ts mid after late rest : Tokens} → for_kind_of ts ≡ Declared → AreVariables ts x j mid
        → MayBeExpr mid a (sign s.Semicolon r ∷ after) → AreUpdates after xs late → IsStmt late y rest
        → IsStmt (word w.For p ∷ sign s.OpenParen q ∷ ts) (c.ForDeclared (span p.from (stmt_span y).to) x a xs y) rest
    for' : {a : Option Expr} {ys xs : List Expr} {y : Stmt} {p q r u : Span} {ts mid after late rest : Tokens} → for_kind_of ts ≡ Expressions → MayBeExprs ts ys (sign s.Semicolon u ∷ mid)
        → MayBeExpr mid a (sign s.Semicolon r ∷ after) → AreUpdates after xs late → IsStmt late y rest
        → IsStmt (word w.For p ∷ sign s.OpenParen q ∷ ts) (c.For (span p.from (stmt_span y).to) ys a xs y) rest
    for_in_declared : {is_final : Bool} {x : List ℕ} {a : Expr} {y : Stmt} {p q r u v : Span} {ts mid after rest : Tokens} → for_kind_of ts ≡ DeclaredIn
        → IsLead ts is_final (ident x r ∷ word w.In u ∷ mid) → IsExpr mid a (sign s.CloseParen v ∷ after) → IsStmt after y rest
        → IsStmt (word w.For p ∷ sign s.OpenParen q ∷ ts) (c.ForInDeclared (span p.from (stmt_span y).to) is_final (name_of x r) a y) rest
    for_in : {x : List ℕ} {a : Expr} {y : Stmt} {p q r u v : Span} {ts after rest : Tokens} → IsExpr ts a (sign s.CloseParen v ∷ after) → IsStmt after y rest
        → IsStmt (word w.For p ∷ sign s.OpenParen q ∷ ident x r ∷ word w.In u ∷ ts) (c.ForIn (span p.from (stmt_span y).to) (name_of x r) a y) rest
    break' : {p q : Span} {rest : Tokens} → IsStmt (word w.Break p ∷ sign s.Semicolon q ∷ rest) (c.Break (span p.from q.to)) rest
    continue' : {p q : Span} {rest : Tokens} → IsStmt (word w.Continue p ∷ sign s.Semicolon q ∷ rest) (c.Continue (span p.from q.to)) rest
    return' : {p q : Span} {rest : Tokens} → IsStmt (word w.Return p ∷ sign s.Semicolon q ∷ rest) (c.Return (span p.from q.to)) rest
    return_value : {a : Expr} {p q : Span} {ts rest : Tokens} → IsExpr ts a (sign s.Semicolon q ∷ rest) → IsStmt (word w.Return p ∷ ts) (c.ReturnValue (span p.from q.to) a) rest
    rethrow' : {p q : Span} {rest : Tokens} → IsStmt (word w.Rethrow p ∷ sign s.Semicolon q ∷ rest) (c.Rethrow (span p.from q.to)) rest
    assert' : {a : Expr} {p q r u : Span} {ts rest : Tokens} → IsExpr ts a (sign s.CloseParen r ∷ sign s.Semicolon u ∷ rest)
        → IsStmt (word w.Assert p ∷ sign s.OpenParen q ∷ ts) (c.Assert (span p.from u.to)) rest
    try' : {xs : List Stmt} {d : Catch} {ds : List Catch} {i j : ℕ} {p : Span} {ts mid rest : Tokens} → IsBlock ts xs i mid → AreCatches i mid (d ∷ ds) j rest → next_word w.Finally rest ≡ false
        → IsStmt (word w.Try p ∷ ts) (c.Try (span p.from j) xs (d ∷ ds)) rest
    try_finally : {xs ys : List Stmt} {ds : List Catch} {i j k : ℕ} {p q : Span} {ts mid after rest : Tokens} → IsBlock ts xs i mid → AreCatches i mid ds j (word w.Finally q ∷ after)
        → IsBlock after ys k rest → IsStmt (word w.Try p ∷ ts) (c.TryFinally (span p.from k) xs ds ys) rest

  -- [ expr ], before a semicolon
  pub data MayBeExpr : Tokens → Option Expr → Tokens → Type 0 where
    no_expr : {ts : Tokens} → next_sign s.Semicolon ts ≡ true → MayBeExpr ts None ts
    an_expr : {a : Expr} {ts rest : Tokens} → IsExpr ts a rest → MayBeExpr ts (Some a) rest

  -- [ exprs ], before a semicolon
  pub data MayBeExprs : Tokens → List Expr → Tokens → Type 0 where
    no_exprs : {ts : Tokens} → next_sign s.Semicolon ts ≡ true → MayBeExprs ts [] ts
    some_exprs : {xs : List Expr} {ts rest : Tokens} → AreExprs ts xs rest → MayBeExprs ts xs rest

  -- [ exprs ] ")"
  pub data AreUpdates : Tokens → List Expr → Tokens → Type 0 where
    no_updates : {p : Span} {rest : Tokens} → AreUpdates (sign s.CloseParen p ∷ rest) [] rest
    updates : {xs : List Expr} {p : Span} {ts rest : Tokens} → AreExprs ts xs (sign s.CloseParen p ∷ rest) → AreUpdates ts xs rest

  -- { catch }, as long as a clause stands there, with where the last one ends
  pub data AreCatches : ℕ → Tokens → List Catch → ℕ → Tokens → Type 0 where
    no_catches : {i : ℕ} {ts : Tokens} → begins_clause ts ≡ false → AreCatches i ts [] i ts
    catches : {x : Catch} {xs : List Catch} {i j : ℕ} {ts mid rest : Tokens} → begins_clause ts ≡ true → IsCatch ts x mid → AreCatches x.span.to mid xs j rest → AreCatches i ts (x ∷ xs) j rest

  -- catch
  pub data IsCatch : Tokens → Catch → Tokens → Type 0 where
    on : {xs : List Name} {ys : List Stmt} {i j : ℕ} {p : Span} {ts mid rest : Tokens} → IsType ts xs i mid → next_word w.Catch mid ≡ false → IsBlock mid ys j rest
        → IsCatch (ident on_word p ∷ ts) (record { span = span p.from j; type_names = Some xs; name = None; body = ys }) rest
    on_catch : {xs : List Name} {x : List ℕ} {ys : List Stmt} {i j : ℕ} {p q r u v : Span} {ts mid rest : Tokens}
        → IsType ts xs i (word w.Catch q ∷ sign s.OpenParen r ∷ ident x u ∷ sign s.CloseParen v ∷ mid) → IsBlock mid ys j rest
        → IsCatch (ident on_word p ∷ ts) (record { span = span p.from j; type_names = Some xs; name = Some (name_of x u); body = ys }) rest
    catch : {x : List ℕ} {ys : List Stmt} {j : ℕ} {p q r u : Span} {ts rest : Tokens} → IsBlock ts ys j rest
        → IsCatch (word w.Catch p ∷ sign s.OpenParen q ∷ ident x r ∷ sign s.CloseParen u ∷ ts) (record { span = span p.from j; type_names = None; name = Some (name_of x r); body = ys }) rest
