-- Expressions are parsed.
use Rattle.std.proofs.Common.{◌≡◌, ℕ, zero, suc, ◌<◌, ◌≤◌, Bool, true, false, [], ◌∷◌, length, Some, None, refl, ◌∙◌, inl, inr, arith}
use Rattle.std.proofs.lemmas.Bool.{eq-eqb}
use Rattle.std.proofs.lemmas.Bool.Decides.{eqb_tells}
use Rattle.std.specs.Prelude.{◌==◌}
use Rattle.dart_syntax.specs.declared.words.Sign.{Sign}
use Rattle.dart_syntax.specs.declared.words.Sign.TheVariants as s
use Rattle.dart_syntax.specs.declared.tokens.Form.{Form}
use Rattle.dart_syntax.specs.declared.tokens.Form.TheVariants as f
use Rattle.dart_grammar.specs.declared.trees.Span.{Span}
use Rattle.dart_grammar.specs.declared.trees.Assignment.{Assignment}
use Rattle.dart_grammar.specs.declared.trees.Step.{Step}
use Rattle.dart_grammar.specs.declared.trees.Expr.{Expr}
use Rattle.dart_grammar.specs.declared.trees.Expr.TheVariants as e
use Rattle.dart_grammar.specs.declared.trees.Head.{Head}
use Rattle.dart_grammar.specs.declared.trees.Target.{Target}
use Rattle.dart_grammar.specs.declared.trees.Chain.{Chain}
use Rattle.dart_grammar.specs.Marks.{Tokens, token, sign, same_sign, same_word, next, next_sign, prefix_of, step_of, assignment_of, sign_looseness, looseness, form_looseness}
use Rattle.dart_grammar.specs.Trees.{span, is_super}
use Rattle.dart_grammar.specs.Grammar as g
use Rattle.dart_grammar.specs.Grammar.{MayHaveTypeArguments, AreTexts, IsText, IsExpr, IsConditional, IsLevel, IsOperated, IsUnary, IsTarget, IsHead}
use Rattle.expr_parser.specs.Cursor.{Parser, sign_at}
use Rattle.expr_parser.specs.Inner.{Inner}
use Rattle.expr_parser.specs.Chains as c
use Rattle.expr_parser.specs.Chains.{begins_selector, chain_in, target_of}
use Rattle.expr_parser.specs.Operators as p
use Rattle.expr_parser.specs.Operators.{form_prefix, form_step, form_assignment, spells}
use Rattle.expr_parser.proofs.Shrinks.{level_shrinks, target_shrinks, expr_shrinks}
use Rattle.expr_parser.proofs.TypesComplete.{type_complete, type_first, name_no_sign}
use Rattle.expr_parser.proofs.Firsts.{conditional_first, target_first, no_throw}
use Rattle.expr_parser.proofs.Opened.{chained_in}
use Rattle.expr_parser.proofs.PartsComplete.{Complete}
use Rattle.expr_parser.proofs.ChainsComplete.{no_selector, chain_complete, target_read}

-- ---- signs before an operand, and what begins without one

abbrev plain_sign : Sign → Bool
plain_sign s.OpenParen = true
plain_sign s.OpenBracket = true
plain_sign s.OpenBrace = true
plain_sign s.Less = true
plain_sign _ = false

abbrev is_plain : Form → Bool
is_plain (f.Sign x) = plain_sign x
is_plain _ = true

list_plain : {ts mid : Tokens} → MayHaveTypeArguments ts mid → next is_plain mid ≡ true → next is_plain ts ≡ true
list_plain (g.has_none n) k = k
list_plain (g.has_some (g.type_arguments t)) k = refl

head_plain : {ts rest : Tokens} {a : Head} → IsHead ts a rest → next is_plain ts ≡ true
head_plain g.named = refl
head_plain g.this = refl
head_plain (g.super n) = refl
head_plain g.null = refl
head_plain g.true' = refl
head_plain g.false' = refl
head_plain g.number = refl
head_plain (g.texts (g.last_text (g.text d) n)) = refl
head_plain (g.texts (g.more_texts (g.text d) m)) = refl
head_plain (g.new n d) = refl
head_plain (g.parenthesised o d) = refl
head_plain (g.literal o k d) = refl
head_plain (g.no_items m) = list_plain m refl
head_plain (g.list m d k) = list_plain m refl
head_plain (g.no_entries m) = list_plain m refl
head_plain (g.map m d k) = list_plain m refl

target_plain : {ts rest : Tokens} {a : Target} → IsTarget ts a rest → next is_plain ts ≡ true
target_plain g.bare = refl
target_plain (g.member_of d k) = head_plain d
target_plain (g.index_of d k i) = head_plain d

plain_sign_by : (x : Sign) → plain_sign x ≡ true → (prefix_of x ≡ None) × (step_of x ≡ None)
plain_sign_by s.OpenParen k = (refl, refl)
plain_sign_by s.OpenBracket k = (refl, refl)
plain_sign_by s.OpenBrace k = (refl, refl)
plain_sign_by s.Less k = (refl, refl)
plain_sign_by _ k = absurd cc

plain_by : (form : Form) → is_plain form ≡ true → (form_prefix form ≡ None) × (form_step form ≡ None)
plain_by (f.Sign x) k = plain_sign_by x k
plain_by _ k = (refl, refl)

step_no_prefix : (x : Sign) (o : Step) → step_of x ≡ Some o → prefix_of x ≡ None
step_no_prefix s.Minus o k = absurd cc
step_no_prefix s.Not o k = absurd cc
step_no_prefix _ o k = refl

step_no_selector : (x : Sign) (o : Step) (q : Span) (ts : Tokens) → step_of x ≡ Some o → begins_selector (sign x q ∷ ts) ≡ false
unfolding same_sign
step_no_selector s.Increment o q ts k = refl
step_no_selector s.Decrement o q ts k = refl
step_no_selector _ o q ts k = absurd cc

-- ---- what the next token does not spell

looser_step : (ts : Tokens) → 1 < looseness ts → spells form_step ts ≡ None
looser_step [] k = refl
looser_step (t ∷ ts) k = by t.form k
  where
    at : (x : Sign) → 1 < sign_looseness x → step_of x ≡ None
    at s.Increment k = absurd (omega (arith, k))
    at s.Decrement k = absurd (omega (arith, k))
    at _ k = refl

    by : (form : Form) → 1 < form_looseness form → form_step form ≡ None
    by (f.Sign x) k = at x k
    by _ k = refl

ten_no_assignment : (ts : Tokens) → looseness ts ≡ 10 → spells form_assignment ts ≡ None
ten_no_assignment [] k = refl
ten_no_assignment (t ∷ ts) k = by t.form k
  where
    at : (x : Sign) → sign_looseness x ≡ 10 → assignment_of x ≡ None
    at s.Assign k = absurd (omega (arith, k))
    at s.PlusAssign k = absurd (omega (arith, k))
    at s.MinusAssign k = absurd (omega (arith, k))
    at s.TimesAssign k = absurd (omega (arith, k))
    at s.DivideAssign k = absurd (omega (arith, k))
    at s.ModuloAssign k = absurd (omega (arith, k))
    at _ k = refl

    by : (form : Form) → form_looseness form ≡ 10 → form_assignment form ≡ None
    by (f.Sign x) k = at x k
    by _ k = refl

assignment_looseness : (x : Sign) (o : Assignment) → assignment_of x ≡ Some o → sign_looseness x ≡ 9
assignment_looseness s.Assign o k = refl
assignment_looseness s.PlusAssign o k = refl
assignment_looseness s.MinusAssign o k = refl
assignment_looseness s.TimesAssign o k = refl
assignment_looseness s.DivideAssign o k = refl
assignment_looseness s.ModuloAssign o k = refl
assignment_looseness _ o k = absurd cc

looser_question : (ts : Tokens) → 8 < looseness ts → next_sign s.Question ts ≡ false
unfolding same_sign
looser_question [] k = refl
looser_question (t ∷ ts) k = by t.form k
  where
    at : (x : Sign) → 8 < sign_looseness x → next_sign s.Question (sign x (span 0 0) ∷ []) ≡ false
    at s.Question k = absurd (omega (arith, k))
    at _ k = refl

    by : (form : Form) → 8 < form_looseness form → next_sign s.Question (token form (span 0 0) ∷ []) ≡ false
    by (f.Sign x) k = at x k
    by _ k = refl

-- ---- operators

not_same : (a b : ℕ) → b < a → (a == b) ≡ false
not_same a b l = elim (eqb_tells a b) [ inl y ↦ absurd (omega (arith, l, y.1)) | inr y ↦ y.0 ]

operated_none : (q : Parser Expr) (k turns : ℕ) (a : Expr) (ts : Tokens) → k < looseness ts → p.operated_from q k turns a ts ≡ Some (a, ts)
unfolding p.operated_from
operated_none q k zero a ts l = refl
operated_none q k (suc n) a ts l = rw (not_same (looseness ts) k l) refl

operated_looser : {k : ℕ} {a d : Expr} {ts rest : Tokens} → IsOperated k a ts d rest → suc k < looseness rest → k < looseness ts
operated_looser g.no_operator l = omega (arith, l)
operated_looser (g.once q i o d z) l = omega (arith, i)
operated_looser (g.chain q i o d z m) l = omega (arith, i)
operated_looser (g.is' n d) l = omega arith
operated_looser (g.is_not n d) l = omega arith
operated_looser (g.as' n d) l = omega arith

module _ (inner : Inner) (n : ℕ) (complete : Complete n inner) where
  unary_is : (ts : Tokens) → next is_plain ts ≡ true → p.unary inner ts ≡ p.postfix inner ts
  unfolding p.unary
  unary_is [] k = absurd cc
  unary_is (t ∷ ts) k = let z = plain_by t.form k in rw (z.0, z.1) refl

  postfix_plain : (ts : Tokens) {rest : Tokens} {x : Chain} → c.chain inner ts ≡ Some (x, rest) → 1 < looseness rest → p.postfix inner ts ≡ Some (e.Chained x, rest)
  unfolding p.postfix
  postfix_plain ts {rest = rest} k l = rw (k, looser_step rest l) refl

  unary_complete : {ts rest : Tokens} {a : Expr} → IsUnary ts a rest → length ts ≤ suc n → 1 < looseness rest → p.unary inner ts ≡ Some (a, rest)
  unfolding p.unary p.step_before p.postfix c.target
  unary_complete (g.prefixed k d m) i l = rw (k, unary_complete d (omega (arith, i)) l, m) refl
  unary_complete {rest = rest} (g.step_before {x = x} {o = o} k d) i l =
      let t = target_read inner n complete d (omega (arith, i)) (no_selector rest l) in
      rw (step_no_prefix x o k, k, t.found, t.is) refl
  unary_complete {ts = ts} {rest = rest} (g.step_behind {x = x} {o = o} {p = q} d k) i l =
      let t = target_read inner n complete d i (step_no_selector x o q rest k) in
      unary_is ts (target_plain d) ∙ rw (t.found, k, t.is) refl
  unary_complete {ts = ts} {rest = rest} (g.chained d k) i l = unary_is ts (head_plain d) ∙ postfix_plain ts (chain_complete inner n complete d k i (no_selector rest l)) l

  mutual
    unfolding p.level p.operated_from p.operation p.tested p.cast same_word same_sign

    level_complete : {k : ℕ} {ts rest : Tokens} {a : Expr} → IsLevel k ts a rest → length ts ≤ suc n → k < looseness rest → p.level inner k ts ≡ Some (a, rest)
    level_complete (g.unary d) i l = unary_complete d i l
    level_complete (g.level {n = k} {a = a} {mid = mid} d o) i l =
        rw (level_complete d i (operated_looser o l)) (operated_complete o (length mid) (omega arith) (omega (arith, i, level_shrinks d)) l)

    operated_complete : {k : ℕ} {a d : Expr} {ts rest : Tokens} → IsOperated k a ts d rest → (turns : ℕ) → length ts ≤ turns → length ts ≤ suc n → suc k < looseness rest
        → p.operated_from (p.level inner k) (suc k) turns a ts ≡ Some (d, rest)
    operated_complete {k = k} {a = a} {ts = ts} g.no_operator turns i j l = operated_none (p.level inner k) (suc k) turns a ts l
    operated_complete (g.once q z o d y) zero i j l = absurd (omega (arith, i))
    operated_complete {k = k} (g.once {x = x} q z o d y) (suc turns) i j l = rw (eq-eqb (sign_looseness x) (suc k) z, o, level_complete d (omega (arith, j)) (omega (arith, l)), y, q) refl
    operated_complete (g.chain q z o d y m) zero i j l = absurd (omega (arith, i))
    operated_complete {k = k} (g.chain {x = x} q z o d y m) (suc turns) i j l =
        rw (eq-eqb (sign_looseness x) (suc k) z, o, level_complete d (omega (arith, j)) (operated_looser m l), y, q) (operated_complete m turns (omega (arith, i, level_shrinks d)) (omega (arith, j, level_shrinks d)) l)
    operated_complete (g.is' m d) zero i j l = absurd (omega (arith, i))
    operated_complete (g.is' {ts = ts} m d) (suc turns) i j l = rw (m, name_no_sign s.Not ts (type_first d), type_complete d) refl
    operated_complete (g.is_not m d) zero i j l = absurd (omega (arith, i))
    operated_complete (g.is_not m d) (suc turns) i j l = rw (m, type_complete d) refl
    operated_complete (g.as' m d) zero i j l = absurd (omega (arith, i))
    operated_complete (g.as' m d) (suc turns) i j l = rw (m, type_complete d) refl

  conditional_complete : {ts rest : Tokens} {a : Expr} → IsConditional ts a rest → length ts ≤ suc n → looseness rest ≡ 10 → p.conditional inner ts ≡ Some (a, rest)
  unfolding p.conditional p.branches sign_at same_sign
  conditional_complete {rest = rest} (g.no_choice d m) i l = rw (level_complete d i (omega (arith, l)), m, looser_question rest (omega (arith, l))) refl
  conditional_complete (g.choice d m x y) i l =
      rw (level_complete d i (omega arith), m, complete.expr x (omega (arith, i, level_shrinks d)) refl, complete.expr y (omega (arith, i, level_shrinks d, expr_shrinks x)) l) refl

  -- ---- assignments

  -- an operand alone is a level
  level_lift : (k : ℕ) (a : Expr) (ts rest : Tokens) → p.unary inner ts ≡ Some (a, rest) → suc k < looseness rest → p.level inner (suc k) ts ≡ Some (a, rest)
  unfolding p.level
  level_lift zero a ts rest d l = d
  level_lift (suc k) a ts rest d l = rw (level_lift k a ts rest d (omega (arith, l))) (operated_none (p.level inner (suc k)) (suc (suc k)) (length rest) a rest l)

  conditional_chain : (x : Chain) (ts rest : Tokens) → p.unary inner ts ≡ Some (e.Chained x, rest) → 8 < looseness rest → is_super (e.Chained x) ≡ false → p.conditional inner ts ≡ Some (e.Chained x, rest)
  unfolding p.conditional
  conditional_chain x ts rest d l m = rw (level_lift 6 (e.Chained x) ts rest d (omega (arith, l)), m, looser_question rest l) refl

  chain_plain : {ts rest : Tokens} {x : Chain} {a : Target} → IsTarget ts a rest → c.chain inner ts ≡ Some (x, rest) → 1 < looseness rest → p.unary inner ts ≡ Some (e.Chained x, rest)
  chain_plain {ts = ts} d k l = unary_is ts (target_plain d) ∙ postfix_plain ts k l

  whole_complete : {ts rest : Tokens} {a : Expr} → IsExpr ts a rest → length ts ≤ suc n → looseness rest ≡ 10 → p.whole inner ts ≡ Some (a, rest)
  unfolding p.whole p.thrown p.assigned_by p.assigned same_word
  whole_complete {ts = ts} (g.assigned {x = x} {o = o} {p = q} {mid = mid} d k v) i l =
      let nine = assignment_looseness x o k in
      let t = target_read inner n complete d i (no_selector (sign x q ∷ mid) (omega (arith, nine))) in
      rw (
        no_throw ts (target_first d),
        conditional_chain t.chain ts (sign x q ∷ mid) (chain_plain d t.found (omega (arith, nine))) (omega (arith, nine)) t.alone,
        k,
        chained_in t.chain,
        t.is,
        complete.expr v (omega (arith, i, target_shrinks d)) l,
      ) refl
  whole_complete (g.throw' d) i l = rw (complete.expr d (omega (arith, i)) l) refl
  whole_complete {ts = ts} {rest = rest} (g.plain d) i l = rw (no_throw ts (conditional_first d), conditional_complete d i l, ten_no_assignment rest l) refl

  pub ended_complete : {ts rest : Tokens} {a : Expr} → IsExpr ts a rest → length ts ≤ suc n → looseness rest ≡ 10 → p.ended inner ts ≡ Some (a, rest)
  unfolding p.ended
  ended_complete d i l = rw (whole_complete d i l, l) refl
