-- What is parsed as an expression is one.
use Rattle.std.proofs.Common.{◌≡◌, ℕ, zero, suc, Bool, true, false, List, [], ◌∷◌, length, Option, Some, None, refl, sym, ap, ◌∙◌, subst, arith}
use Rattle.std.proofs.lemmas.Bool.{eqb-true}
use Rattle.std.proofs.lemmas.Slice.Eq.{bytes_eq-Decides}
use Rattle.std.specs.Prelude.{◌==◌, not}
use Rattle.dart_syntax.specs.declared.words.Word.TheVariants as w
use Rattle.dart_syntax.specs.declared.words.Sign.{Sign}
use Rattle.dart_syntax.specs.declared.words.Sign.TheVariants as s
use Rattle.dart_syntax.specs.declared.tokens.Form.{Form}
use Rattle.dart_syntax.specs.declared.tokens.Form.TheVariants as f
use Rattle.dart_grammar.specs.declared.trees.Span.{Span}
use Rattle.dart_grammar.specs.declared.trees.Operator.{Operator}
use Rattle.dart_grammar.specs.declared.trees.PrefixOperator.{PrefixOperator}
use Rattle.dart_grammar.specs.declared.trees.Assignment.{Assignment}
use Rattle.dart_grammar.specs.declared.trees.Step.{Step}
use Rattle.dart_grammar.specs.declared.trees.Expr.{Expr}
use Rattle.dart_grammar.specs.declared.trees.Expr.TheVariants as e
use Rattle.dart_grammar.specs.declared.trees.Chain.{Chain}
use Rattle.dart_grammar.specs.Marks.{Tokens, token, word, sign, ident, is_named, next, next_word, next_sign, behind, operator_of, prefix_of, step_of, assignment_of, looseness, as_word, joins}
use Rattle.dart_grammar.specs.Trees.{span, span_of, target_span, joined, chain_of, is_super, fits}
use Rattle.dart_grammar.specs.Grammar as g
use Rattle.dart_grammar.specs.Grammar.{start, is_once, IsExpr, IsConditional, IsLevel, IsOperated, IsUnary, IsTarget}
use Rattle.expr_parser.specs.Cursor.{Parser}
use Rattle.expr_parser.specs.Inner.{Inner}
use Rattle.expr_parser.specs.Chains.{chain_in, target_of}
use Rattle.expr_parser.specs.Operators as p
use Rattle.expr_parser.specs.Operators.{form_operator, form_prefix, form_step, form_assignment, spells, first_end}
use Rattle.expr_parser.proofs.Tools.{Says, none, done, bind, weaken, choice, some_is, itself, sign_ahead, word_ahead, take_sign}
use Rattle.expr_parser.proofs.TypesSound.{type_sound}
use Rattle.expr_parser.proofs.PartsSound.{Sound}
use Rattle.expr_parser.proofs.ChainsSound.{IsChain, target_of_sound, chain_sound, target_sound}
use Rattle.expr_parser.proofs.Opened.{chained_in, no_step_before_chain, no_step_behind_chain, no_prefixed_chain, no_operated_chain, no_is_chain, no_is_not_chain, no_as_chain, no_conditional_chain}

-- ---- what the next token spells

-- a sign of some meaning at the front
record Spelt {A : Type 0} (means : Sign → Option A) (ts : Tokens) (x : A) : Type 0 where
  form : Sign
  at : Span
  is : sign form at ∷ behind ts ≡ ts
  spelt : means form ≡ Some x
  ends : at.to ≡ first_end ts

spelt_by : {A : Type 0} (means : Sign → Option A) (what : Form → Option A) → ((x : Sign) → what (f.Sign x) ≡ means x) → ((form : Form) (x : A) → what form ≡ Some x → (y : Sign) × (f.Sign y ≡ form))
    → (ts : Tokens) (x : A) → spells what ts ≡ Some x → Spelt means ts x
spelt_by means what same sign_only [] x h = absurd cc
spelt_by {A = A} means what same sign_only (t ∷ ts) x h = let y = sign_only t.form x h in
    record { form = y.0; at = span t.from t.to; is = ap (λ (form : Form). token form (span t.from t.to) ∷ ts) y.1; spelt = sym (same y.0) ∙ ap what y.1 ∙ h; ends = refl }

operator_spelt : (ts : Tokens) (o : Operator) → spells form_operator ts ≡ Some o → Spelt operator_of ts o
operator_spelt = spelt_by operator_of form_operator (λ x. refl) go
  where
    go : (form : Form) (x : Operator) → form_operator form ≡ Some x → (y : Sign) × (f.Sign y ≡ form)
    go (f.Sign y) x h = (y, refl)
    go _ x h = absurd cc

step_spelt : (ts : Tokens) (o : Step) → spells form_step ts ≡ Some o → Spelt step_of ts o
step_spelt = spelt_by step_of form_step (λ x. refl) go
  where
    go : (form : Form) (x : Step) → form_step form ≡ Some x → (y : Sign) × (f.Sign y ≡ form)
    go (f.Sign y) x h = (y, refl)
    go _ x h = absurd cc

assignment_spelt : (ts : Tokens) (o : Assignment) → spells form_assignment ts ≡ Some o → Spelt assignment_of ts o
assignment_spelt = spelt_by assignment_of form_assignment (λ x. refl) go
  where
    go : (form : Form) (x : Assignment) → form_assignment form ≡ Some x → (y : Sign) × (f.Sign y ≡ form)
    go (f.Sign y) x h = (y, refl)
    go _ x h = absurd cc

pub named_ahead : (x : List ℕ) (ts : Tokens) → next (is_named x) ts ≡ true → (q : Span) × (ident x q ∷ behind ts ≡ ts)
named_ahead x [] h = absurd cc
named_ahead x (t ∷ ts) h = (span t.from t.to, ap (λ (form : Form). token form (span t.from t.to) ∷ ts) (go t.form h))
  where
    go : (form : Form) → is_named x form ≡ true → f.Name x ≡ form
    go (f.Name y) k = ap f.Name ((bytes_eq-Decides x y).0 k)
    go _ k = absurd cc

-- ---- operators between operands

tested_sound : (q : Span) (a : Expr) (ts : Tokens) → Says (λ x. IsOperated 3 a (word w.Is q ∷ ts) x.0 x.1) (p.tested a (word w.Is q ∷ ts))
unfolding p.tested
tested_sound q a ts = choice (is_super a) (λ y. none) (λ n. choice (next_sign s.Not ts)
    (λ y. let b = sign_ahead s.Not ts y in
    bind (type_sound (behind ts)) (λ x d. done (subst (λ (t : Tokens). IsOperated 3 a (word w.Is q ∷ t) (e.IsNot (span (span_of a).from x.0.1) a x.0.0) x.1) b.1 (g.is_not n d))))
    (λ m. bind (type_sound ts) (λ x d. done (g.is' n d))))

cast_sound : (q : Span) (a : Expr) (ts : Tokens) → Says (λ x. IsOperated 3 a (ident as_word q ∷ ts) x.0 x.1) (p.cast a (ident as_word q ∷ ts))
unfolding p.cast
cast_sound q a ts = choice (is_super a) (λ y. none) (λ n. bind (type_sound ts) (λ x d. done (g.as' n d)))

-- an operator and an operand of level k behind it, which a becomes
record Applied (k : ℕ) (a : Expr) (ts : Tokens) (x : Expr) (rest : Tokens) : Type 0 where
  operator : Operator
  right : Expr
  spelt : Spelt operator_of ts operator
  operand : IsLevel k (behind ts) right rest
  fit : fits operator a right ≡ true
  is : e.Operated (joined a right) operator a right ≡ x

operation_sound : (q : Parser Expr) (k : ℕ) → ((ts : Tokens) → Says (λ x. IsLevel k ts x.0 x.1) (q ts)) → (a : Expr) (ts : Tokens) → Says (λ x. Applied k a ts x.0 x.1) (p.operation q a ts)
unfolding p.operation
operation_sound q k sound a ts = bind (itself (spells form_operator ts)) (λ o h. bind (sound (behind ts)) (λ d l. choice (fits o a d.0)
    (λ y. done (record { operator = o; right = d.0; spelt = operator_spelt ts o h; operand = l; fit = y; is = refl }))
    (λ n. none)))

applied_once : {k : ℕ} {a x : Expr} {ts rest : Tokens} → looseness ts ≡ suc k → is_once (suc k) ≡ true → Applied k a ts x rest → IsOperated k a ts x rest
applied_once {k = k} {a = a} {ts = ts} {rest = rest} loose o h = let b = h.spelt in
    subst (λ (y : Expr). IsOperated k a ts y rest) h.is (subst (λ (t : Tokens). IsOperated k a t (e.Operated (joined a h.right) h.operator a h.right) rest) b.is
    (g.once o (ap looseness b.is ∙ loose) b.spelt h.operand h.fit))

applied_more : {k : ℕ} {a x y : Expr} {ts mid rest : Tokens} → looseness ts ≡ suc k → is_once (suc k) ≡ false → Applied k a ts x mid → IsOperated k x mid y rest → IsOperated k a ts y rest
applied_more {k = k} {a = a} {y = y} {ts = ts} {mid = mid} {rest = rest} loose o h more = let b = h.spelt in
    subst (λ (t : Tokens). IsOperated k a t y rest) b.is
    (g.chain o (ap looseness b.is ∙ loose) b.spelt h.operand h.fit (subst (λ (z : Expr). IsOperated k z mid y rest) (sym h.is) more))

at_three : {k : ℕ} {a : Expr} {ts : Tokens} {o : Option (Expr × Tokens)} → 4 ≡ suc k → Says (λ x. IsOperated 3 a ts x.0 x.1) o → Says (λ x. IsOperated k a ts x.0 x.1) o
at_three {k = k} {a = a} {ts = ts} {o = o} l h = let three : 3 ≡ k = omega (arith, l) in subst (λ (m : ℕ). Says (λ x. IsOperated m a ts x.0 x.1) o) three h

operated_sound : (q : Parser Expr) (k : ℕ) → ((ts : Tokens) → Says (λ x. IsLevel k ts x.0 x.1) (q ts))
    → (n : ℕ) (a : Expr) (ts : Tokens) → Says (λ x. IsOperated k a ts x.0 x.1) (p.operated_from q (suc k) n a ts)
unfolding p.operated_from
operated_sound q k sound zero a ts = done g.no_operator
operated_sound q k sound (suc n) a ts = choice (looseness ts == suc k)
    (λ l. let loose = eqb-true (looseness ts) (suc k) l in choice (next_word w.Is ts)
    (λ y. let b = word_ahead w.Is ts y in at_three (ap looseness b.1 ∙ loose) (subst (λ (t : Tokens). Says (λ x. IsOperated 3 a t x.0 x.1) (p.tested a t)) b.1 (tested_sound b.0 a (behind ts))))
    (λ _. choice (next (is_named as_word) ts)
    (λ y. let b = named_ahead as_word ts y in at_three (ap looseness b.1 ∙ loose) (subst (λ (t : Tokens). Says (λ x. IsOperated 3 a t x.0 x.1) (p.cast a t)) b.1 (cast_sound b.0 a (behind ts))))
    (λ _. bind (operation_sound q k sound a ts) (λ x h. choice (is_once (suc k))
    (λ o. done (applied_once loose o h))
    (λ o. weaken (λ z m. applied_more loose o h m) (operated_sound q k sound n x.0 x.1))))))
    (λ _. done g.no_operator)

-- ---- what stands before an assignment is a chain

abbrev No : Expr → Type 0
No a = chain_in a ≡ None

clash : {A B : Type 0} {o : Option B} {c : B} → o ≡ Some c → o ≡ None → A
clash h n = absurd cc

operated_no_chain : {n : ℕ} {a b : Expr} {ts rest : Tokens} → IsOperated n a ts b rest → No a → No b
operated_no_chain g.no_operator h = h
operated_no_chain (g.once {o = o} {a = a} {d = d} q l m i k) h = no_operated_chain (joined a d) o a d
operated_no_chain (g.chain {o = o} {a = a} {d = d} q l m i k j) h = operated_no_chain j (no_operated_chain (joined a d) o a d)
operated_no_chain (g.is' {a = a} {xs = xs} {j = j} n d) h = no_is_chain (span (span_of a).from j) a xs
operated_no_chain (g.is_not {a = a} {xs = xs} {j = j} n d) h = no_is_not_chain (span (span_of a).from j) a xs
operated_no_chain (g.as' {a = a} {xs = xs} {j = j} n d) h = no_as_chain (span (span_of a).from j) a xs

operated_back : {n : ℕ} {a b : Expr} {c : Chain} {ts rest : Tokens} → IsOperated n a ts b rest → chain_in b ≡ Some c → (a ≡ b) × (ts ≡ rest)
operated_back g.no_operator h = (refl, refl)
operated_back (g.once {o = o} {a = a} {d = d} q l m i k) h = clash h (no_operated_chain (joined a d) o a d)
operated_back (g.chain {o = o} {a = a} {d = d} q l m i k j) h = clash h (operated_no_chain j (no_operated_chain (joined a d) o a d))
operated_back (g.is' {a = a} {xs = xs} {j = j} n d) h = clash h (no_is_chain (span (span_of a).from j) a xs)
operated_back (g.is_not {a = a} {xs = xs} {j = j} n d) h = clash h (no_is_not_chain (span (span_of a).from j) a xs)
operated_back (g.as' {a = a} {xs = xs} {j = j} n d) h = clash h (no_as_chain (span (span_of a).from j) a xs)

unary_chain : {a : Expr} {c : Chain} {ts rest : Tokens} → IsUnary ts a rest → chain_in a ≡ Some c → IsChain ts c rest
unary_chain (g.prefixed {o = o} {a = a} {p = p} q d n) h = clash h (no_prefixed_chain (span p.from (span_of a).to) o a)
unary_chain (g.step_before {o = o} {a = a} {p = p} q d) h = clash h (no_step_before_chain (span p.from (target_span a).to) o a)
unary_chain (g.step_behind {o = o} {a = a} {p = p} d q) h = clash h (no_step_behind_chain (span (target_span a).from p.to) o a)
unary_chain {c = c} (g.chained {a = a} {xs = xs} {mid = mid} d k) h =
    record { head = a; selectors = xs; mid = mid; is = some_is (chain_of a xs) c (sym (chained_in (chain_of a xs)) ∙ h); begins = d; goes = k }

level_chain : {n : ℕ} {a : Expr} {c : Chain} {ts rest : Tokens} → IsLevel n ts a rest → chain_in a ≡ Some c → IsChain ts c rest
level_chain (g.unary d) h = unary_chain d h
level_chain {c = c} {ts = ts} {rest = rest} (g.level {a = a} {mid = mid} d o) h =
    let back = operated_back o h in
    let first : chain_in a ≡ Some c = ap chain_in back.0 ∙ h in
    subst (λ (t : Tokens). IsChain ts c t) back.1 (level_chain d first)

conditional_chain : {a : Expr} {c : Chain} {ts rest : Tokens} → IsConditional ts a rest → chain_in a ≡ Some c → IsChain ts c rest
conditional_chain (g.no_choice d n) h = level_chain d h
conditional_chain (g.choice {a = a} {d = d} {g = x} l n i k) h = clash h (no_conditional_chain (joined a x) a d x)

-- ---- by what it asks of what nests

module _ (inner : Inner) (sound : Sound inner) where
  -- behind a chain
  stepped_sound : {c : Chain} (ts rest : Tokens) → IsChain ts c rest → (o : Option Step) → spells form_step rest ≡ o → Says (λ x. IsUnary ts x.0 x.1) (p.stepped inner c o rest)
  stepped_sound {c = c} ts rest d None h = done (subst (λ (z : Chain). IsUnary ts (e.Chained z) rest) d.is (g.chained d.begins d.goes))
  stepped_sound {c = c} ts rest d (Some o) h = let b = step_spelt rest o h in
      bind (itself (target_of c)) (λ a k. done (subst (λ (j : ℕ). IsUnary ts (e.StepBehind (span (target_span a).from j) o a) (behind rest)) b.ends
      (g.step_behind (subst (λ (t : Tokens). IsTarget ts a t) (sym b.is) (target_of_sound d k)) b.spelt)))

  postfix_sound : (ts : Tokens) → Says (λ x. IsUnary ts x.0 x.1) (p.postfix inner ts)
  unfolding p.postfix
  postfix_sound ts = bind (chain_sound inner sound ts) (λ c d. stepped_sound ts c.1 d (spells form_step c.1) refl)

  step_before_sound : (x : Sign) (o : Step) (q : Span) (ts : Tokens) → step_of x ≡ Some o → Says (λ y. IsUnary (sign x q ∷ ts) y.0 y.1) (p.step_before inner o q.from ts)
  unfolding p.step_before
  step_before_sound x o q ts h = bind (target_sound inner sound ts) (λ a d. done (g.step_before h d))

  sign_unary_sound : (x : Sign) (q : Span) (ts : Tokens) (operand : Option (Expr × Tokens)) → Says (λ y. IsUnary ts y.0 y.1) operand → (o : Option PrefixOperator) → prefix_of x ≡ o
      → (i : Option Step) → step_of x ≡ i → Says (λ y. IsUnary (sign x q ∷ ts) y.0 y.1) (p.unary_by inner o i q.from operand (sign x q ∷ ts) ts)
  sign_unary_sound x q ts operand d (Some o) h i k = bind d (λ a l. choice (is_super a.0) (λ y. none) (λ n. done (g.prefixed h l n)))
  sign_unary_sound x q ts operand d None h (Some i) k = step_before_sound x i q ts k
  sign_unary_sound x q ts operand d None h None k = postfix_sound (sign x q ∷ ts)

  unary_by_sound : (form : Form) (q : Span) (ts : Tokens) (operand : Option (Expr × Tokens)) → Says (λ y. IsUnary ts y.0 y.1) operand
      → Says (λ y. IsUnary (token form q ∷ ts) y.0 y.1) (p.unary_by inner (form_prefix form) (form_step form) q.from operand (token form q ∷ ts) ts)
  unary_by_sound (f.Sign x) q ts operand d = sign_unary_sound x q ts operand d (prefix_of x) refl (step_of x) refl
  unary_by_sound form q ts operand d = postfix_sound (token form q ∷ ts)

  unary_sound : (ts : Tokens) → Says (λ y. IsUnary ts y.0 y.1) (p.unary inner ts)
  unfolding p.unary
  unary_sound [] = none
  unary_sound (t ∷ ts) = unary_by_sound t.form (span t.from t.to) ts (p.unary inner ts) (unary_sound ts)

  level_sound : (n : ℕ) (ts : Tokens) → Says (λ y. IsLevel n ts y.0 y.1) (p.level inner n ts)
  unfolding p.level
  level_sound zero ts = none
  level_sound (suc zero) ts = weaken (λ x d. g.unary d) (unary_sound ts)
  level_sound (suc (suc n)) ts = bind (level_sound (suc n) ts) (λ a d. weaken (λ x o. g.level d o) (operated_sound (p.level inner (suc n)) (suc n) (level_sound (suc n)) (length a.1) a.0 a.1))

  conditional_sound : (ts : Tokens) → Says (λ y. IsConditional ts y.0 y.1) (p.conditional inner ts)
  unfolding p.conditional p.branches
  conditional_sound ts = bind (level_sound 7 ts) (λ a d. choice (is_super a.0) (λ y. none) (λ n. choice (next_sign s.Question a.1)
      (λ y. let b = sign_ahead s.Question a.1 y in
      bind (sound.expr (behind a.1)) (λ v k. take_sign s.Colon v.1 (λ t. IsExpr (behind a.1) v.0 t) k.0
      (λ c i. bind (sound.expr c.1) (λ x o. done (g.choice (subst (λ (t : Tokens). IsLevel 7 ts a.0 t) (sym b.1) d) n i o.0)))))
      (λ _. done (g.no_choice d n))))

  assigned_by_sound : (ts : Tokens) (a : Expr) (rest : Tokens) → IsConditional ts a rest → (o : Option Assignment) → spells form_assignment rest ≡ o → Says (λ y. IsExpr ts y.0 y.1) (p.assigned_by inner o a rest)
  unfolding p.assigned_by p.assigned
  assigned_by_sound ts a rest d None h = done (g.plain d)
  assigned_by_sound ts a rest d (Some o) h = let b = assignment_spelt rest o h in
      bind (itself (chain_in a)) (λ c i. bind (itself (target_of c)) (λ x k. bind (sound.expr (behind rest)) (λ v l.
      done (g.assigned (subst (λ (t : Tokens). IsTarget ts x t) (sym b.is) (target_of_sound (conditional_chain d i) k)) b.spelt l.0))))

  whole_sound : (ts : Tokens) → Says (λ y. IsExpr ts y.0 y.1) (p.whole inner ts)
  unfolding p.whole p.thrown
  whole_sound ts = choice (next_word w.Throw ts)
      (λ y. let b = word_ahead w.Throw ts y in
      bind (sound.expr (behind ts)) (λ a d. done (subst (λ (t : Tokens). IsExpr t (e.Throw (span (start t) (span_of a.0).to) a.0) a.1) b.1 (g.throw' d.0))))
      (λ _. bind (conditional_sound ts) (λ a d. assigned_by_sound ts a.0 a.1 d (spells form_assignment a.1) refl))

  not_false : (b : Bool) → not b ≡ false → b ≡ true
  not_false true h = refl
  not_false false h = absurd cc

  pub ended_sound : (ts : Tokens) → Says (λ y. IsExpr ts y.0 y.1 × (looseness y.1 ≡ 10)) (p.ended inner ts)
  unfolding p.ended
  ended_sound ts = bind (whole_sound ts) (λ a d. choice (joins a.1) (λ y. none) (λ n. done (d, eqb-true (looseness a.1) 10 (not_false (looseness a.1 == 10) n))))
