-- What is parsed as a head, selectors or a target is one.
use Rattle.std.proofs.Common.{◌≡◌, ℕ, zero, suc, true, false, List, [], ◌∷◌, ◌++◌, length, Some, refl, sym, ap, ◌∙◌, subst}
use Rattle.dart_syntax.specs.declared.words.Word.{Word}
use Rattle.dart_syntax.specs.declared.words.Word.TheVariants as w
use Rattle.dart_syntax.specs.declared.words.Sign.{Sign}
use Rattle.dart_syntax.specs.declared.words.Sign.TheVariants as s
use Rattle.dart_syntax.specs.declared.tokens.Form.{Form}
use Rattle.dart_syntax.specs.declared.tokens.Form.TheVariants as f
use Rattle.dart_grammar.specs.declared.trees.Span.{Span}
use Rattle.dart_grammar.specs.declared.trees.Expr.{Expr}
use Rattle.dart_grammar.specs.declared.trees.Head.{Head, out-Head}
use Rattle.dart_grammar.specs.declared.trees.Head.TheVariants as h
use Rattle.dart_grammar.specs.declared.trees.Selector.{Selector, out-Selector}
use Rattle.dart_grammar.specs.declared.trees.Selector.TheVariants as l
use Rattle.dart_grammar.specs.declared.trees.Target.{Target}
use Rattle.dart_grammar.specs.declared.trees.Target.TheVariants as t
use Rattle.dart_grammar.specs.declared.trees.Arguments.{Arguments}
use Rattle.dart_grammar.specs.declared.trees.Chain.{Chain}
use Rattle.dart_grammar.specs.Marks.{Tokens, token, word, sign, ident, next_sign, behind}
use Rattle.dart_grammar.specs.Shapes.{opens_function}
use Rattle.dart_grammar.specs.Trees.{span, name_of, chain_of}
use Rattle.dart_grammar.specs.Grammar as g
use Rattle.dart_grammar.specs.Grammar.{start, MayHaveTypeArguments, IsExpr, IsHead, AreSelectors, AreArguments, IsTarget}
use Rattle.expr_parser.specs.Inner.{Inner}
use Rattle.expr_parser.specs.Chains as c
use Rattle.expr_parser.specs.Chains.{bare_at, selected_at, target_from, target_of}
use Rattle.expr_parser.proofs.Tools.{Says, none, done, bind, weaken, choice, some_is, itself, sign_ahead, take_sign, take_name}
use Rattle.expr_parser.proofs.TypesSound.{past_type_arguments_sound, new_names_sound}
use Rattle.expr_parser.proofs.PartsSound.{Sound, More, no_item, more_items, all_items, last_comma_sound, exprs_sound, entries_sound, arguments_sound, literal_body_sound, texts_sound}
use Rattle.expr_parser.proofs.Opened.{bare_named, no_bare_this, no_bare_super, no_bare_null, no_bare_true, no_bare_false, no_bare_number, no_bare_texts, no_bare_new, no_bare_parenthesised, no_bare_literal, no_bare_list, no_bare_map, selected_member, selected_invoke, selected_index, selected_call}

-- ---- selectors one by one

pub data IsSelector : Tokens → Selector → Tokens → Type 0 where
  a_member : {x : List ℕ} {p q : Span} {ts : Tokens} → next_sign s.OpenParen ts ≡ false → IsSelector (sign s.Dot p ∷ ident x q ∷ ts) (l.Member (span p.from q.to) (name_of x q)) ts
  an_invoke : {x : List ℕ} {a : Arguments} {p q : Span} {ts mid : Tokens} → AreArguments ts a mid → IsSelector (sign s.Dot p ∷ ident x q ∷ ts) (l.Invoke (span p.from a.span.to) (name_of x q) a) mid
  an_index : {a : Expr} {p q : Span} {ts mid : Tokens} → IsExpr ts a (sign s.CloseBracket q ∷ mid) → IsSelector (sign s.OpenBracket p ∷ ts) (l.Index (span p.from q.to) a) mid
  a_call : {a : Arguments} {ts mid : Tokens} → AreArguments ts a mid → IsSelector ts (l.Call a) mid

pub data Steps : Tokens → List Selector → Tokens → Type 0 where
  stop : {ts : Tokens} → Steps ts [] ts
  step : {x : Selector} {xs : List Selector} {ts mid rest : Tokens} → IsSelector ts x mid → Steps mid xs rest → Steps ts (x ∷ xs) rest

pub steps : {xs : List Selector} {ts rest : Tokens} → AreSelectors ts xs rest → Steps ts xs rest
steps g.no_selectors = stop
steps (g.member n d) = step (a_member n) (steps d)
steps (g.invoke a d) = step (an_invoke a) (steps d)
steps (g.index a d) = step (an_index a) (steps d)
steps (g.call a d) = step (a_call a) (steps d)

pub selects : {x : Selector} {xs : List Selector} {ts mid rest : Tokens} → IsSelector ts x mid → AreSelectors mid xs rest → AreSelectors ts (x ∷ xs) rest
selects (a_member n) d = g.member n d
selects (an_invoke a) d = g.invoke a d
selects (an_index a) d = g.index a d
selects (a_call a) d = g.call a d

pub one_more : {x : Selector} {xs : List Selector} {ts mid rest : Tokens} → AreSelectors ts xs mid → IsSelector mid x rest → AreSelectors ts (xs ++ x ∷ []) rest
one_more g.no_selectors i = selects i g.no_selectors
one_more (g.member n d) i = g.member n (one_more d i)
one_more (g.invoke a d) i = g.invoke a (one_more d i)
one_more (g.index a d) i = g.index a (one_more d i)
one_more (g.call a d) i = g.call a (one_more d i)

-- ---- targets

bare_sound : {a : Head} {ts rest : Tokens} {x : Target} → IsHead ts a rest → bare_at (out-Head a) ≡ Some x → IsTarget ts x rest
bare_sound {rest = rest} {x = z} (g.named {x = x} {p = p}) e = subst (λ (y : Target). IsTarget (ident x p ∷ rest) y rest) (some_is (t.Bare (name_of x p)) z (sym (bare_named (name_of x p)) ∙ e)) g.bare
bare_sound (g.this {p = p}) e = absurd (let no = no_bare_this p in cc)
bare_sound (g.super {p = p} n) e = absurd (let no = no_bare_super p in cc)
bare_sound (g.null {p = p}) e = absurd (let no = no_bare_null p in cc)
bare_sound (g.true' {p = p}) e = absurd (let no = no_bare_true p in cc)
bare_sound (g.false' {p = p}) e = absurd (let no = no_bare_false p in cc)
bare_sound (g.number {n = n} {p = p}) e = absurd (let no = no_bare_number p n in cc)
bare_sound (g.texts {us = us} {ps = ps} {j = j} {ts = ts} d) e = absurd (let no = no_bare_texts (span (start ts) j) us ps in cc)
bare_sound (g.new {xs = xs} {a = a} {p = p} n d) e = absurd (let no = no_bare_new (span p.from a.span.to) xs a in cc)
bare_sound (g.parenthesised {a = a} {p = p} {q = q} o d) e = absurd (let no = no_bare_parenthesised (span p.from q.to) a in cc)
bare_sound (g.literal {ps = ps} {d = d} {j = j} {p = p} o k b) e = absurd (let no = no_bare_literal (span p.from j) ps d in cc)
bare_sound (g.no_items {q = q} {ts = ts} m) e = absurd (let no = no_bare_list (span (start ts) q.to) [] in cc)
bare_sound (g.list {xs = xs} {j = j} {ts = ts} m d k) e = absurd (let no = no_bare_list (span (start ts) j) xs in cc)
bare_sound (g.no_entries {q = q} {ts = ts} m) e = absurd (let no = no_bare_map (span (start ts) q.to) [] in cc)
bare_sound (g.map {xs = xs} {j = j} {ts = ts} m d k) e = absurd (let no = no_bare_map (span (start ts) j) xs in cc)

last_sound : {a : Head} {before : List Selector} {ts begun mid rest : Tokens} {x : Selector} {y : Target} → IsHead ts a begun → AreSelectors begun before mid → IsSelector mid x rest
    → selected_at a before (out-Selector x) ≡ Some y → IsTarget ts y rest
last_sound {a = a} {before = before} {ts = ts} {rest = rest} {y = z} d k (a_member {x = x} {p = p} {q = q} n) e =
    subst (λ (y : Target). IsTarget ts y rest) (some_is (t.MemberOf (chain_of a before) (name_of x q)) z (sym (selected_member a before (span p.from q.to) (name_of x q)) ∙ e)) (g.member_of d k)
last_sound {a = a} {before = before} d k (an_invoke {x = x} {a = b} {p = p} {q = q} i) e = absurd (let no = selected_invoke a before (span p.from b.span.to) (name_of x q) b in cc)
last_sound {a = a} {before = before} {ts = ts} {rest = rest} {y = z} d k (an_index {a = b} {p = p} {q = q} i) e =
    subst (λ (y : Target). IsTarget ts y rest) (some_is (t.IndexOf (chain_of a before) (span p.from q.to) b) z (sym (selected_index a before (span p.from q.to) b) ∙ e)) (g.index_of d k i)
last_sound {a = a} {before = before} d k (a_call {a = b} i) e = absurd (let no = selected_call a before b in cc)

more_sound : {a : Head} {before xs : List Selector} {ts begun mid after rest : Tokens} {x : Selector} {y : Target} → IsHead ts a begun → AreSelectors begun before mid → IsSelector mid x after
    → Steps after xs rest → target_from a before (x ∷ xs) ≡ Some y → IsTarget ts y rest
more_sound d k i stop e = last_sound d k i e
more_sound d k i (step j m) e = more_sound d (one_more k i) j m e

steps_sound : {a : Head} {xs : List Selector} {ts mid rest : Tokens} {y : Target} → IsHead ts a mid → Steps mid xs rest → target_from a [] xs ≡ Some y → IsTarget ts y rest
steps_sound d stop e = bare_sound d e
steps_sound d (step i m) e = more_sound d g.no_selectors i m e

-- a head and selectors
pub record IsChain (ts : Tokens) (c : Chain) (rest : Tokens) : Type 0 where
  pub head : Head
  pub selectors : List Selector
  pub mid : Tokens
  pub is : chain_of head selectors ≡ c
  pub begins : IsHead ts head mid
  pub goes : AreSelectors mid selectors rest

pub target_of_sound : {c : Chain} {ts rest : Tokens} {y : Target} → IsChain ts c rest → target_of c ≡ Some y → IsTarget ts y rest
unfolding target_of
target_of_sound {y = y} d e = steps_sound d.begins (steps d.goes) (subst (λ (z : Chain). target_from z.head [] z.selectors ≡ Some y) (sym d.is) e)

module _ (inner : Inner) (sound : Sound inner) where
  -- ---- heads

  new_sound : (p : Span) (ts : Tokens) → Says (λ y. IsHead (word w.New p ∷ ts) y.0 y.1) (c.new inner p.from ts)
  unfolding c.new
  new_sound p ts = bind (new_names_sound ts) (λ xs d. bind (arguments_sound inner sound xs.1) (λ a k. done (g.new d k)))

  parenthesised_sound : (p : Span) (ts : Tokens) → opens_function ts ≡ false → Says (λ y. IsHead (sign s.OpenParen p ∷ ts) y.0 y.1) (c.parenthesised inner (sign s.OpenParen p ∷ ts))
  unfolding c.parenthesised
  parenthesised_sound p ts n = take_sign s.OpenParen (sign s.OpenParen p ∷ ts) (λ t. t ≡ sign s.OpenParen p ∷ ts) refl (λ q e. bind (sound.expr q.1) (λ a d.
      take_sign s.CloseParen a.1 (λ t. IsExpr q.1 a.0 t) d.0 (λ r k.
      done (subst (λ (t : Tokens). IsHead t (h.Parenthesised (span q.0.from r.0.to) a.0) r.1) e (g.parenthesised (rw (ap (λ (t : Tokens). opens_function (behind t)) e) n) k)))))

  literal_sound : (p : Span) (ts : Tokens) → opens_function ts ≡ true → Says (λ y. IsHead (sign s.OpenParen p ∷ ts) y.0 y.1) (c.literal inner (sign s.OpenParen p ∷ ts))
  unfolding c.literal
  literal_sound p ts o = bind (sound.parameters (sign s.OpenParen p ∷ ts)) (λ ps d. bind (literal_body_sound inner sound ps.1) (λ b k. done (g.literal o d k)))

  list_sound : (ts : Tokens) (p : Span) (mid : Tokens) → MayHaveTypeArguments ts (sign s.OpenBracket p ∷ mid) → Says (λ y. IsHead ts y.0 y.1) (c.list inner (start ts) mid)
  unfolding c.list
  list_sound ts p mid m = choice (next_sign s.CloseBracket mid)
      (λ y. take_sign s.CloseBracket mid (λ t. MayHaveTypeArguments ts (sign s.OpenBracket p ∷ t)) m (λ q k. done (g.no_items k)))
      (λ n. bind (exprs_sound inner sound s.CloseBracket mid) (λ xs d. bind (last_comma_sound s.CloseBracket xs.1) (λ j k. done (g.list m d k))))

  map_sound : (ts : Tokens) (p : Span) (mid : Tokens) → MayHaveTypeArguments ts (sign s.OpenBrace p ∷ mid) → Says (λ y. IsHead ts y.0 y.1) (c.map inner (start ts) mid)
  unfolding c.map
  map_sound ts p mid m = choice (next_sign s.CloseBrace mid)
      (λ y. take_sign s.CloseBrace mid (λ t. MayHaveTypeArguments ts (sign s.OpenBrace p ∷ t)) m (λ q k. done (g.no_entries k)))
      (λ n. bind (entries_sound inner sound mid) (λ xs d. bind (last_comma_sound s.CloseBrace xs.1) (λ j k. done (g.map m d k))))

  collection_sound : (ts : Tokens) → Says (λ y. IsHead ts y.0 y.1) (c.collection inner ts)
  unfolding c.collection
  collection_sound ts = bind (past_type_arguments_sound ts) (λ mid m. choice (next_sign s.OpenBracket mid)
      (λ y. let a = sign_ahead s.OpenBracket mid y in list_sound ts a.0 (behind mid) (subst (MayHaveTypeArguments ts) (sym a.1) m))
      (λ n. take_sign s.OpenBrace mid (MayHaveTypeArguments ts) m (λ p k. map_sound ts p.0 p.1 k)))

  text_head_sound : (p : Span) (ts : Tokens) → Says (λ y. IsHead (token f.TextOpen p ∷ ts) y.0 y.1) (c.text_head inner (token f.TextOpen p ∷ ts))
  unfolding c.text_head
  text_head_sound p ts = bind (texts_sound inner sound (token f.TextOpen p ∷ ts) refl) (λ x d. done (g.texts d))

  word_head_sound : (x : Word) (p : Span) (ts : Tokens) → Says (λ y. IsHead (word x p ∷ ts) y.0 y.1) (c.word_head inner x p ts)
  word_head_sound w.This p ts = done g.this
  word_head_sound w.Super p ts = choice (next_sign s.OpenParen ts) (λ y. none) (λ n. done (g.super n))
  word_head_sound w.Null p ts = done g.null
  word_head_sound w.True p ts = done g.true'
  word_head_sound w.False p ts = done g.false'
  word_head_sound w.New p ts = new_sound p ts
  word_head_sound _ p ts = none

  sign_head_sound : (x : Sign) (p : Span) (ts : Tokens) → Says (λ y. IsHead (sign x p ∷ ts) y.0 y.1) (c.sign_head inner x (sign x p ∷ ts) ts)
  sign_head_sound s.OpenParen p ts = choice (opens_function ts) (literal_sound p ts) (parenthesised_sound p ts)
  sign_head_sound s.OpenBracket p ts = collection_sound (sign s.OpenBracket p ∷ ts)
  sign_head_sound s.OpenBrace p ts = collection_sound (sign s.OpenBrace p ∷ ts)
  sign_head_sound s.Less p ts = collection_sound (sign s.Less p ∷ ts)
  sign_head_sound _ p ts = none

  head_by_sound : (form : Form) (p : Span) (ts : Tokens) → Says (λ y. IsHead (token form p ∷ ts) y.0 y.1) (c.head_by inner form p (token form p ∷ ts) ts)
  head_by_sound (f.Name x) p ts = done g.named
  head_by_sound (f.Word x) p ts = word_head_sound x p ts
  head_by_sound (f.Number n) p ts = done g.number
  head_by_sound (f.Sign x) p ts = sign_head_sound x p ts
  head_by_sound f.TextOpen p ts = text_head_sound p ts
  head_by_sound _ p ts = none

  head_sound : (ts : Tokens) → Says (λ y. IsHead ts y.0 y.1) (c.head inner ts)
  unfolding c.head
  head_sound [] = none
  head_sound (t ∷ ts) = head_by_sound t.form (span t.from t.to) ts

  -- ---- selectors

  member_sound : (ts : Tokens) → Says (λ y. IsSelector ts y.0 y.1) (c.member inner ts)
  unfolding c.member
  member_sound ts = take_sign s.Dot ts (λ t. t ≡ ts) refl (λ p e. take_name p.1 (λ t. sign s.Dot p.0 ∷ t ≡ ts) e (λ x o. choice (next_sign s.OpenParen x.1)
      (λ y. bind (arguments_sound inner sound x.1) (λ a k. done (subst (λ (t : Tokens). IsSelector t (l.Invoke (span p.0.from a.0.span.to) x.0 a.0) a.1) o (an_invoke k))))
      (λ n. done (subst (λ (t : Tokens). IsSelector t (l.Member (span p.0.from x.0.span.to) x.0) x.1) o (a_member n)))))

  index_sound : (ts : Tokens) → Says (λ y. IsSelector ts y.0 y.1) (c.index inner ts)
  unfolding c.index
  index_sound ts = take_sign s.OpenBracket ts (λ t. t ≡ ts) refl (λ p e. bind (sound.expr p.1) (λ a d. take_sign s.CloseBracket a.1 (λ t. IsExpr p.1 a.0 t) d.0
      (λ q k. done (subst (λ (t : Tokens). IsSelector t (l.Index (span p.0.from q.0.to) a.0) q.1) e (an_index k)))))

  selector_sound : (ts : Tokens) → Says (λ y. IsSelector ts y.0 y.1) (c.selector inner ts)
  unfolding c.selector
  selector_sound ts = choice (next_sign s.Dot ts) (λ y. member_sound ts)
      (λ n. choice (next_sign s.OpenBracket ts) (λ y. index_sound ts) (λ m. bind (arguments_sound inner sound ts) (λ a k. done (a_call k))))

  selectors_from_sound : (n : ℕ) (found : List Selector) (ts : Tokens) → Says (λ y. More (λ xs. AreSelectors ts xs y.1) found y.0) (c.selectors_from inner n found ts)
  unfolding c.selectors_from
  selectors_from_sound zero found ts = done (no_item g.no_selectors)
  selectors_from_sound (suc n) found ts = choice (c.begins_selector ts)
      (λ y. bind (selector_sound ts) (λ x d. weaken (λ z m. more_items x.0 (λ xs k. selects d k) m) (selectors_from_sound n (found ++ x.0 ∷ []) x.1)))
      (λ n. done (no_item g.no_selectors))

  pub chain_sound : (ts : Tokens) → Says (λ y. IsChain ts y.0 y.1) (c.chain inner ts)
  unfolding c.chain
  chain_sound ts = bind (head_sound ts) (λ a d. bind (selectors_from_sound (length a.1) [] a.1)
      (λ xs m. done (record { head = a.0; selectors = xs.0; mid = a.1; is = refl; begins = d; goes = all_items m })))

  pub target_sound : (ts : Tokens) → Says (λ y. IsTarget ts y.0 y.1) (c.target inner ts)
  unfolding c.target
  target_sound ts = bind (chain_sound ts) (λ x d. bind (itself (target_of x.0)) (λ a e. done (target_of_sound d e)))
