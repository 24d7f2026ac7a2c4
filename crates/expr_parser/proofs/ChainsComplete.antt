-- Heads, selectors and targets are parsed.
use Rattle.std.proofs.Common.{◌≡◌, ℕ, zero, suc, ◌<◌, ◌≤◌, Bool, true, false, List, [], ◌∷◌, ◌++◌, length, Some, refl, sym, ap, ◌∙◌, arith, append_assoc}
use Rattle.std.proofs.lemmas.List.{append-nil}
use Rattle.std.specs.Prelude.{◌||◌, ◌&&◌}
use Rattle.dart_syntax.specs.declared.words.Sign.{Sign}
use Rattle.dart_syntax.specs.declared.words.Sign.TheVariants as s
use Rattle.dart_syntax.specs.declared.tokens.Form.{Form}
use Rattle.dart_syntax.specs.declared.tokens.Form.TheVariants as f
use Rattle.dart_grammar.specs.declared.trees.Span.{Span}
use Rattle.dart_grammar.specs.declared.trees.Name.{Name}
use Rattle.dart_grammar.specs.declared.trees.Body.TheOpen.{Expr-F, Head-F}
use Rattle.dart_grammar.specs.declared.trees.Expr.{out-roll-Expr}
use Rattle.dart_grammar.specs.declared.trees.Expr.TheVariants as e
use Rattle.dart_grammar.specs.declared.trees.Head.{Head, out-Head, out-roll-Head}
use Rattle.dart_grammar.specs.declared.trees.Head.TheVariants as h
use Rattle.dart_grammar.specs.declared.trees.Selector.{Selector}
use Rattle.dart_grammar.specs.declared.trees.Selector.TheVariants as l
use Rattle.dart_grammar.specs.declared.trees.Target.{Target}
use Rattle.dart_grammar.specs.declared.trees.Chain.{Chain}
use Rattle.dart_grammar.specs.declared.trees.Arguments.{Arguments}
use Rattle.dart_grammar.specs.Marks.{Tokens, token, sign, is_text_open, is_sign, same_sign, next, next_sign, looseness, form_looseness, sign_looseness}
use Rattle.dart_grammar.specs.Trees.{span, name_of, chain_of, is_super, is_super_at, is_super_head, has_none}
use Rattle.dart_grammar.specs.Grammar as g
use Rattle.dart_grammar.specs.Grammar.{MayHaveTypeArguments, IsHead, AreSelectors, AreArguments, IsTarget}
use Rattle.expr_parser.specs.Cursor.{sign_at, name_at}
use Rattle.expr_parser.specs.Inner.{Inner}
use Rattle.expr_parser.specs.Chains as c
use Rattle.expr_parser.specs.Chains.{target_of, begins_selector}
use Rattle.expr_parser.proofs.Tools.{is_sign-true}
use Rattle.expr_parser.proofs.Shrinks.{expr_shrinks, are_arguments_shrink, parameters_shrinks, are_new_names_shrink, may_have_type_arguments_shrinks, head_shrinks}
use Rattle.expr_parser.proofs.TypesComplete.{past_type_arguments_complete, new_names_complete}
use Rattle.expr_parser.proofs.Firsts.{exprs_no_sign, entries_no_sign}
use Rattle.expr_parser.proofs.PartsComplete.{Complete, bracket_comma_complete, brace_comma_complete, exprs_complete, entries_complete, arguments_complete, literal_body_complete, texts_complete, texts_open, arguments_open}
use Rattle.expr_parser.proofs.Targets.{target_last}
use Rattle.expr_parser.proofs.Opened.{bare_named, selected_member, selected_index}
use Rattle.expr_parser.proofs.ChainsSound.{a_member, an_index, one_more}

-- ---- a token that joins more loosely is no selector

looser_sign : (x : Sign) → sign_looseness x ≡ 1 → (ts : Tokens) → 1 < looseness ts → next_sign x ts ≡ false
looser_sign x e [] h = refl
looser_sign x e (t ∷ ts) h = go (is_sign x t.form) refl
  where
    go : (b : Bool) → is_sign x t.form ≡ b → b ≡ false
    go false k = refl
    go true k = absurd (let same : sign_looseness x ≡ form_looseness t.form = ap form_looseness (is_sign-true x t.form k) in omega (arith, h, same, e))

pub no_selector : (ts : Tokens) → 1 < looseness ts → begins_selector ts ≡ false
no_selector ts h = rw (looser_sign s.Dot refl ts h, looser_sign s.OpenBracket refl ts h, looser_sign s.OpenParen refl ts h) refl

no_paren : (a b o : Bool) → ((a || b) || o) ≡ false → o ≡ false
no_paren true b o h = absurd cc
no_paren false true o h = absurd cc
no_paren false false o h = h

-- ---- a target is not `super` alone

super_chain : (c : Chain) → is_super (e.Chained c) ≡ (is_super_head (out-Head c.head) && has_none c.selectors)
unfolding is_super
super_chain c = ap is_super (sym (e.rolls-Chained c)) ∙ ap is_super_at (out-roll-Expr (Expr-F.Chained c))

and_false : (b : Bool) → (b && false) ≡ false
and_false true = refl
and_false false = refl

some_left : (xs : List Selector) (x : Selector) → has_none (xs ++ x ∷ []) ≡ false
some_left [] x = refl
some_left (y ∷ ys) x = refl

named_no_super : (x : Name) → is_super_head (out-Head (h.Named x)) ≡ false
named_no_super x = ap (λ (y : Head). is_super_head (out-Head y)) (sym (h.rolls-Named x)) ∙ ap is_super_head (out-roll-Head (Head-F.Named x))

pub bare_no_super : (x : Name) → is_super (e.Chained (chain_of (h.Named x) [])) ≡ false
bare_no_super x = super_chain (chain_of (h.Named x) []) ∙ ap (λ (b : Bool). b && true) (named_no_super x)

last_no_super : (a : Head) (xs : List Selector) (x : Selector) → is_super (e.Chained (chain_of a (xs ++ x ∷ []))) ≡ false
last_no_super a xs x = super_chain (chain_of a (xs ++ x ∷ [])) ∙ ap (λ (b : Bool). is_super_head (out-Head a) && b) (some_left xs x) ∙ and_false (is_super_head (out-Head a))

arguments_only : {ts rest : Tokens} {a : Arguments} → AreArguments ts a rest → (next_sign s.Dot ts ≡ false) × (next_sign s.OpenBracket ts ≡ false)
unfolding same_sign
arguments_only g.no_arguments = (refl, refl)
arguments_only (g.arguments d) = (refl, refl)

module _ (inner : Inner) (n : ℕ) (complete : Complete n inner) where
  text_is : (ts : Tokens) → next is_text_open ts ≡ true → c.head inner ts ≡ c.text_head inner ts
  unfolding c.head
  text_is [] h = absurd cc
  text_is (t ∷ ts) h = go t.form h
    where
      go : (form : Form) → is_text_open form ≡ true → c.head_by inner form (span t.from t.to) (token form (span t.from t.to) ∷ ts) ts ≡ c.text_head inner (token form (span t.from t.to) ∷ ts)
      go f.TextOpen e = refl
      go _ e = absurd cc

  list_is : {ts mid : Tokens} {p : Span} → MayHaveTypeArguments ts (sign s.OpenBracket p ∷ mid) → c.head inner ts ≡ c.collection inner ts
  unfolding c.head
  list_is (g.has_none m) = refl
  list_is (g.has_some (g.type_arguments t)) = refl

  map_is : {ts mid : Tokens} {p : Span} → MayHaveTypeArguments ts (sign s.OpenBrace p ∷ mid) → c.head inner ts ≡ c.collection inner ts
  unfolding c.head
  map_is (g.has_none m) = refl
  map_is (g.has_some (g.type_arguments t)) = refl

  head_complete : {ts rest : Tokens} {a : Head} → IsHead ts a rest → length ts ≤ suc n → c.head inner ts ≡ Some (a, rest)
  unfolding c.head c.text_head c.new c.parenthesised c.literal c.collection c.list c.map sign_at same_sign
  head_complete g.named i = refl
  head_complete g.this i = refl
  head_complete (g.super m) i = rw m refl
  head_complete g.null i = refl
  head_complete g.true' i = refl
  head_complete g.false' i = refl
  head_complete g.number i = refl
  head_complete (g.texts {ts = ts} d) i = text_is ts (texts_open inner n complete d) ∙ rw (texts_complete inner n complete d i) refl
  head_complete (g.new m k) i = rw (new_names_complete m, arguments_complete inner n complete k (omega (arith, i, are_new_names_shrink m))) refl
  head_complete (g.parenthesised o d) i = rw (o, complete.expr d (omega (arith, i)) refl) refl
  head_complete (g.literal o k d) i = rw (o, complete.parameters k i, literal_body_complete inner n complete d (omega (arith, i, parameters_shrinks k))) refl
  head_complete (g.no_items m) i = list_is m ∙ rw (past_type_arguments_complete m) refl
  head_complete (g.list m d k) i =
      let e = bracket_comma_complete k in
      list_is m ∙ rw (past_type_arguments_complete m, exprs_no_sign s.CloseBracket refl d, exprs_complete inner n complete s.CloseBracket refl d (omega (arith, i, may_have_type_arguments_shrinks m)) e.1 e.2, e.0) refl
  head_complete (g.no_entries m) i = map_is m ∙ rw (past_type_arguments_complete m) refl
  head_complete (g.map m d k) i =
      let e = brace_comma_complete k in
      map_is m ∙ rw (past_type_arguments_complete m, entries_no_sign s.CloseBrace refl d, entries_complete inner n complete d (omega (arith, i, may_have_type_arguments_shrinks m)) e.1 e.2, e.0) refl

  selectors_from_complete : {ts rest : Tokens} {xs : List Selector} → AreSelectors ts xs rest → (k : ℕ) (found : List Selector) → length ts ≤ k → length ts ≤ suc n → begins_selector rest ≡ false
      → c.selectors_from inner k found ts ≡ Some (found ++ xs, rest)
  unfolding c.selectors_from c.selector c.member c.index sign_at name_at same_sign
  selectors_from_complete g.no_selectors zero found i j o = rw (append-nil found) refl
  selectors_from_complete g.no_selectors (suc k) found i j o = rw (o, append-nil found) refl
  selectors_from_complete (g.member m d) zero found i j o = absurd (omega (arith, i))
  selectors_from_complete (g.member {x = x} {xs = xs} {p = p} {q = q} m d) (suc k) found i j o =
      rw (m, selectors_from_complete d k (found ++ l.Member (span p.from q.to) (name_of x q) ∷ []) (omega (arith, i)) (omega (arith, j)) o, append_assoc found (l.Member (span p.from q.to) (name_of x q) ∷ []) xs) refl
  selectors_from_complete (g.invoke a d) zero found i j o = absurd (omega (arith, i))
  selectors_from_complete (g.invoke {x = x} {a = z} {xs = xs} {p = p} {q = q} a d) (suc k) found i j o =
      rw (
        arguments_open inner n complete a,
        arguments_complete inner n complete a (omega (arith, j)),
        selectors_from_complete d k (found ++ l.Invoke (span p.from z.span.to) (name_of x q) z ∷ []) (omega (arith, i, are_arguments_shrink a)) (omega (arith, j, are_arguments_shrink a)) o,
        append_assoc found (l.Invoke (span p.from z.span.to) (name_of x q) z ∷ []) xs,
      ) refl
  selectors_from_complete (g.index a d) zero found i j o = absurd (omega (arith, i))
  selectors_from_complete (g.index {a = z} {xs = xs} {p = p} {q = q} a d) (suc k) found i j o =
      rw (
        complete.expr a (omega (arith, j)) refl,
        selectors_from_complete d k (found ++ l.Index (span p.from q.to) z ∷ []) (omega (arith, i, expr_shrinks a)) (omega (arith, j, expr_shrinks a)) o,
        append_assoc found (l.Index (span p.from q.to) z ∷ []) xs,
      ) refl
  selectors_from_complete (g.call a d) zero found i j o = absurd (omega (arith, i, are_arguments_shrink a))
  selectors_from_complete (g.call {a = z} {xs = xs} a d) (suc k) found i j o =
      let u = arguments_only a in
      rw (
        u.0,
        u.1,
        arguments_open inner n complete a,
        arguments_complete inner n complete a j,
        selectors_from_complete d k (found ++ l.Call z ∷ []) (omega (arith, i, are_arguments_shrink a)) (omega (arith, j, are_arguments_shrink a)) o,
        append_assoc found (l.Call z ∷ []) xs,
      ) refl

  pub chain_complete : {ts mid rest : Tokens} {a : Head} {xs : List Selector} → IsHead ts a mid → AreSelectors mid xs rest → length ts ≤ suc n → begins_selector rest ≡ false → c.chain inner ts ≡ Some (chain_of a xs, rest)
  unfolding c.chain
  chain_complete {mid = mid} d k i o = rw (head_complete d i, selectors_from_complete k (length mid) [] (omega arith) (omega (arith, i, head_shrinks d)) o) refl

  -- a target is the chain that is read
  pub record Read (ts : Tokens) (x : Target) (rest : Tokens) : Type 0 where
    pub chain : Chain
    pub found : c.chain inner ts ≡ Some (chain, rest)
    pub is : target_of chain ≡ Some x
    pub alone : is_super (e.Chained chain) ≡ false

  pub target_read : {ts rest : Tokens} {x : Target} → IsTarget ts x rest → length ts ≤ suc n → begins_selector rest ≡ false → Read ts x rest
  unfolding target_of same_sign
  target_read (g.bare {x = x} {p = p}) i o = record { chain = chain_of (h.Named (name_of x p)) []; found = chain_complete g.named g.no_selectors i o; is = bare_named (name_of x p); alone = bare_no_super (name_of x p) }
  target_read {rest = rest} (g.member_of {a = a} {xs = xs} {y = y} {p = p} {q = q} d k) i o =
      let m = no_paren (next_sign s.Dot rest) (next_sign s.OpenBracket rest) (next_sign s.OpenParen rest) o in
      let x = l.Member (span p.from q.to) (name_of y q) in
      record { chain = chain_of a (xs ++ x ∷ []); found = chain_complete d (one_more k (a_member m)) i o; is = target_last a [] xs x ∙ selected_member a xs (span p.from q.to) (name_of y q); alone = last_no_super a xs x }
  target_read (g.index_of {a = a} {xs = xs} {d = z} {p = p} {q = q} d k v) i o =
      let x = l.Index (span p.from q.to) z in
      record { chain = chain_of a (xs ++ x ∷ []); found = chain_complete d (one_more k (an_index v)) i o; is = target_last a [] xs x ∙ selected_index a xs (span p.from q.to) z; alone = last_no_super a xs x }
