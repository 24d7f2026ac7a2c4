-- What is parsed as a type is one.
use Rattle.std.proofs.Common.{◌≡◌, ℕ, zero, suc, ◌-◌, Bool, true, false, List, [], ◌∷◌, length, refl, sym, ap, ◌∙◌, subst, arith}
use Rattle.std.proofs.lemmas.Bool.{eqb-true}
use Rattle.std.specs.Prelude.{◌==◌, ◌||◌}
use Rattle.dart_syntax.specs.declared.words.Word.TheVariants as w
use Rattle.dart_syntax.specs.declared.words.Sign.TheVariants as s
use Rattle.dart_grammar.specs.declared.trees.Span.{Span}
use Rattle.dart_grammar.specs.declared.trees.Name.{Name}
use Rattle.dart_grammar.specs.Marks.{Tokens, sign, ident, next_word, next_sign, behind}
use Rattle.dart_grammar.specs.Shapes.{begins_type}
use Rattle.dart_grammar.specs.Grammar as g
use Rattle.dart_grammar.specs.Grammar.{IsDotted, IsType, AreTypeArguments, AreTypes, MayHaveTypeArguments, MayHaveResult, IsLead, AreNewNames}
use Rattle.expr_parser.specs.Types as p
use Rattle.expr_parser.proofs.Tools.{Says, none, done, bind, weaken, choice, sign_ahead, word_ahead, take_sign, take_name}

pub dotted_sound : (ts : Tokens) → Says (λ x. IsDotted ts x.0.0 x.0.1 x.1) (p.dotted ts)
unfolding p.dotted
dotted_sound ts = take_name ts (λ t. t ≡ ts) refl (λ x e. choice (next_sign s.Dot x.1)
    (λ y. let d = sign_ahead s.Dot x.1 y in
    take_name (behind x.1) (λ t. ident x.0.text x.0.span ∷ sign s.Dot d.0 ∷ t ≡ ts) (ap (λ (t : Tokens). ident x.0.text x.0.span ∷ t) d.1 ∙ e)
    (λ z q. done (subst (λ (t : Tokens). IsDotted t (x.0 ∷ z.0 ∷ []) z.0.span.to z.1) q g.two)))
    (λ n. done (subst (λ (t : Tokens). IsDotted t (x.0 ∷ []) x.0.span.to x.1) e (g.one n))))

-- types behind a type, up to a `>`
data Goes : Tokens → Tokens → Type 0 where
  no_more : {ts : Tokens} → Goes ts ts
  comma_more : {p : Span} {ts rest : Tokens} → AreTypes ts rest → Goes (sign s.Comma p ∷ ts) rest

-- At a type, or behind one: so many more are closed behind the `>` that closes the innermost.
mutual
  data Closes : ℕ → Bool → Tokens → ℕ → Tokens → Type 0 where
    from_type : {n j : ℕ} {q : Span} {ts mid rest : Tokens} → AreTypes ts (sign s.Greater q ∷ mid) → Behind n q.to mid j rest → Closes n false ts j rest
    behind_type : {n j : ℕ} {q : Span} {ts mid rest : Tokens} → Goes ts (sign s.Greater q ∷ mid) → Behind n q.to mid j rest → Closes n true ts j rest

  data Behind : ℕ → ℕ → Tokens → ℕ → Tokens → Type 0 where
    outermost : {j : ℕ} {ts : Tokens} → Behind 0 j ts j ts
    further : {n i j : ℕ} {ts rest : Tokens} → Closes n true ts j rest → Behind (suc n) i ts j rest

goes_types : {xs : List Name} {i : ℕ} {ts mid rest : Tokens} → IsType ts xs i mid → Goes mid rest → AreTypes ts rest
goes_types d no_more = g.last_type d
goes_types d (comma_more t) = g.more_types d t

with_type : {xs : List Name} {i n j : ℕ} {ts mid rest : Tokens} → IsType ts xs i mid → Closes n true mid j rest → Closes n false ts j rest
with_type {n = n} {j = j} {ts = ts} {mid = mid} {rest = rest} d c = go true c refl
  where
    go : (b : Bool) → Closes n b mid j rest → b ≡ true → Closes n false ts j rest
    go true (behind_type h k) e = from_type (goes_types d h) k
    go false c e = absurd cc

-- the `<` was read behind these names, and what it opens is closed
with_arguments : {xs : List Name} {i n j : ℕ} {p : Span} {ts mid rest : Tokens} → IsDotted ts xs i (sign s.Less p ∷ mid) → Closes (suc n) false mid j rest → Closes n false ts j rest
with_arguments {xs = xs} {i = i} {n = n} {j = j} {p = p} {ts = ts} {mid = mid} {rest = rest} d c = go false (suc n) c refl refl
  where
    back : {q : Span} {after : Tokens} → AreTypes mid (sign s.Greater q ∷ after) → (k at : ℕ) → Behind k at after j rest → k ≡ suc n → Closes n false ts j rest
    back t k at outermost e = absurd (omega (arith, e))
    back {after = after} t (suc k) at (further r) e = let same : k ≡ n = omega (arith, e) in with_type (g.generic d (g.type_arguments t)) (subst (λ (m : ℕ). Closes m true after j rest) same r)

    go : (b : Bool) (k : ℕ) → Closes k b mid j rest → b ≡ false → k ≡ suc n → Closes n false ts j rest
    go false k (from_type {q = q} h r) e l = back h k q.to r l
    go true k c e l = absurd cc

after_comma : {n j : ℕ} {p : Span} {ts rest : Tokens} → Closes n false ts j rest → Closes n true (sign s.Comma p ∷ ts) j rest
after_comma {n = n} {j = j} {p = p} {ts = ts} {rest = rest} c = go false c refl
  where
    go : (b : Bool) → Closes n b ts j rest → b ≡ false → Closes n true (sign s.Comma p ∷ ts) j rest
    go false (from_type h k) e = behind_type (comma_more h) k
    go true c e = absurd cc

one_more : (n : ℕ) {j : ℕ} {q : Span} {ts rest : Tokens} → (n == 0) ≡ false → Closes (n - 1) true ts j rest → Closes n true (sign s.Greater q ∷ ts) j rest
one_more zero o c = absurd cc
one_more (suc n) {j = j} {ts = ts} {rest = rest} o c = let less : suc n - 1 ≡ n = omega arith in behind_type no_more (further (subst (λ (m : ℕ). Closes m true ts j rest) less c))

angles_sound : (k n : ℕ) (b : Bool) (ts : Tokens) → Says (λ x. Closes n b ts x.0 x.1) (p.angles_from k n b ts)
unfolding p.angles_from
angles_sound zero n b ts = none
angles_sound (suc k) n false ts = bind (dotted_sound ts) (λ x d. choice (next_sign s.Less x.1)
    (λ y. let a = sign_ahead s.Less x.1 y in
    weaken (λ z. with_arguments (subst (λ (t : Tokens). IsDotted ts x.0.0 x.0.1 t) (sym a.1) d)) (angles_sound k (suc n) false (behind x.1)))
    (λ y. weaken (λ z. with_type (g.plain_type d y)) (angles_sound k n true x.1)))
angles_sound (suc k) n true ts = choice (next_sign s.Comma ts)
    (λ y. let a = sign_ahead s.Comma ts y in
    weaken (λ z c. subst (λ (t : Tokens). Closes n true t z.0 z.1) a.1 (after_comma c)) (angles_sound k n false (behind ts)))
    (λ y. take_sign s.Greater ts (λ t. t ≡ ts) refl (λ q e. choice (n == 0)
    (λ o. done (subst (λ (t : Tokens). Closes n true t q.0.to q.1) e (subst (λ (m : ℕ). Closes m true (sign s.Greater q.0 ∷ q.1) q.0.to q.1) (sym (eqb-true n 0 o)) (behind_type no_more outermost))))
    (λ o. weaken (λ z c. subst (λ (t : Tokens). Closes n true t z.0 z.1) e (one_more n o c)) (angles_sound k (n - 1) true q.1))))

type_arguments_sound : (ts : Tokens) → Says (λ x. AreTypeArguments ts x.0 x.1) (p.type_arguments ts)
unfolding p.type_arguments
type_arguments_sound ts = take_sign s.Less ts (λ t. t ≡ ts) refl
    (λ p e. weaken (λ z c. subst (λ (t : Tokens). AreTypeArguments t z.0 z.1) e (all c)) (angles_sound (length p.1) 0 false p.1))
  where
    all : {p : Span} {ts rest : Tokens} {j : ℕ} → Closes 0 false ts j rest → AreTypeArguments (sign s.Less p ∷ ts) j rest
    all {p = p} {ts = ts} {rest = rest} {j = j} c = go 0 false c refl refl
      where
        back : {q : Span} {after : Tokens} → AreTypes ts (sign s.Greater q ∷ after) → (n at : ℕ) → Behind n at after j rest → n ≡ 0 → at ≡ q.to → AreTypeArguments (sign s.Less p ∷ ts) j rest
        back t n at outermost e l = subst (λ (k : ℕ). AreTypeArguments (sign s.Less p ∷ ts) k rest) (sym l) (g.type_arguments t)
        back t (suc n) at (further r) e l = absurd (omega (arith, e))

        go : (n : ℕ) (b : Bool) → Closes n b ts j rest → b ≡ false → n ≡ 0 → AreTypeArguments (sign s.Less p ∷ ts) j rest
        go n false (from_type {q = q} h r) e l = back h n q.to r l refl
        go n true c e l = absurd cc

pub type_sound : (ts : Tokens) → Says (λ x. IsType ts x.0.0 x.0.1 x.1) (p.type_at ts)
unfolding p.type_at
type_sound ts = bind (dotted_sound ts) (λ x d. choice (next_sign s.Less x.1)
    (λ y. bind (type_arguments_sound x.1) (λ j a. done (g.generic d a)))
    (λ n. done (g.plain_type d n)))

pub past_type_arguments_sound : (ts : Tokens) → Says (MayHaveTypeArguments ts) (p.past_type_arguments ts)
unfolding p.past_type_arguments
past_type_arguments_sound ts = choice (next_sign s.Less ts) (λ y. bind (type_arguments_sound ts) (λ j a. done (g.has_some a))) (λ n. done (g.has_none n))

pub past_result_sound : (ts : Tokens) → Says (MayHaveResult ts) (p.past_result ts)
unfolding p.past_result
past_result_sound ts = choice (next_word w.Void ts)
    (λ y. let a = word_ahead w.Void ts y in done (subst (λ (t : Tokens). MayHaveResult t (behind ts)) a.1 g.void_result))
    (λ n. choice (begins_type ts) (λ y. bind (type_sound ts) (λ x d. done (g.type_result n y d))) (λ y. done (g.no_result y)))

past_annotation_sound : (ts : Tokens) → Says (λ rest. (next_word w.Void ts ≡ false) × MayHaveResult ts rest) (p.past_annotation ts)
unfolding p.past_annotation
past_annotation_sound ts = choice (next_word w.Void ts) (λ y. none) (λ n. weaken (λ rest d. (n, d)) (past_result_sound ts))

pub lead_sound : (ts : Tokens) → Says (λ x. IsLead ts x.0 x.1) (p.lead ts)
unfolding p.lead
lead_sound ts = choice (next_word w.Var ts)
    (λ y. let a = word_ahead w.Var ts y in done (subst (λ (t : Tokens). IsLead t false (behind ts)) a.1 g.var_lead))
    (λ n. choice (next_word w.Final ts || next_word w.Const ts)
    (λ y. bind (past_annotation_sound (behind ts)) (λ rest d. done (constant (next_word w.Final ts) refl y d.0 d.1)))
    (λ o. bind (type_sound ts) (λ x d. done (g.type_lead d))))
  where
    constant : {rest : Tokens} (b : Bool) → next_word w.Final ts ≡ b → (next_word w.Final ts || next_word w.Const ts) ≡ true → next_word w.Void (behind ts) ≡ false
        → MayHaveResult (behind ts) rest → IsLead ts true rest
    constant {rest = rest} true e y v d = let a = word_ahead w.Final ts e in subst (λ (t : Tokens). IsLead t true rest) a.1 (g.final_lead v d)
    constant {rest = rest} false e y v d =
        let other : next_word w.Const ts ≡ true = rw e at y in
        let a = word_ahead w.Const ts other in
        subst (λ (t : Tokens). IsLead t true rest) a.1 (g.const_lead v d)

pub new_names_sound : (ts : Tokens) → Says (λ x. AreNewNames ts x.0 x.1) (p.new_names ts)
unfolding p.new_names
new_names_sound ts = bind (type_sound ts) (λ x d. choice (next_sign s.Dot x.1)
    (λ y. let a = sign_ahead s.Dot x.1 y in
    take_name (behind x.1) (λ t. IsType ts x.0.0 x.0.1 (sign s.Dot a.0 ∷ t)) (subst (λ (t : Tokens). IsType ts x.0.0 x.0.1 t) (sym a.1) d)
    (λ z q. done (g.constructor_name q)))
    (λ n. done (g.class_name d n)))
