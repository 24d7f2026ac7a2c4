-- What callers take from sets of supertypes, and from orders.
use Rattle.std.proofs.Common.{zero, suc, ◌+◌, ◌≤◌, List, [], ◌∷◌, get_or, ap, ◌∙◌, arith, ◌≡◌, ℕ, ◌<◌, true, false, length, inl, inr, refl, sym, subst}
use Rattle.std.specs.Prelude.{◌⊎◌}
use Rattle.std.specs.List.{Contains}
use Rattle.std.proofs.lemmas.Bool.Decides.{eqb_tells}
use Rattle.std.proofs.lemmas.List.{get_or_default}
use Rattle.std.proofs.lemmas.Bool.{cases_lt, cases_Bool, MatchBool-at_true, MatchBool-at_false}
use Rattle.class_heads.specs.Supertypes.{Classes, IsAbove, next, further}
use Rattle.class_heads.specs.Origins.{IsSub}
use Rattle.supertypes.specs.declared.supertypes.Supertypes.{Supertypes}
use Rattle.supertypes.specs.Sets.{has, AreSupertypes}
use Rattle.supertypes.specs.Upward.{IsUpward}

above_on : (cs : Classes) {c d e : ℕ} → IsAbove cs c d → IsAbove cs d e → IsAbove cs c e
above_on cs (next h) k = further h k
above_on cs (further h r) k = further h (above_on cs r k)

-- what is a subtype of a subtype is one
pub sub_on : (cs : Classes) (c d e : ℕ) → IsSub cs c d → IsSub cs d e → IsSub cs c e
sub_on cs c d e (inl same) k = subst (λ x. IsSub cs x e) (sym same) k
sub_on cs c d e (inr h) (inl same) = inr (subst (IsAbove cs c) same h)
sub_on cs c d e (inr h) (inr k) = inr (above_on cs h k)

module _ (cs : Classes) (t : Supertypes) (are : AreSupertypes cs t) (c d : ℕ) (small : c < length cs) (within : d < length cs) where
  pub sub_from_has : has t c d ≡ true → IsSub cs c d
  sub_from_has e = MatchBool-at_true (IsSub cs c d) (IsSub cs c d → ⊥) e (are.each c d small within)

  pub has_from_sub : IsSub cs c d → has t c d ≡ true
  has_from_sub sub = by (cases_Bool (has t c d)) where
    by : (has t c d ≡ true) ⊎ (has t c d ≡ false) → has t c d ≡ true
    by (inl e) = e
    by (inr e) = absurd (MatchBool-at_false (IsSub cs c d) (IsSub cs c d → ⊥) e (are.each c d small within) sub)

-- ---- in an order each class stands once

without : ℕ → List ℕ → List ℕ
without k [] = []
without zero (x ∷ xs) = xs
without (suc k) (x ∷ xs) = x ∷ without k xs

length_without : (k : ℕ) (xs : List ℕ) → k < length xs → length (without k xs) + 1 ≡ length xs
unfolding without
length_without k [] lt = absurd (omega (arith, lt))
length_without zero (x ∷ xs) lt = omega arith
length_without (suc k) (x ∷ xs) lt = omega (arith, length_without k xs (omega (arith, lt)))

stays : (k p c : ℕ) (xs : List ℕ) → (p ≡ k → ⊥) → p < length xs → get_or xs p c ≡ c → Contains (without k xs) c
unfolding without
stays k p c [] other lt e = absurd (omega (arith, lt))
stays zero zero c (x ∷ xs) other lt e = absurd (other refl)
stays zero (suc p) c (x ∷ xs) other lt e = (p, omega (arith, lt), e)
stays (suc k) zero c (x ∷ xs) other lt e = (0, omega arith, e)
stays (suc k) (suc p) c (x ∷ xs) other lt e = let there = stays k p c xs (λ same. other (ap suc same)) (omega (arith, lt)) e in (suc there.0, omega (arith, there.1), there.2)

room : (n : ℕ) (xs : List ℕ) → ((c : ℕ) → c < n → Contains xs c) → n ≤ length xs
room zero xs all = omega arith
room (suc n) xs all = by (all n (omega arith)) (room n) where
  by : Contains xs n → ((ys : List ℕ) → ((c : ℕ) → c < n → Contains ys c) → n ≤ length ys) → suc n ≤ length xs
  by (k, lt, e) fits = omega (arith, fits (without k xs) still, length_without k xs lt) where
    still : (c : ℕ) → c < n → Contains (without k xs) c
    still c below = elsewhere (all c (omega (arith, below))) where
      elsewhere : Contains xs c → Contains (without k xs) c
      elsewhere (p, within, read) = stays k p c xs (λ same. omega (arith, below, sym read ∙ ap (λ i. get_or xs i c) same ∙ get_or_default xs k c n lt ∙ e)) within read

once : (cs : Classes) (order : List ℕ) → IsUpward cs order → (i j : ℕ) → i < j → j < length order → get_or order i 0 ≡ get_or order j 0 → ⊥
once cs order up i j lt within same = omega (arith, room (length cs) (without j order) still, length_without j order within, up.long) where
  still : (c : ℕ) → c < length cs → Contains (without j order) c
  still c small = by (up.all c small) where
    by : Contains order c → Contains (without j order) c
    by (p, inside, e) =
        elim (eqb_tells p j) [
          | inl is ↦
              let first : get_or order i c ≡ c = get_or_default order i c 0 (omega (arith, lt, within)) ∙ same ∙ get_or_default order j 0 c within ∙ ap (λ k. get_or order k c) (sym is.1) ∙ e in
              stays j i c order (λ k. omega (arith, k, lt)) (omega (arith, lt, within)) first
          | inr other ↦ stays j p c order other.1 inside e
        ]

pub stands_once : (cs : Classes) (order : List ℕ) → IsUpward cs order → (i j : ℕ) → i < length order → j < length order → get_or order i 0 ≡ get_or order j 0 → i ≡ j
stands_once cs order up i j first second same =
    elim (cases_lt i j) [
      | inl lt ↦ absurd (once cs order up i j lt second same)
      | inr le ↦ elim (cases_lt j i) [ inl lt ↦ absurd (once cs order up j i lt first (sym same)) | inr ge ↦ omega (arith, le, ge) ]
    ]
