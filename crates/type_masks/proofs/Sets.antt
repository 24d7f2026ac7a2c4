-- Sets of numbers.
use Rattle.std.proofs.Common.{◌≡◌, ℕ, Bool, true, false, ◌&&◌, ◌||◌, List, [], ◌∷◌, ◌++◌, refl, sym, ap, ◌∙◌, subst, inl, inr, ⊎_elim, ◌⊎◌}
use Rattle.std.proofs.lemmas.Bool.{eq-eqb, eqb-true, true≢false}
use Rattle.std.specs.Prelude.{nat_eq, ◌<◌}
use Rattle.std.specs.List.{list_any, list_all}
use Rattle.std.specs.Ordering.{nat_cmp, eq_by_cmp}
use Rattle.std.specs.Cmp.{nat_cmp_total, unsigned_tied}
use Rattle.std.specs.FinSet as set

-- two tests that imply each other are one
pub same_bool : (a b : Bool) → (a ≡ true → b ≡ true) → (b ≡ true → a ≡ true) → a ≡ b
same_bool true b to from = sym (to refl)
same_bool false true to from = from refl
same_bool false false to from = refl

pub and_true : (a b : Bool) → (a && b) ≡ true → (a ≡ true) × (b ≡ true)
and_true true b h = (refl, h)
and_true false b h = absurd (true≢false (sym h))

pub or_true : (a b : Bool) → a ≡ true → (a || b) ≡ true
or_true true b h = refl
or_true false b h = absurd (true≢false (sym h))

pub or_right : (a b : Bool) → b ≡ true → (a || b) ≡ true
or_right true b h = refl
or_right false b h = h

-- a list of numbers lies in a set where its set does
pub all_in : (ks : List ℕ) (t : set.FinSet nat_cmp) → list_all (set.contains t) ks ≡ true → (q : ℕ) → list_any (λ y. nat_eq y q) ks ≡ true → set.contains t q ≡ true
all_in [] t all q one = absurd (true≢false (sym one))
all_in (k ∷ ks) t all q one =
    let both = and_true (set.contains t k) (list_all (set.contains t) ks) all in
    elim (nat_eq k q) as (λ b. nat_eq k q ≡ b → (b || list_any (λ y. nat_eq y q) ks) ≡ true → set.contains t q ≡ true) [
      | true ↦ λ is _. subst (λ x. set.contains t x ≡ true) (eqb-true k q is) both.0
      | false ↦ λ _ rest. all_in ks t both.1 q rest
    ] refl one

pub in_all : (ks : List ℕ) (t : set.FinSet nat_cmp) → ((q : ℕ) → list_any (λ y. nat_eq y q) ks ≡ true → set.contains t q ≡ true) → list_all (set.contains t) ks ≡ true
in_all [] t each = refl
in_all (k ∷ ks) t each =
    let here : set.contains t k ≡ true = each k (or_true (nat_eq k k) _ (eq-eqb k k refl)) in
    let rest = in_all ks t (λ q one. each q (or_right (nat_eq k q) _ one)) in
    rw here rest

pub all_is_subset : (ks : List ℕ) (t : set.FinSet nat_cmp) → list_all (set.contains t) ks ≡ set.is_subset (set.from_list ks) t
all_is_subset ks t =
    same_bool (list_all (set.contains t) ks) (set.is_subset (set.from_list ks) t)
    (λ all. set.contains-is_subset nat_cmp_total (set.from_list ks) t (λ q one. all_in ks t all q (sym (set.contains-from_list_nat ks q) ∙ one)))
    (λ sub. in_all ks t (λ q one. set.is_subset-contains nat_cmp_total (set.from_list ks) t sub q (set.contains-from_list_nat ks q ∙ one)))

-- a number that is in the set changes nothing
pub insert_again : (s : set.FinSet nat_cmp) (k : ℕ) → set.contains s k ≡ true → set.insert s k ≡ s
insert_again s k in_s =
    set.same_set nat_cmp_total set.nat_cmp-IsAntisymmetric (set.insert s k) s (λ q.
    set.contains-insert nat_cmp_total s k q ∙ same_bool (eq_by_cmp nat_cmp q k || set.contains s q) (set.contains s q) (λ h. either_in q h) (or_right (eq_by_cmp nat_cmp q k) (set.contains s q)))
  where
    either_in : (q : ℕ) → (eq_by_cmp nat_cmp q k || set.contains s q) ≡ true → set.contains s q ≡ true
    either_in q h =
        elim (eq_by_cmp nat_cmp q k) as (λ b. eq_by_cmp nat_cmp q k ≡ b → (b || set.contains s q) ≡ true → set.contains s q ≡ true) [
          | true ↦ λ is _. subst (λ x. set.contains s x ≡ true) (sym (eqb-true q k (sym (unsigned_tied q k) ∙ is))) in_s
          | false ↦ λ _ rest. rest
        ] refl h

pub pushed : (ks : List ℕ) (k : ℕ) → set.from_list {R = nat_cmp} (ks ++ k ∷ []) ≡ set.insert (set.from_list ks) k
pushed ks k = set.from_list_push nat_cmp_total set.nat_cmp-IsAntisymmetric ks k

-- what holds of the set's numbers and of k holds of each number with k
pub contains_insert : (s : set.FinSet nat_cmp) (k q : ℕ) → set.contains (set.insert s k) q ≡ (nat_eq q k || set.contains s q)
contains_insert s k q = set.contains-insert nat_cmp_total s k q ∙ ap (λ b. b || set.contains s q) (unsigned_tied q k)

pub or_cases : (a b : Bool) → (a || b) ≡ true → (a ≡ true) ⊎ (b ≡ true)
or_cases true b h = inl refl
or_cases false b h = inr h

pub inserted : (ks : List ℕ) (k bound : ℕ) → ((q : ℕ) → set.contains (set.from_list {R = nat_cmp} ks) q ≡ true → q < bound) → k < bound
    → (q : ℕ) → set.contains (set.from_list {R = nat_cmp} (ks ++ k ∷ [])) q ≡ true → q < bound
inserted ks k bound each here q is =
    ⊎_elim (λ same. subst (λ x. x < bound) (sym (eqb-true q k same)) here) (each q)
    (or_cases (nat_eq q k) (set.contains (set.from_list {R = nat_cmp} ks) q) (sym (contains_insert (set.from_list ks) k q) ∙ ap (λ s. set.contains s q) (sym (pushed ks k)) ∙ is))
