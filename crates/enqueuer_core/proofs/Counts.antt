-- Lists of numbers, and how often a number stands in one.
use Rattle.std.proofs.Common.{◌≡◌, ◌≢◌, ℕ, zero, suc, ◌+◌, ◌<◌, ◌≤◌, Bool, true, false, cond, ◌&&◌, ◌||◌, List, [], ◌∷◌, ◌++◌, length, refl, sym, ap, ◌∙◌, arith, subst, ⊎_elim, get_or, set, Option, None, replicate}
use Rattle.std.proofs.lemmas.Bool.{eq-eqb, true≢false}
use Rattle.std.proofs.lemmas.Bool.Decides.{eqb_tells}
use Rattle.std.proofs.lemmas.List.{get_or-set_same, get_or-set_other, length-set}
use Rattle.std.specs.Prelude.{nat_eq}
use Rattle.std.specs.List.{list_any}
use Rattle.world_state.specs.declared.impact.Impact.{Impact}
use Rattle.index_links.specs.Lists.{without_node, is_in}
use Rattle.enqueuer_core.specs.Core.{how_many, times, numbers_where, without}

-- 1 where the test passes
abbrev pub unit : Bool → ℕ
unit b = cond b 1 0

pub how_many_append : {X : Type 0} (p : X → Bool) (xs ys : List X) → how_many p (xs ++ ys) ≡ how_many p xs + how_many p ys
how_many_append p [] ys = omega arith
how_many_append p (x ∷ xs) ys = let more = how_many_append p xs ys in omega arith

pub how_many_set : {X : Type 0} (p : X → Bool) (xs : List X) (i : ℕ) (y d : X) → i < length xs → how_many p (set xs i y) + unit (p (get_or xs i d)) ≡ how_many p xs + unit (p y)
how_many_set p [] i y d h = absurd (omega arith)
how_many_set p (x ∷ xs) zero y d h = omega arith
how_many_set p (x ∷ xs) (suc i) y d h =
    let within : i < length xs = omega arith in
    let more = how_many_set p xs i y d within in omega arith

pub how_many_none : {X : Type 0} (p : X → Bool) (n : ℕ) (x : X) → p x ≡ false → how_many p (replicate n x) ≡ 0
how_many_none p zero x h = refl
how_many_none p (suc n) x h = let more = how_many_none p n x h in let here : unit (p x) ≡ 0 = ap unit h in omega arith

pub any_counts : {X : Type 0} (p : X → Bool) (xs : List X) → list_any p xs ≡ true → 0 < how_many p xs
any_counts p [] h = absurd (true≢false (sym h))
any_counts p (x ∷ xs) h =
    elim (p x) as (λ b. (b || list_any p xs) ≡ true → 0 < unit b + how_many p xs) [
      | true ↦ λ _. omega arith
      | false ↦ λ rest. let more = any_counts p xs rest in omega arith
    ] h

pub none_counts : {X : Type 0} (p : X → Bool) (xs : List X) → list_any p xs ≡ false → how_many p xs ≡ 0
none_counts p [] h = refl
none_counts p (x ∷ xs) h =
    elim (p x) as (λ b. (b || list_any p xs) ≡ false → unit b + how_many p xs ≡ 0) [
      | true ↦ λ wrong. absurd (true≢false wrong)
      | false ↦ λ rest. let more = none_counts p xs rest in omega arith
    ] h

-- a list all of whose places hold d counts nothing
pub all_default : {X : Type 0} (p : X → Bool) (xs : List X) (d : X) → p d ≡ false → ((i : ℕ) → get_or xs i d ≡ d) → how_many p xs ≡ 0
all_default p [] d fails each = refl
all_default p (x ∷ xs) d fails each =
    let here : unit (p x) ≡ 0 = ap (λ y. unit (p y)) (each 0) ∙ ap unit fails in
    let more = all_default p xs d fails (λ i. each (suc i)) in
    omega arith

pub times_one : (n m : ℕ) → times n (m ∷ []) ≡ unit (nat_eq m n)
times_one n m = omega arith

pub times_push : (n m : ℕ) (xs : List ℕ) → times n (xs ++ m ∷ []) ≡ times n xs + unit (nat_eq m n)
times_push n m xs = how_many_append (λ x. nat_eq x n) xs (m ∷ []) ∙ ap (λ k. times n xs + k) (times_one n m)

unit_at : (p : ℕ → Bool) (k n : ℕ) → times n (cond (p k) (k ∷ []) []) ≡ unit (p k && nat_eq k n)
unit_at p k n = elim (p k) as (λ b. times n (cond b (k ∷ []) []) ≡ unit (b && nat_eq k n)) [ true ↦ times_one n k | false ↦ refl ]

and_same : (a : Bool) → (a && true) ≡ a
and_same true = refl
and_same false = refl

and_none : (a : Bool) → (a && false) ≡ false
and_none true = refl
and_none false = refl

pub times_past : (p : ℕ → Bool) (k n : ℕ) → k ≤ n → times n (numbers_where p k) ≡ 0
times_past p zero n h = refl
times_past p (suc k) n h =
    let less : k ≤ n = omega arith in
    let more = times_past p k n less in
    let other : nat_eq k n ≡ false = ⊎_elim (λ (is : (nat_eq k n ≡ true) × (k ≡ n)). absurd (omega arith)) (λ (is : (nat_eq k n ≡ false) × (k ≢ n)). is.0) (eqb_tells k n) in
    let one : times n (cond (p k) (k ∷ []) []) ≡ 0 = unit_at p k n ∙ ap (λ b. unit (p k && b)) other ∙ ap unit (and_none (p k)) in
    let all = how_many_append (λ x. nat_eq x n) (numbers_where p k) (cond (p k) (k ∷ []) []) in
    omega arith

pub times_where : (p : ℕ → Bool) (k n : ℕ) → n < k → times n (numbers_where p k) ≡ unit (p n)
times_where p zero n h = absurd (omega arith)
times_where p (suc k) n h =
    let all = how_many_append (λ x. nat_eq x n) (numbers_where p k) (cond (p k) (k ∷ []) []) in
    ⊎_elim
    (λ (is : (nat_eq k n ≡ true) × (k ≡ n)).
    let front = times_past p k n (omega arith) in
    let one : times n (cond (p k) (k ∷ []) []) ≡ unit (p n) = unit_at p k n ∙ ap (λ b. unit (p k && b)) is.0 ∙ ap unit (and_same (p k)) ∙ ap (λ j. unit (p j)) is.1 in
    omega arith)
    (λ (is : (nat_eq k n ≡ false) × (k ≢ n)).
    let apart = is.1 in
    let front = times_where p k n (omega arith) in
    let one : times n (cond (p k) (k ∷ []) []) ≡ 0 = unit_at p k n ∙ ap (λ b. unit (p k && b)) is.0 ∙ ap unit (and_none (p k)) in
    omega arith)
    (eqb_tells k n)

pub times_without_node : (m n : ℕ) (xs : List ℕ) → 0 < times m xs → times n (without_node m xs) + unit (nat_eq m n) ≡ times n xs
times_without_node m n [] h = absurd (omega arith)
times_without_node m n (x ∷ xs) h =
    ⊎_elim
    (λ (is : (nat_eq m x ≡ true) × (m ≡ x)).
    ap (λ b. times n (cond b xs (x ∷ without_node m xs)) + unit (nat_eq m n)) is.0
    ∙ ap (λ k. times n xs + unit (nat_eq k n)) is.1
    ∙ omega arith)
    (λ (is : (nat_eq m x ≡ false) × (m ≢ x)).
    let none : unit (nat_eq x m) ≡ 0 = ap unit (other x m (λ e. is.1 (sym e))) in
    let some : 0 < times m xs = omega arith in
    let more = times_without_node m n xs some in
    ap (λ b. times n (cond b xs (x ∷ without_node m xs)) + unit (nat_eq m n)) is.0 ∙ omega arith)
    (eqb_tells m x)
  where
    other : (a b : ℕ) → a ≢ b → nat_eq a b ≡ false
    other a b ne = ⊎_elim (λ (is : (nat_eq a b ≡ true) × (a ≡ b)). absurd (ne is.1)) (λ (is : (nat_eq a b ≡ false) × (a ≢ b)). is.0) (eqb_tells a b)

-- what does not stand in a list is not in it
pub in_none : (n : ℕ) (xs : List ℕ) → times n xs ≡ 0 → is_in n xs ≡ false
in_none n [] h = refl
in_none n (x ∷ xs) h =
    ⊎_elim
    (λ (is : (nat_eq n x ≡ true) × (n ≡ x)). let here : unit (nat_eq x n) ≡ 1 = ap unit (eq-eqb x n (sym is.1)) in absurd (omega arith))
    (λ (is : (nat_eq n x ≡ false) × (n ≢ x)). ap (λ b. b || is_in n xs) is.0 ∙ in_none n xs (omega arith))
    (eqb_tells n x)

pub in_some : (n : ℕ) (xs : List ℕ) → 0 < times n xs → is_in n xs ≡ true
in_some n [] h = absurd (omega arith)
in_some n (x ∷ xs) h =
    ⊎_elim
    (λ (is : (nat_eq n x ≡ true) × (n ≡ x)). ap (λ b. b || is_in n xs) is.0)
    (λ (is : (nat_eq n x ≡ false) × (n ≢ x)).
    let none : unit (nat_eq x n) ≡ 0 = ap unit (⊎_elim (λ (e : (nat_eq x n ≡ true) × (x ≡ n)). absurd (is.1 (sym e.1))) (λ (e : (nat_eq x n ≡ false) × (x ≢ n)). e.0) (eqb_tells x n)) in
    ap (λ b. b || is_in n xs) is.0 ∙ in_some n xs (omega arith))
    (eqb_tells n x)

-- what is left of the settled impacts
pub length_without : (p : ℕ → Bool) (k : ℕ) (xs : List (Option Impact)) → length (without p k xs) ≡ length xs
length_without p zero xs = refl
length_without p (suc k) xs =
    elim (p k) as (λ b. length (cond b (set (without p k xs) k None) (without p k xs)) ≡ length xs) [
      | true ↦ length-set (without p k xs) k None ∙ length_without p k xs
      | false ↦ length_without p k xs
    ]

pub without_past : (p : ℕ → Bool) (k n : ℕ) (xs : List (Option Impact)) → k ≤ n → get_or (without p k xs) n None ≡ get_or xs n None
without_past p zero n xs h = refl
without_past p (suc k) n xs h =
    let less : k ≤ n = omega arith in
    let apart : n ≢ k = omega arith in
    elim (p k) as (λ b. get_or (cond b (set (without p k xs) k None) (without p k xs)) n None ≡ get_or xs n None) [
      | true ↦ get_or-set_other (without p k xs) k n None None apart ∙ without_past p k n xs less
      | false ↦ without_past p k n xs less
    ]

pub without_at : (p : ℕ → Bool) (k n : ℕ) (xs : List (Option Impact)) → n < k → k ≤ length xs → get_or (without p k xs) n None ≡ cond (p n) None (get_or xs n None)
without_at p zero n xs h room = absurd (omega arith)
without_at p (suc k) n xs h room =
    let less : k ≤ length xs = omega arith in
    ⊎_elim
    (λ (is : (nat_eq k n ≡ true) × (k ≡ n)).
    let within : k < length (without p k xs) = omega (arith, length_without p k xs) in
    let same = is.1 in
    subst (λ j. get_or (without p (suc k) xs) j None ≡ cond (p j) None (get_or xs j None)) same
    (elim (p k) as (λ b. get_or (cond b (set (without p k xs) k None) (without p k xs)) k None ≡ cond b None (get_or xs k None)) [
      | true ↦ get_or-set_same (without p k xs) k None None within
      | false ↦ without_past p k k xs (omega arith)
    ]))
    (λ (is : (nat_eq k n ≡ false) × (k ≢ n)).
    let apart : n ≢ k = λ e. is.1 (sym e) in
    let front : n < k = omega arith in
    (elim (p k) as (λ b. get_or (cond b (set (without p k xs) k None) (without p k xs)) n None ≡ get_or (without p k xs) n None) [
      | true ↦ get_or-set_other (without p k xs) k n None None apart
      | false ↦ refl
    ]) ∙ without_at p k n xs front less)
    (eqb_tells k n)
