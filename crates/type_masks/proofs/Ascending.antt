-- Ascending lists.
use Rattle.std.proofs.Common.{◌≡◌, ◌≢◌, ℕ, zero, suc, ◌<◌, ◌≤◌, Bool, true, false, cond, ◌||◌, List, [], ◌∷◌, ◌++◌, length, refl, sym, ap, ◌∙◌, arith, subst, ⊎_elim, get_or, take, drop, nat_eq, nat_lt}
use Rattle.std.proofs.lemmas.Bool.{eq-eqb, eqb-true, true≢false, ltb-true, ltb-false, cases_lt}
use Rattle.std.proofs.lemmas.List.{append-nil}
use Rattle.std.proofs.lemmas.List.Sorted.{searched}
use Rattle.std.specs.List.Sorted.{IsBinarySearchResult}
use Rattle.std.specs.Prelude.{Result, Ok, Err, is_ok}
use Rattle.std.specs.Cmp.{nat_cmp_total, nat_eq_equiv}
use Rattle.std.proofs.lemmas.Bool.Decides.{eqb_tells}
use Rattle.std.specs.List.{list_any, AllByRecursion}
use Rattle.std.specs.Ordering.{nat_cmp}
use Rattle.std.specs.FinSet as set
use Rattle.type_masks.specs.Masks.{Kinds, IsAscending, only_kind, has, with_kind, with_kinds}
use Rattle.type_masks.proofs.Sets.{same_bool, or_cases, or_true, contains_insert}
use Rattle.type_masks.specs.Merge.{merge, merge_from}

-- what holds of all holds at a place
pub all_at : (P : ℕ → Type 0) (xs : List ℕ) (i : ℕ) → AllByRecursion P xs → i < length xs → P (get_or xs i 0)
all_at P [] i all h = absurd (omega arith)
all_at P (x ∷ xs) zero all h = all.0
all_at P (x ∷ xs) (suc i) all h = all_at P xs i all.1 (omega arith)

pub all_from : (P : ℕ → Type 0) (xs : List ℕ) → ((i : ℕ) → i < length xs → P (get_or xs i 0)) → AllByRecursion P xs
all_from P [] each = tt
all_from P (x ∷ xs) each = (each 0 (omega arith), all_from P xs (λ i h. each (suc i) (omega arith)))

pub ascending_le : (xs : List ℕ) → IsAscending xs → (i j : ℕ) → i ≤ j → j < length xs → get_or xs i 0 ≤ get_or xs j 0
ascending_le [] up i j h within = absurd (omega arith)
ascending_le (x ∷ xs) up zero zero h within = omega arith
ascending_le (x ∷ xs) up zero (suc j) h within = let less = all_at (λ y. x < y) xs j up.0 (omega arith) in omega arith
ascending_le (x ∷ xs) up (suc i) zero h within = absurd (omega arith)
ascending_le (x ∷ xs) up (suc i) (suc j) h within = ascending_le xs up.1 i j (omega arith) (omega arith)

-- a kind stands in the list
abbrev pub stands : List ℕ → ℕ → Bool
stands xs q = list_any (λ y. nat_eq y q) xs

pub stands_at : (xs : List ℕ) (i q : ℕ) → i < length xs → get_or xs i 0 ≡ q → stands xs q ≡ true
stands_at [] i q within h = absurd (omega arith)
stands_at (x ∷ xs) zero q within h = ap (λ b. b || stands xs q) (eq-eqb x q h)
stands_at (x ∷ xs) (suc i) q within h =
    elim (nat_eq x q) as (λ b. (b || stands xs q) ≡ true) [ true ↦ refl | false ↦ stands_at xs i q (omega arith) h ]

pub stands_nowhere : (xs : List ℕ) (q : ℕ) → ((i : ℕ) → i < length xs → get_or xs i 0 ≢ q) → stands xs q ≡ false
stands_nowhere [] q none = refl
stands_nowhere (x ∷ xs) q none =
    ⊎_elim (λ (is : (nat_eq x q ≡ true) × (x ≡ q)). absurd (none 0 (omega arith) is.1))
    (λ (is : (nat_eq x q ≡ false) × (x ≢ q)). ap (λ b. b || stands xs q) is.0 ∙ stands_nowhere xs q (λ i h. none (suc i) (omega arith)))
    (eqb_tells x q)

-- a number that is put in its place
pub all_insert : (P : ℕ → Type 0) (xs : List ℕ) (i x : ℕ) → AllByRecursion P xs → P x → AllByRecursion P (take i xs ++ x ∷ drop i xs)
all_insert P [] zero x all here = (here, tt)
all_insert P [] (suc i) x all here = (here, tt)
all_insert P (y ∷ ys) zero x all here = (here, all)
all_insert P (y ∷ ys) (suc i) x all here = (all.0, all_insert P ys i x all.1 here)

pub ascending_insert : (xs : List ℕ) (i x : ℕ) → IsAscending xs → i ≤ length xs → ((k : ℕ) → k < i → get_or xs k 0 < x) → ((k : ℕ) → i ≤ k → k < length xs → x < get_or xs k 0) → IsAscending (take i xs ++ x ∷ drop i xs)
ascending_insert [] zero x up h below above = (tt, tt)
ascending_insert [] (suc i) x up h below above = absurd (omega arith)
ascending_insert (y ∷ ys) zero x up h below above = (all_from (λ z. x < z) (y ∷ ys) (λ k within. above k (omega arith) within), up)
ascending_insert (y ∷ ys) (suc i) x up h below above = (
  all_insert (λ z. y < z) ys i x up.0 (below 0 (omega arith)),
  ascending_insert ys i x up.1 (omega arith) (λ k less. below (suc k) (omega arith)) (λ k more within. above (suc k) (omega arith) (omega arith)),
)

pub stands_insert : (xs : List ℕ) (i x q : ℕ) → stands (take i xs ++ x ∷ drop i xs) q ≡ (nat_eq x q || stands xs q)
stands_insert [] zero x q = refl
stands_insert [] (suc i) x q = refl
stands_insert (y ∷ ys) zero x q = refl
stands_insert (y ∷ ys) (suc i) x q = ap (λ b. nat_eq y q || b) (stands_insert ys i x q) ∙ or_swap (nat_eq y q) (nat_eq x q) (stands ys q)
  where
    or_swap : (a b c : Bool) → (a || (b || c)) ≡ (b || (a || c))
    or_swap true true c = refl
    or_swap true false c = refl
    or_swap false b c = refl

-- two lists that become one
pub by_lt : (x y : ℕ) (P : Type 0) → (nat_lt x y ≡ true → x < y → P) → (nat_lt x y ≡ false → nat_lt y x ≡ true → y < x → P) → (nat_lt x y ≡ false → nat_lt y x ≡ false → x ≡ y → P) → P
by_lt x y P less more same =
    elim (nat_lt x y) as (λ b. nat_lt x y ≡ b → P) [
      | true ↦ λ is. less is (ltb-true x y is)
      | false ↦ λ is. elim (nat_lt y x) as (λ b. nat_lt y x ≡ b → P) [
        | true ↦ λ back. more is back (ltb-true y x back)
        | false ↦ λ back. same is back (let below = ltb-false x y is in let above = ltb-false y x back in omega arith)
      ] refl
    ] refl

merged_less : (x y : ℕ) (rest : List ℕ → List ℕ) (ys : List ℕ) → nat_lt x y ≡ true → merge_from x rest (y ∷ ys) ≡ x ∷ rest (y ∷ ys)
merged_less x y rest ys is = ap (λ b. cond b (x ∷ rest (y ∷ ys)) (cond (nat_lt y x) (y ∷ merge_from x rest ys) (x ∷ rest ys))) is

merged_more : (x y : ℕ) (rest : List ℕ → List ℕ) (ys : List ℕ) → nat_lt x y ≡ false → nat_lt y x ≡ true → merge_from x rest (y ∷ ys) ≡ y ∷ merge_from x rest ys
merged_more x y rest ys is back =
    ap (λ b. cond b (x ∷ rest (y ∷ ys)) (cond (nat_lt y x) (y ∷ merge_from x rest ys) (x ∷ rest ys))) is
    ∙ ap (λ b. cond b (y ∷ merge_from x rest ys) (x ∷ rest ys)) back

merged_same : (x y : ℕ) (rest : List ℕ → List ℕ) (ys : List ℕ) → nat_lt x y ≡ false → nat_lt y x ≡ false → merge_from x rest (y ∷ ys) ≡ x ∷ rest ys
merged_same x y rest ys is back =
    ap (λ b. cond b (x ∷ rest (y ∷ ys)) (cond (nat_lt y x) (y ∷ merge_from x rest ys) (x ∷ rest ys))) is
    ∙ ap (λ b. cond b (y ∷ merge_from x rest ys) (x ∷ rest ys)) back

pub all_more : (P Q : ℕ → Type 0) (xs : List ℕ) → ((y : ℕ) → P y → Q y) → AllByRecursion P xs → AllByRecursion Q xs
all_more P Q [] more all = tt
all_more P Q (x ∷ xs) more all = (more x all.0, all_more P Q xs more all.1)

all_merge_from : (P : ℕ → Type 0) (x : ℕ) (rest : List ℕ → List ℕ) (ys : List ℕ) → ((zs : List ℕ) → AllByRecursion P zs → AllByRecursion P (rest zs)) → P x → AllByRecursion P ys → AllByRecursion P (merge_from x rest ys)
all_merge_from P x rest [] each here all = (here, each [] tt)
all_merge_from P x rest (y ∷ ys) each here all =
    by_lt x y (AllByRecursion P (merge_from x rest (y ∷ ys)))
    (λ is less. subst (AllByRecursion P) (sym (merged_less x y rest ys is)) (here, each (y ∷ ys) all))
    (λ is back more. subst (AllByRecursion P) (sym (merged_more x y rest ys is back)) (all.0, all_merge_from P x rest ys each here all.1))
    (λ is back same. subst (AllByRecursion P) (sym (merged_same x y rest ys is back)) (here, each ys all.1))

pub all_merge : (P : ℕ → Type 0) (xs ys : List ℕ) → AllByRecursion P xs → AllByRecursion P ys → AllByRecursion P (merge xs ys)
all_merge P [] ys a b = b
all_merge P (x ∷ xs) ys a b = all_merge_from P x (merge xs) ys (λ zs h. all_merge P xs zs a.1 h) a.0 b

ascending_merge_from : (x : ℕ) (xs ys : List ℕ) → ((zs : List ℕ) → IsAscending zs → IsAscending (merge xs zs)) → IsAscending (x ∷ xs) → IsAscending ys → IsAscending (merge_from x (merge xs) ys)
ascending_merge_from x xs [] each a b = (all_merge (λ y. x < y) xs [] a.0 tt, each [] tt)
ascending_merge_from x xs (y ∷ ys) each a b =
    by_lt x y (IsAscending (merge_from x (merge xs) (y ∷ ys)))
    (λ is less. subst IsAscending (sym (merged_less x y (merge xs) ys is))
    (all_merge (λ z. x < z) xs (y ∷ ys) a.0 (less, all_more (λ z. y < z) (λ z. x < z) ys (λ z h. omega arith) b.0), each (y ∷ ys) b))
    (λ is back more. subst IsAscending (sym (merged_more x y (merge xs) ys is back))
    (all_merge_from (λ z. y < z) x (merge xs) ys (λ zs h. all_merge (λ z. y < z) xs zs (all_more (λ z. x < z) (λ z. y < z) xs (λ z h. omega arith) a.0) h) more b.0, ascending_merge_from x xs ys each a b.1))
    (λ is back same. subst IsAscending (sym (merged_same x y (merge xs) ys is back))
    (all_merge (λ z. x < z) xs ys a.0 (all_more (λ z. y < z) (λ z. x < z) ys (λ z h. omega arith) b.0), each ys b.1))

pub ascending_merge : (xs ys : List ℕ) → IsAscending xs → IsAscending ys → IsAscending (merge xs ys)
ascending_merge [] ys a b = b
ascending_merge (x ∷ xs) ys a b = ascending_merge_from x xs ys (λ zs h. ascending_merge xs zs a.1 h) a b

or_assoc : (a b c : Bool) → (a || (b || c)) ≡ ((a || b) || c)
or_assoc true b c = refl
or_assoc false b c = refl

or_over : (y a b : Bool) → (y || (a || b)) ≡ (a || (y || b))
or_over true true b = refl
or_over true false b = refl
or_over false a b = refl

or_twice : (a b c : Bool) → (a || (b || c)) ≡ ((a || b) || (a || c))
or_twice true b c = refl
or_twice false b c = refl

or_none : (a : Bool) → (a || false) ≡ a
or_none true = refl
or_none false = refl

stands_merge_from : (x : ℕ) (xs ys : List ℕ) (q : ℕ) → ((zs : List ℕ) → stands (merge xs zs) q ≡ (stands xs q || stands zs q)) → stands (merge_from x (merge xs) ys) q ≡ ((nat_eq x q || stands xs q) || stands ys q)
stands_merge_from x xs [] q each = ap (λ b. nat_eq x q || b) (each []) ∙ or_assoc (nat_eq x q) (stands xs q) false
stands_merge_from x xs (y ∷ ys) q each =
    by_lt x y (stands (merge_from x (merge xs) (y ∷ ys)) q ≡ ((nat_eq x q || stands xs q) || (nat_eq y q || stands ys q)))
    (λ is less. ap (λ zs. stands zs q) (merged_less x y (merge xs) ys is) ∙ ap (λ b. nat_eq x q || b) (each (y ∷ ys)) ∙ or_assoc (nat_eq x q) (stands xs q) (nat_eq y q || stands ys q))
    (λ is back more. ap (λ zs. stands zs q) (merged_more x y (merge xs) ys is back) ∙ ap (λ b. nat_eq y q || b) (stands_merge_from x xs ys q each) ∙ or_over (nat_eq y q) (nat_eq x q || stands xs q) (stands ys q))
    (λ is back same. ap (λ zs. stands zs q) (merged_same x y (merge xs) ys is back) ∙ ap (λ b. nat_eq x q || b) (each ys)
    ∙ or_again (nat_eq x q) (stands xs q) (stands ys q) ∙ ap (λ n. (nat_eq x q || stands xs q) || (nat_eq n q || stands ys q)) same)
  where
    or_again : (a b c : Bool) → (a || (b || c)) ≡ ((a || b) || (a || c))
    or_again true b c = refl
    or_again false b c = refl

pub stands_merge : (xs ys : List ℕ) (q : ℕ) → stands (merge xs ys) q ≡ (stands xs q || stands ys q)
stands_merge [] ys q = refl
stands_merge (x ∷ xs) ys q = stands_merge_from x xs ys q (λ zs. stands_merge xs zs q)

pub merge_nil : (xs : List ℕ) → merge xs [] ≡ xs
merge_nil [] = refl
merge_nil (x ∷ xs) = ap (λ ys. x ∷ ys) (merge_nil xs)

-- where the second list is at its end
pub merge_ends : (all xs ys target : List ℕ) → ys ≡ [] → all ++ merge xs ys ≡ target → all ++ (xs ++ ys) ≡ target
merge_ends all xs ys target end left = ap (λ zs. all ++ (xs ++ zs)) end ∙ ap (λ zs. all ++ zs) (append-nil xs ∙ sym (merge_nil xs)) ∙ sym (ap (λ zs. all ++ merge xs zs) end) ∙ left

-- what a search in an ascending list says of the set of its numbers
pub found : (xs : List ℕ) (q : ℕ) (r : Result ℕ ℕ) → IsBinarySearchResult (λ y. nat_cmp y q) xs r → IsAscending xs → is_ok r ≡ set.contains (set.from_list {R = nat_cmp} xs) q
found xs q (Ok i) h up =
    let at = searched xs q (Ok i) h (ascending_le xs up) in
    sym (set.contains-from_list_nat xs q ∙ stands_at xs i q at.0 at.1)
found xs q (Err i) h up =
    let at = searched xs q (Err i) h (ascending_le xs up) in
    sym (set.contains-from_list_nat xs q ∙ stands_nowhere xs q (λ k within is.
    ⊎_elim (λ (less : k < i). let below = at.1 k less in omega arith) (λ (more : i ≤ k). let above = at.2 k more within in omega arith) (cases_lt k i)))

pub insert_is : (xs : List ℕ) (i q : ℕ) → set.from_list {R = nat_cmp} (take i xs ++ q ∷ drop i xs) ≡ set.insert (set.from_list xs) q
insert_is xs i q =
    set.same_set nat_cmp_total set.nat_cmp-IsAntisymmetric _ _ (λ k.
    set.contains-from_list_nat (take i xs ++ q ∷ drop i xs) k ∙ stands_insert xs i q k
    ∙ sym (contains_insert (set.from_list xs) q k ∙ ap (λ b. nat_eq k q || b) (set.contains-from_list_nat xs k) ∙ ap (λ b. b || stands xs k) (nat_eq_equiv.symm k q)))

pub merge_is : (xs ys : List ℕ) → set.from_list {R = nat_cmp} (merge xs ys) ≡ set.union (set.from_list ys) (set.from_list xs)
merge_is xs ys =
    set.same_set nat_cmp_total set.nat_cmp-IsAntisymmetric _ _ (λ k.
    set.contains-from_list_nat (merge xs ys) k ∙ stands_merge xs ys k ∙ or_comm (stands xs k) (stands ys k)
    ∙ sym (set.contains-union nat_cmp_total (set.from_list ys) (set.from_list xs) k
    ∙ ap (λ b. b || set.contains (set.from_list {R = nat_cmp} xs) k) (set.contains-from_list_nat ys k) ∙ ap (λ b. stands ys k || b) (set.contains-from_list_nat xs k)))
  where
    or_comm : (a b : Bool) → (a || b) ≡ (b || a)
    or_comm true true = refl
    or_comm true false = refl
    or_comm false true = refl
    or_comm false false = refl

-- a union with what lies within is no change
pub union_within : (s t : set.FinSet nat_cmp) → set.is_subset s t ≡ true → set.union t s ≡ t
union_within s t sub =
    set.same_set nat_cmp_total set.nat_cmp-IsAntisymmetric _ _ (λ k. set.contains-union nat_cmp_total t s k
    ∙ same_bool (set.contains t k || set.contains s k) (set.contains t k)
    (λ h. ⊎_elim (λ (is : set.contains t k ≡ true). is) (λ (is : set.contains s k ≡ true). set.is_subset-contains nat_cmp_total s t sub k is) (or_cases (set.contains t k) (set.contains s k) h))
    (or_true (set.contains t k) (set.contains s k)))

pub union_bounded : (s t : set.FinSet nat_cmp) (bound : ℕ) → ((q : ℕ) → set.contains s q ≡ true → q < bound) → ((q : ℕ) → set.contains t q ≡ true → q < bound) → (q : ℕ) → set.contains (set.union s t) q ≡ true → q < bound
union_bounded s t bound left right q is = ⊎_elim (left q) (right q) (or_cases (set.contains s q) (set.contains t q) (sym (set.contains-union nat_cmp_total s t q) ∙ is))

pub insert_bounded : (s : set.FinSet nat_cmp) (k bound : ℕ) → ((q : ℕ) → set.contains s q ≡ true → q < bound) → k < bound → (q : ℕ) → set.contains (set.insert s k) q ≡ true → q < bound
insert_bounded s k bound each here q is =
    ⊎_elim (λ (same : nat_eq q k ≡ true). subst (λ x. x < bound) (sym (eqb-true q k same)) here) (each q) (or_cases (nat_eq q k) (set.contains s q) (sym (contains_insert s k q) ∙ is))

-- sets of one kind
pub only_has : (k q : ℕ) → set.contains (only_kind k) q ≡ true → q ≡ k
only_has k q is = ⊎_elim (λ (same : nat_eq q k ≡ true). eqb-true q k same) (λ (none : set.contains (set.empty {R = nat_cmp}) q ≡ true). absurd (true≢false (sym none ∙ set.contains-empty nat_cmp q))) (or_cases (nat_eq q k) (set.contains set.empty q) (sym (contains_insert set.empty k q) ∙ is))

pub not_only : (xs : List ℕ) → IsAscending xs → (length xs ≡ 1 → ⊥) → (k : ℕ) → set.from_list {R = nat_cmp} xs ≢ only_kind k
not_only [] up other k is =
    true≢false (sym (contains_insert set.empty k k ∙ ap (λ b. b || set.contains (set.empty {R = nat_cmp}) k) (eq-eqb k k refl)) ∙ sym (ap (λ s. set.contains s k) is) ∙ set.contains-empty nat_cmp k)
not_only (x ∷ []) up other k is = other refl
not_only (x ∷ y ∷ ys) up other k is =
    let first = only_has k x (sym (ap (λ s. set.contains s x) is) ∙ set.contains-from_list_nat (x ∷ y ∷ ys) x ∙ stands_at (x ∷ y ∷ ys) 0 x (omega arith) refl) in
    let second = only_has k y (sym (ap (λ s. set.contains s y) is) ∙ set.contains-from_list_nat (x ∷ y ∷ ys) y ∙ stands_at (x ∷ y ∷ ys) 1 y (omega arith) refl) in
    let less : x < y = up.0.0 in
    omega arith

pub one_only : (xs : List ℕ) (k : ℕ) → length xs ≡ 1 → get_or xs 0 0 ≡ k → set.from_list {R = nat_cmp} xs ≡ only_kind k
one_only [] k h at = absurd (omega arith)
one_only (x ∷ []) k h at = ap (λ n. only_kind n) at
one_only (x ∷ y ∷ ys) k h at = absurd (omega arith)

-- the same where the list was lent as a slice of a mask
pub found_in : (ks xs : List ℕ) (q : ℕ) (r : Result ℕ ℕ) (bound : ℕ) (m : Kinds) → xs ≡ ks → record { bound = bound; set = set.from_list ks } ≡ m → IsBinarySearchResult (λ y. nat_cmp y q) xs r → IsAscending ks → is_ok r ≡ has m q
found_in ks xs q r bound m lent is h up =
    found xs q r h (subst IsAscending (sym lent) up) ∙ ap (λ ys. set.contains (set.from_list {R = nat_cmp} ys) q) lent ∙ ap (λ (k : Kinds). has k q) is

pub placed : (ks xs : List ℕ) (q i : ℕ) → xs ≡ ks → IsBinarySearchResult (λ y. nat_cmp y q) xs (Err i) → IsAscending ks → IsAscending (take i ks ++ q ∷ drop i ks)
placed ks xs q i lent h up =
    let at = searched ks q (Err i) (subst (λ ys. IsBinarySearchResult (λ y. nat_cmp y q) ys (Err i)) lent h) (ascending_le ks up) in
    ascending_insert ks i q up at.0 at.1 at.2

-- a mask after a number was put in its place
pub added : (ks new : List ℕ) (q i bound : ℕ) (m : Kinds) → new ≡ take i ks ++ q ∷ drop i ks → record { bound = bound; set = set.from_list ks } ≡ m → record { bound = bound; set = set.from_list {R = nat_cmp} new } ≡ with_kind m q
added ks new q i bound m is seen =
    let set_is : set.from_list {R = nat_cmp} new ≡ set.insert (set.from_list ks) q = ap set.from_list is ∙ insert_is ks i q in
    ap (λ (s : set.FinSet nat_cmp). record { bound = bound; set = s }) set_is ∙ ap (λ (k : Kinds). with_kind k q) seen

pub added_bounded : (ks new : List ℕ) (q i bound : ℕ) → new ≡ take i ks ++ q ∷ drop i ks → ((k : ℕ) → set.contains (set.from_list {R = nat_cmp} ks) k ≡ true → k < bound) → q < bound → (k : ℕ) → set.contains (set.from_list {R = nat_cmp} new) k ≡ true → k < bound
added_bounded ks new q i bound is each here k h =
    insert_bounded (set.from_list ks) q bound each here k (sym (ap (λ (s : set.FinSet nat_cmp). set.contains s k) (ap set.from_list is ∙ insert_is ks i q)) ∙ h)

-- a mask after the kinds of another came to it
pub joined : (ks js new : List ℕ) (bound : ℕ) (m o : Kinds) → new ≡ merge ks js → record { bound = bound; set = set.from_list js } ≡ m → set.from_list ks ≡ o.set → record { bound = bound; set = set.from_list {R = nat_cmp} new } ≡ with_kinds m o
joined ks js new bound m o is seen other =
    let set_is : set.from_list {R = nat_cmp} new ≡ set.union (set.from_list js) (set.from_list ks) = ap set.from_list is ∙ merge_is ks js in
    ap (λ (s : set.FinSet nat_cmp). record { bound = bound; set = s }) (set_is ∙ ap (set.union (set.from_list js)) other) ∙ ap (λ (k : Kinds). with_kinds k o) seen

pub joined_bounded : (ks js new : List ℕ) (bound : ℕ) → new ≡ merge ks js → ((k : ℕ) → set.contains (set.from_list {R = nat_cmp} js) k ≡ true → k < bound) → ((k : ℕ) → set.contains (set.from_list {R = nat_cmp} ks) k ≡ true → k < bound)
    → (k : ℕ) → set.contains (set.from_list {R = nat_cmp} new) k ≡ true → k < bound
joined_bounded ks js new bound is left right k h =
    union_bounded (set.from_list js) (set.from_list ks) bound left right k (sym (ap (λ (s : set.FinSet nat_cmp). set.contains s k) (ap set.from_list is ∙ merge_is ks js)) ∙ h)
