-- That work is done: each step alone leaves less of it.
use Rattle.std.proofs.Common.{◌≡◌, ◌≢◌, ℕ, zero, suc, ◌+◌, ◌*◌, ◌<◌, ◌≤◌, Bool, true, false, not, cond, ◌||◌, List, [], ◌∷◌, ◌++◌, length, refl, sym, ap, ◌∙◌, arith, subst, ⊎_elim, get_or, Option, Some, None, nat_eq, length-append}
use Rattle.std.proofs.lemmas.Bool.{true≢false, eq-eqb}
use Rattle.std.proofs.lemmas.Bool.Decides.{eqb_tells}
use Rattle.std.proofs.lemmas.Map.Steps.{length-le_from_distinct_below}
use Rattle.std.proofs.Math.Nat.{mul-le-mul_right}
use Rattle.std.specs.List.{IsDistinct, AllByRecursion, list_any}
use Rattle.type_masks.specs.Masks.{Kinds, has, is_same}
use Rattle.type_masks.specs.declared.shape.Shape.{Shape}
use Rattle.type_masks.proofs.Sets.{or_true, or_right}
use Rattle.index_links.specs.Lists.{without_node}
use Rattle.world_state.specs.declared.fact.Fact.{Fact}
use Rattle.world_state.specs.declared.fact.Fact.TheVariants.{In, Live}
use Rattle.world_state.specs.declared.reads.SlotRead.{SlotRead}
use Rattle.world_state.specs.declared.impact.Impact.{Impact}
use Rattle.world_state.specs.Facts.{InShape, is_among, same_fact}
use Rattle.world_state.specs.Worlds.{Facts, has_fact, mask_at, with_facts, absent_of}
use Rattle.world_state.proofs.WorldFacts.{has_withs, shape_withs, is_same_fact, is_itself, same_within}
use Rattle.world_state.proofs.Absent.{with_absent, absent_in_shape, absent_none}
use Rattle.enqueuer_core.specs.Least.{Agrees}
use Rattle.enqueuer_core.specs.Core.{State, Take, Join, happens, times, IsState, accepted, all_within, all_same, is_woken, is_raised, has_raised, numbers_where, settled_with, returned}
use Rattle.enqueuer_core.proofs.Counts.{unit}
use Rattle.enqueuer_core.proofs.DeskLaws.{pending_member}
use Rattle.enqueuer.specs.Alone.{sum_below, one_if, missing, work_left}

-- sums
sum_le : (f g : ℕ → ℕ) (n : ℕ) → ((k : ℕ) → k < n → f k ≤ g k) → sum_below f n ≤ sum_below g n
sum_le f g zero each = omega arith
sum_le f g (suc n) each = let rest = sum_le f g n (λ k h. each k (omega arith)) in let here = each n (omega arith) in omega arith

sum_lt : (f g : ℕ → ℕ) (n i : ℕ) → ((k : ℕ) → k < n → f k ≤ g k) → i < n → f i < g i → sum_below f n < sum_below g n
sum_lt f g zero i each within less = absurd (omega arith)
sum_lt f g (suc n) i each within less =
    ⊎_elim
    (λ (is : (nat_eq i n ≡ true) × (i ≡ n)).
    let rest = sum_le f g n (λ k h. each k (omega arith)) in
    let here : f n < g n = subst (λ k. f k < g k) is.1 less in omega arith)
    (λ (is : (nat_eq i n ≡ false) × (i ≢ n)).
    let ne = is.1 in
    let rest = sum_lt f g n i (λ k h. each k (omega arith)) (omega arith) less in
    let here = each n (omega arith) in omega arith)
    (eqb_tells i n)

one_le : (a b : Bool) → (a ≡ true → b ≡ true) → one_if (not b) ≤ one_if (not a)
one_le true b h = rw (h refl) (omega arith)
one_le false true h = omega arith
one_le false false h = omega arith

one_lt : (a b : Bool) → a ≡ false → b ≡ true → one_if (not b) < one_if (not a)
one_lt a b ha hb = rw (ha, hb) (omega arith)

-- a larger world lacks less
lacks_less : (v w : Facts) (f : Fact) → v.shape ≡ w.shape → ((g : Fact) → has_fact v g ≡ true → has_fact w g ≡ true) → InShape v.shape f → has_fact v f ≡ false → has_fact w f ≡ true → missing w < missing v
lacks_less v w (Live n) shape grows room none some =
    let s = v.shape in
    let members = sum_lt (λ k. one_if (not (has_fact w (Live k)))) (λ k. one_if (not (has_fact v (Live k)))) s.members n (λ k h. one_le _ _ (grows (Live k))) room (one_lt _ _ none some) in
    let slots = sum_le (λ slot. sum_below (λ kind. one_if (not (has (mask_at w slot) kind))) s.kinds) (λ slot. sum_below (λ kind. one_if (not (has (mask_at v slot) kind))) s.kinds) s.slots
    (λ slot h. sum_le (λ kind. one_if (not (has (mask_at w slot) kind))) (λ kind. one_if (not (has (mask_at v slot) kind))) s.kinds (λ kind k. one_le _ _ (grows (In slot kind)))) in
    subst (λ (sh : Shape). sum_below (λ k. one_if (not (has_fact w (Live k)))) sh.members + sum_below (λ slot. sum_below (λ kind. one_if (not (has (mask_at w slot) kind))) sh.kinds) sh.slots < missing v) shape
    (omega arith)
lacks_less v w (In at k) shape grows room none some =
    let s = v.shape in
    let members = sum_le (λ k. one_if (not (has_fact w (Live k)))) (λ k. one_if (not (has_fact v (Live k)))) s.members (λ k h. one_le _ _ (grows (Live k))) in
    let here = sum_lt (λ kind. one_if (not (has (mask_at w at) kind))) (λ kind. one_if (not (has (mask_at v at) kind))) s.kinds k (λ kind h. one_le _ _ (grows (In at kind))) room.1 (one_lt _ _ none some) in
    let slots = sum_lt (λ slot. sum_below (λ kind. one_if (not (has (mask_at w slot) kind))) s.kinds) (λ slot. sum_below (λ kind. one_if (not (has (mask_at v slot) kind))) s.kinds) s.slots at
    (λ slot h. sum_le (λ kind. one_if (not (has (mask_at w slot) kind))) (λ kind. one_if (not (has (mask_at v slot) kind))) s.kinds (λ kind k. one_le _ _ (grows (In slot kind)))) room.0 here in
    subst (λ (sh : Shape). sum_below (λ k. one_if (not (has_fact w (Live k)))) sh.members + sum_below (λ slot. sum_below (λ kind. one_if (not (has (mask_at w slot) kind))) sh.kinds) sh.slots < missing v) shape
    (omega arith)

-- reads that agree are up to date
pub agrees_within : (w : Facts) (rs : List SlotRead) → Agrees rs w → all_within w rs ≡ true
agrees_within w [] h = refl
agrees_within w (r ∷ rs) h = rw (same_within r.mask (mask_at w r.slot) (sym h.0)) (agrees_within w rs h.1)

pub agrees_same : (w : Facts) (rs : List SlotRead) → Agrees rs w → all_same w rs ≡ true
agrees_same w [] h = refl
agrees_same w (r ∷ rs) h =
    let here : is_same r.mask (mask_at w r.slot) ≡ true = ap (λ (k : Kinds). is_same r.mask k) h.0 ∙ is_itself r.mask in
    rw here (agrees_same w rs h.1)

-- where nothing was added nobody wakes
quiet : (rs : List SlotRead) → is_raised [] rs ≡ false
quiet [] = refl
quiet (r ∷ rs) = quiet rs

quiet_settled : (o : Option Impact) → has_raised [] o ≡ false
quiet_settled None = refl
quiet_settled (Some j) = quiet j.reads

nobody : (settled : List (Option Impact)) (joined n : ℕ) → is_woken [] settled joined true n ≡ false
nobody settled joined n = rw (quiet_settled (get_or settled n None)) refl

none_where : (p : ℕ → Bool) (n : ℕ) → ((k : ℕ) → p k ≡ false) → numbers_where p n ≡ []
none_where p zero none = refl
none_where p (suc n) none = ap (λ b. numbers_where p n ++ cond b (n ∷ []) []) (none n) ∙ ap (λ xs. xs ++ []) (none_where p n none)

-- what is taken out is one less
without_less : (n : ℕ) (xs : List ℕ) → 0 < times n xs → length (without_node n xs) + 1 ≡ length xs
without_less n [] h = absurd (omega arith)
without_less n (x ∷ xs) h =
    ⊎_elim
    (λ (is : (nat_eq n x ≡ true) × (n ≡ x)). ap (λ b. length (cond b xs (x ∷ without_node n xs)) + 1) is.0 ∙ omega arith)
    (λ (is : (nat_eq n x ≡ false) × (n ≢ x)).
    let none : unit (nat_eq x n) ≡ 0 = ap unit (⊎_elim (λ (e : (nat_eq x n ≡ true) × (x ≡ n)). absurd (is.1 (sym e.1))) (λ (e : (nat_eq x n ≡ false) × (x ≢ n)). e.0) (eqb_tells x n)) in
    let some : 0 < times n xs = omega arith in
    let rest = without_less n xs some in
    ap (λ b. length (cond b xs (x ∷ without_node n xs)) + 1) is.0 ∙ omega arith)
    (eqb_tells n x)

-- no more members are pending than there are
apart_all : (x : ℕ) (xs : List ℕ) → times x xs ≡ 0 → AllByRecursion (λ y. nat_eq x y ≡ false) xs
apart_all x [] h = tt
apart_all x (y ∷ ys) h =
    ⊎_elim
    (λ (is : (nat_eq y x ≡ true) × (y ≡ x)). let here : unit (nat_eq y x) ≡ 1 = ap unit is.0 in absurd (omega arith))
    (λ (is : (nat_eq y x ≡ false) × (y ≢ x)).
    (⊎_elim (λ (e : (nat_eq x y ≡ true) × (x ≡ y)). absurd (is.1 (sym e.1))) (λ (e : (nat_eq x y ≡ false) × (x ≢ y)). e.0) (eqb_tells x y), apart_all x ys (omega arith)))
    (eqb_tells y x)

distinct_of : (xs : List ℕ) → ((n : ℕ) → times n xs ≤ 1) → IsDistinct nat_eq xs
unfolding IsDistinct
distinct_of [] each = tt
distinct_of (x ∷ xs) each =
    let one : unit (nat_eq x x) ≡ 1 = ap unit (eq-eqb x x refl) in
    let here = each x in
    (apart_all x xs (omega arith), distinct_of xs (λ n. let all = each n in omega arith))

some_times : (n : ℕ) (xs : List ℕ) → list_any (nat_eq n) xs ≡ true → 0 < times n xs
some_times n [] h = absurd (true≢false (sym h))
some_times n (x ∷ xs) h =
    ⊎_elim
    (λ (is : (nat_eq x n ≡ true) × (x ≡ n)). let here : unit (nat_eq x n) ≡ 1 = ap unit is.0 in omega arith)
    (λ (is : (nat_eq x n ≡ false) × (x ≢ n)).
    let other : nat_eq n x ≡ false = ⊎_elim (λ (e : (nat_eq n x ≡ true) × (n ≡ x)). absurd (is.1 (sym e.1))) (λ (e : (nat_eq n x ≡ false) × (n ≢ x)). e.0) (eqb_tells n x) in
    let rest = some_times n xs (ap (λ b. b || list_any (nat_eq n) xs) (sym other) ∙ h) in omega arith)
    (eqb_tells x n)

unit_le : (b : Bool) → unit b ≤ 1
unit_le true = omega arith
unit_le false = omega arith

pub pending_le : (s : State) → IsState s → length s.pending ≤ s.shape.members
pending_le s is =
    length-le_from_distinct_below s.pending s.shape.members
    (distinct_of s.pending (λ n. let all = is.places n in let most = unit_le (has_fact s.world (Live n)) in omega arith))
    (λ q h. pending_member s q is (some_times q s.pending h))

-- less is left where a fact came, or where one member fewer is pending
fewer_facts : (m p q a b : ℕ) → p < q → a ≤ m → p * (m + 1) + a < q * (m + 1) + b
fewer_facts m p q a b less within = let more = mul-le-mul_right {m = p + 1} {n = q} (m + 1) (omega arith) in omega arith

step_joined : (s : State) (j : Impact) → all_within s.world j.reads ≡ true → all_same s.world j.reads ≡ true → happens s (Join 0 j) ≡ accepted s 0 j true (absent_of s.world j.facts)
step_joined s j within same =
    ap (λ b. cond b (accepted s 0 j (all_same s.world j.reads) (absent_of s.world j.facts)) (returned s 0 j.member)) within ∙ ap (λ b. accepted s 0 j b (absent_of s.world j.facts)) same

joined_less : (s : State) (n : ℕ) (j : Impact) (added : List Fact) → IsState s → 0 < times n s.pending → AllByRecursion (InShape s.world.shape) j.facts → absent_of s.world j.facts ≡ added
    → IsState (accepted (happens s (Take 0 n)) 0 j true added) → work_left (accepted (happens s (Take 0 n)) 0 j true added) < work_left s
joined_less s n j [] is there room none after =
    let settled = settled_with s.settled j true in
    let world : with_facts s.world j.facts ≡ s.world = sym (with_absent s.world j.facts is.world room) ∙ ap (with_facts s.world) none in
    let lacks : missing (with_facts s.world j.facts) * (s.shape.members + 1) ≡ missing s.world * (s.shape.members + 1) = ap (λ w. missing w * (s.shape.members + 1)) world in
    let rest : length (without_node n s.pending ++ numbers_where (is_woken [] settled j.member true) s.shape.members) ≡ length (without_node n s.pending) =
    ap (λ xs. length (without_node n s.pending ++ xs)) (none_where (is_woken [] settled j.member true) s.shape.members (nobody settled j.member)) ∙ length-append (without_node n s.pending) [] ∙ omega arith in
    let fewer = without_less n s.pending there in
    omega arith
joined_less s n j (f ∷ added) is there room some after =
    let w = s.world in
    let all = absent_in_shape w j.facts is.world room in
    let first : AllByRecursion (InShape w.shape) (f ∷ added) = subst (AllByRecursion (InShape w.shape)) some all in
    let among : is_among (absent_of w j.facts) f ≡ true = ap (λ fs. is_among fs f) some ∙ or_true (same_fact f f) (is_among added f) (is_same_fact f) in
    let absent = absent_none w j.facts f is.world room among in
    let holds : has_fact (with_facts w j.facts) f ≡ true =
    ap (λ v. has_fact v f) (sym (with_absent w j.facts is.world room)) ∙ has_withs w (absent_of w j.facts) f is.world all ∙ or_true (is_among (absent_of w j.facts) f) (has_fact w f) among in
    let grows : (g : Fact) → has_fact w g ≡ true → has_fact (with_facts w j.facts) g ≡ true = λ g h. has_withs w j.facts g is.world room ∙ or_right (is_among j.facts g) (has_fact w g) h in
    let less = lacks_less w (with_facts w j.facts) f (sym (shape_withs w j.facts)) grows first.0 absent holds in
    let most = pending_le (accepted (happens s (Take 0 n)) 0 j true (f ∷ added)) after in
    fewer_facts s.shape.members (missing (with_facts w j.facts)) (missing w) (length (accepted (happens s (Take 0 n)) 0 j true (f ∷ added)).pending) (length s.pending) less most

-- a step alone leaves less work
pub step_less : (s : State) (n : ℕ) (j : Impact) → IsState s → 0 < times n s.pending → IsState (happens (happens s (Take 0 n)) (Join 0 j)) → AllByRecursion (InShape s.world.shape) j.facts → Agrees j.reads s.world
    → work_left (happens (happens s (Take 0 n)) (Join 0 j)) < work_left s
step_less s n j is there after room agrees =
    let event = step_joined (happens s (Take 0 n)) j (agrees_within s.world j.reads agrees) (agrees_same s.world j.reads agrees) in
    subst (λ (t : State). work_left t < work_left s) (sym event)
    (joined_less s n j (absent_of s.world j.facts) is there room refl (subst IsState event after))
