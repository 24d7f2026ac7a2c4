-- The facts that a world lacks.
use Rattle.std.proofs.Common.{◌≡◌, Bool, true, false, not, cond, ◌&&◌, ◌||◌, List, [], ◌∷◌, refl, sym, ap, ◌∙◌, subst}
use Rattle.std.specs.List.{list_all, filter, AllByRecursion}
use Rattle.type_masks.proofs.Sets.{and_true}
use Rattle.world_state.specs.Facts.{InShape, same_fact, is_among, each_once}
use Rattle.world_state.specs.Worlds.{Facts, has_fact, with_fact, with_facts, absent_of, absent_along, IsWorld}
use Rattle.world_state.specs.declared.fact.Fact.{Fact}
use Rattle.world_state.proofs.WorldFacts.{has_with, world_with, shape_with, same_fact_is, with_again, absent_along_none, with_absent_along, absent_along_in_shape}

filter_kept : {X : Type 0} (p : X → Bool) (x : X) (xs : List X) → p x ≡ true → filter p (x ∷ xs) ≡ x ∷ filter p xs
filter_kept p x xs h = ap (λ b. cond b (x ∷ filter p xs) (filter p xs)) h

filter_dropped : {X : Type 0} (p : X → Bool) (x : X) (xs : List X) → p x ≡ false → filter p (x ∷ xs) ≡ filter p xs
filter_dropped p x xs h = ap (λ b. cond b (x ∷ filter p xs) (filter p xs)) h

by_test : (b : Bool) (P : Type 0) → (b ≡ true → P) → (b ≡ false → P) → P
by_test true P pass fail = pass refl
by_test false P pass fail = fail refl

-- two tests one after the other
filter_both : {X : Type 0} (p q r : X → Bool) (xs : List X) → ((x : X) → r x ≡ (q x && p x)) → filter q (filter p xs) ≡ filter r xs
filter_both p q r [] each = refl
filter_both p q r (x ∷ xs) each =
    let rest = filter_both p q r xs each in
    by_test (p x) (filter q (filter p (x ∷ xs)) ≡ filter r (x ∷ xs))
    (λ is. by_test (q x) (filter q (filter p (x ∷ xs)) ≡ filter r (x ∷ xs))
    (λ also. ap (filter q) (filter_kept p x xs is) ∙ filter_kept q x (filter p xs) also ∙ ap (λ ys. x ∷ ys) rest ∙ sym (filter_kept r x xs (each x ∙ ap (λ b. b && p x) also ∙ is)))
    (λ no. ap (filter q) (filter_kept p x xs is) ∙ filter_dropped q x (filter p xs) no ∙ rest ∙ sym (filter_dropped r x xs (each x ∙ ap (λ b. b && p x) no))))
    (λ no. ap (filter q) (filter_dropped p x xs no) ∙ rest ∙ sym (filter_dropped r x xs (each x ∙ ap (λ b. q x && b) no ∙ and_false (q x))))
  where
    and_false : (b : Bool) → (b && false) ≡ false
    and_false true = refl
    and_false false = refl

filter_swap : {X : Type 0} (p q : X → Bool) (xs : List X) → filter q (filter p xs) ≡ filter p (filter q xs)
filter_swap p q xs = filter_both p q (λ x. q x && p x) xs (λ x. refl) ∙ sym (filter_both q p (λ x. q x && p x) xs (λ x. and_comm (q x) (p x)))
  where
    and_comm : (a b : Bool) → (a && b) ≡ (b && a)
    and_comm true true = refl
    and_comm true false = refl
    and_comm false true = refl
    and_comm false false = refl

-- what fails one test need not be dropped by a stricter one
filter_weaker : (q : Fact → Bool) (f : Fact) (fs : List Fact) → q f ≡ false → filter q (filter (λ g. not (same_fact f g)) fs) ≡ filter q fs
filter_weaker q f [] none = refl
filter_weaker q f (g ∷ fs) none =
    let rest = filter_weaker q f fs none in
    by_test (same_fact f g) (filter q (filter (λ x. not (same_fact f x)) (g ∷ fs)) ≡ filter q (g ∷ fs))
    (λ same. ap (filter q) (filter_dropped (λ x. not (same_fact f x)) g fs (ap not same)) ∙ rest ∙ sym (filter_dropped q g fs (ap q (sym (same_fact_is f g same)) ∙ none)))
    (λ other. ap (filter q) (filter_kept (λ x. not (same_fact f x)) g fs (ap not other))
    ∙ ap (λ ys. cond (q g) (g ∷ ys) ys) rest)

once_filter : (q : Fact → Bool) (fs : List Fact) → filter q (each_once fs) ≡ each_once (filter q fs)
once_filter q [] = refl
once_filter q (f ∷ fs) =
    let rest = once_filter q fs in
    by_test (q f) (filter q (each_once (f ∷ fs)) ≡ each_once (filter q (f ∷ fs)))
    (λ is. filter_kept q f (filter (λ g. not (same_fact f g)) (each_once fs)) is
    ∙ ap (λ ys. f ∷ ys) (filter_swap (λ g. not (same_fact f g)) q (each_once fs) ∙ ap (filter (λ g. not (same_fact f g))) rest)
    ∙ sym (ap each_once (filter_kept q f fs is)))
    (λ no. filter_dropped q f (filter (λ g. not (same_fact f g)) (each_once fs)) no ∙ filter_weaker q f (each_once fs) no ∙ rest ∙ sym (ap each_once (filter_dropped q f fs no)))

not_or : (a b : Bool) → not (a || b) ≡ (not a && not b)
not_or true b = refl
not_or false b = refl

-- adding each in turn tells the facts that were absent before
pub absent_is : (w : Facts) (fs : List Fact) → IsWorld w → AllByRecursion (InShape w.shape) fs → absent_along w fs ≡ absent_of w fs
absent_is w [] is room = refl
absent_is w (f ∷ fs) is room =
    by_test (has_fact w f) (absent_along w (f ∷ fs) ≡ absent_of w (f ∷ fs))
    (λ held. ap (λ b. cond b (absent_along w fs) (f ∷ absent_along (with_fact w f) fs)) held ∙ absent_is w fs is room.1 ∙ sym (ap each_once (filter_dropped (λ g. not (has_fact w g)) f fs (ap not held))))
    (λ none. ap (λ b. cond b (absent_along w fs) (f ∷ absent_along (with_fact w f) fs)) none
    ∙ ap (λ ys. f ∷ ys)
    (absent_is (with_fact w f) fs (world_with w f is room.0) (subst (λ s. AllByRecursion (InShape s) fs) (sym (shape_with w f)) room.1)
    ∙ ap each_once (sym (filter_both (λ g. not (has_fact w g)) (λ g. not (same_fact f g)) (λ g. not (has_fact (with_fact w f) g)) fs
    (λ g. ap not (has_with w f g is.slots room.0) ∙ not_or (same_fact f g) (has_fact w g))))
    ∙ sym (once_filter (λ g. not (same_fact f g)) (filter (λ g. not (has_fact w g)) fs)))
    ∙ sym (ap each_once (filter_kept (λ g. not (has_fact w g)) f fs (ap not none))))

pub with_absent : (w : Facts) (fs : List Fact) → IsWorld w → AllByRecursion (InShape w.shape) fs → with_facts w (absent_of w fs) ≡ with_facts w fs
with_absent w fs is room = ap (with_facts w) (sym (absent_is w fs is room)) ∙ with_absent_along w fs

pub absent_in_shape : (w : Facts) (fs : List Fact) → IsWorld w → AllByRecursion (InShape w.shape) fs → AllByRecursion (InShape w.shape) (absent_of w fs)
absent_in_shape w fs is room = subst (AllByRecursion (InShape w.shape)) (absent_is w fs is room) (absent_along_in_shape w fs room)

pub absent_none : (w : Facts) (fs : List Fact) (g : Fact) → IsWorld w → AllByRecursion (InShape w.shape) fs → is_among (absent_of w fs) g ≡ true → has_fact w g ≡ false
absent_none w fs g is room h = absent_along_none w fs g is room (ap (λ xs. is_among xs g) (absent_is w fs is room) ∙ h)

-- where all hold nothing is absent, and nothing changes
pub absent_nothing : (w : Facts) (fs : List Fact) → list_all (has_fact w) fs ≡ true → absent_of w fs ≡ []
absent_nothing w [] all = refl
absent_nothing w (f ∷ fs) all =
    let both = and_true (has_fact w f) (list_all (has_fact w) fs) all in
    ap each_once (filter_dropped (λ g. not (has_fact w g)) f fs (ap not both.0)) ∙ absent_nothing w fs both.1

pub withs_again : (w : Facts) (fs : List Fact) → list_all (has_fact w) fs ≡ true → with_facts w fs ≡ w
withs_again w [] all = refl
withs_again w (f ∷ fs) all =
    let both = and_true (has_fact w f) (list_all (has_fact w) fs) all in
    ap (λ v. with_facts v fs) (with_again w f both.0) ∙ withs_again w fs both.1
