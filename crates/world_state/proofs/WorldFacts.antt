-- What a world has after facts are added.
use Rattle.std.proofs.Common.{◌≡◌, ◌≢◌, ℕ, ◌+◌, ◌<◌, Bool, true, false, cond, ◌&&◌, ◌||◌, List, [], ◌∷◌, ◌++◌, length, refl, sym, ap, ◌∙◌, arith, subst, ⊎_elim, get_or, set, replicate, drop, append_assoc}
use Rattle.std.proofs.lemmas.Bool.{eq-eqb, eqb-true, true≢false, cases_lt}
use Rattle.std.proofs.lemmas.Bool.Decides.{eqb_tells}
use Rattle.std.proofs.lemmas.List.{get_or-set_same, get_or-set_other, set-get_or, length-set, get_or-replicate, get_or_past, length-replicate, drop_more}
use Rattle.std.specs.Prelude.{nat_eq}
use Rattle.std.specs.List.{list_any, AllByRecursion}
use Rattle.std.specs.Ordering.{nat_cmp}
use Rattle.std.specs.Cmp.{nat_cmp_total}
use Rattle.std.specs.FinSet as sets
use Rattle.type_masks.specs.Masks.{Kinds, has, with_kind, is_within, is_same}
use Rattle.world_state.specs.Facts.{InShape, same_fact, is_among, is_of_slot}
use Rattle.world_state.specs.Worlds.{Facts, no_kinds, mask_at, has_fact, with_fact, with_facts, absent_along, IsWorld, empty_of}
use Rattle.world_state.specs.Pages.{nothing_below}
use Rattle.type_masks.specs.declared.shape.Shape.{Shape}
use Rattle.world_state.specs.declared.fact.Fact.{Fact}
use Rattle.world_state.specs.declared.fact.Fact.TheVariants.{In, Live}
use Rattle.type_masks.proofs.Sets.{same_bool, and_true, or_cases, insert_again, contains_insert}

pub or_none_right : (a b : Bool) → (a || b) ≡ false → b ≡ false
or_none_right true b h = absurd (true≢false h)
or_none_right false b h = h

pub or_none_left : (a b : Bool) → (a || b) ≡ false → a ≡ false
or_none_left true b h = absurd (true≢false h)
or_none_left false b h = refl

-- masks
pub within_from : (a b : Kinds) → ((k : ℕ) → has a k ≡ true → has b k ≡ true) → is_within a b ≡ true
within_from a b each = sets.contains-is_subset nat_cmp_total a.set b.set each

pub within_has : (a b : Kinds) → is_within a b ≡ true → (k : ℕ) → has a k ≡ true → has b k ≡ true
within_has a b sub k h = sets.is_subset-contains nat_cmp_total a.set b.set sub k h

pub same_set_from : (a b : sets.FinSet nat_cmp) → ((k : ℕ) → sets.contains a k ≡ true → sets.contains b k ≡ true) → ((k : ℕ) → sets.contains b k ≡ true → sets.contains a k ≡ true) → a ≡ b
same_set_from a b to from = sets.same_set nat_cmp_total sets.nat_cmp-IsAntisymmetric a b (λ k. same_bool _ _ (to k) (from k))

pub same_is : (a b : Kinds) → is_same a b ≡ true → a ≡ b
same_is a b h =
    let parts = and_true (nat_eq a.bound b.bound) (sets.is_subset a.set b.set && sets.is_subset b.set a.set) h in
    let subs = and_true (sets.is_subset a.set b.set) (sets.is_subset b.set a.set) parts.1 in
    let bound : a.bound ≡ b.bound = eqb-true a.bound b.bound parts.0 in
    let members : a.set ≡ b.set = same_set_from a.set b.set (within_has a b subs.0) (within_has b a subs.1) in
    λ i. record { bound = bound i; set = members i }

pub is_itself : (a : Kinds) → is_same a a ≡ true
is_itself a =
    let sub : is_within a a ≡ true = within_from a a (λ k h. h) in
    ap (λ t. t && (is_within a a && is_within a a)) (eq-eqb a.bound a.bound refl) ∙ ap (λ t. t && is_within a a) sub ∙ sub

pub same_within : (a b : Kinds) → a ≡ b → is_within a b ≡ true
same_within a b h = within_from a b (λ k one. subst (λ (m : Kinds). has m k ≡ true) h one)

-- facts
pub same_fact_is : (f g : Fact) → same_fact f g ≡ true → f ≡ g
same_fact_is (In a b) (In c d) h =
    let parts = and_true (nat_eq a c) (nat_eq b d) h in
    let slots = eqb-true a c parts.0 in
    let kinds = eqb-true b d parts.1 in
    λ i. In (slots i) (kinds i)
same_fact_is (In a b) (Live m) h = absurd (true≢false (sym h))
same_fact_is (Live m) (In c d) h = absurd (true≢false (sym h))
same_fact_is (Live m) (Live n) h = ap Live (eqb-true m n h)

pub is_same_fact : (f : Fact) → same_fact f f ≡ true
is_same_fact (In a b) = ap (λ t. t && nat_eq b b) (eq-eqb a a refl) ∙ eq-eqb b b refl
is_same_fact (Live m) = eq-eqb m m refl

eq_sym : (a b : ℕ) → nat_eq a b ≡ nat_eq b a
eq_sym a b = same_bool (nat_eq a b) (nat_eq b a) (λ h. eq-eqb b a (sym (eqb-true a b h))) (λ h. eq-eqb a b (sym (eqb-true b a h)))

-- what a world has with one fact more
pub has_with : (w : Facts) (f g : Fact) → length w.masks ≡ w.shape.slots → InShape w.shape f → has_fact (with_fact w f) g ≡ (same_fact f g || has_fact w g)
has_with w (In s k) (In t j) slots room =
    ⊎_elim
    (λ (is : (nat_eq s t ≡ true) × (s ≡ t)).
    let within : s < length w.masks = omega (arith, slots, room) in
    let mine : mask_at (with_fact w (In s k)) s ≡ with_kind (mask_at w s) k = get_or-set_same w.masks s (with_kind (mask_at w s) k) no_kinds within in
    subst (λ t. has (mask_at (with_fact w (In s k)) t) j ≡ ((nat_eq s t && nat_eq k j) || has (mask_at w t) j)) is.1
    (ap (λ (m : Kinds). has m j) mine ∙ contains_insert (mask_at w s).set k j ∙ ap (λ b. b || has (mask_at w s) j) (eq_sym j k ∙ ap (λ b. b && nat_eq k j) (sym (eq-eqb s s refl)))))
    (λ (is : (nat_eq s t ≡ false) × (s ≢ t)).
    let other : t ≢ s = λ e. is.1 (sym e) in
    ap (λ (m : Kinds). has m j) (get_or-set_other w.masks s t (with_kind (mask_at w s) k) no_kinds other) ∙ ap (λ b. (b && nat_eq k j) || has (mask_at w t) j) (sym is.0))
    (eqb_tells s t)
has_with w (In s k) (Live n) slots room = refl
has_with w (Live m) (In t j) slots room = refl
has_with w (Live m) (Live n) slots room = contains_insert w.live m n ∙ ap (λ b. b || sets.contains w.live n) (eq_sym n m)

pub shape_with : (w : Facts) (f : Fact) → (with_fact w f).shape ≡ w.shape
shape_with w (In s k) = refl
shape_with w (Live m) = refl

length_with : (w : Facts) (f : Fact) → length (with_fact w f).masks ≡ length w.masks
length_with w (In s k) = length-set w.masks s (with_kind (mask_at w s) k)
length_with w (Live m) = refl

bound_with : (w : Facts) (f : Fact) (slot : ℕ) → (mask_at (with_fact w f) slot).bound ≡ (mask_at w slot).bound
bound_with w (In s k) t =
    ⊎_elim
    (λ (is : (nat_eq s t ≡ true) × (s ≡ t)).
    ⊎_elim
    (λ (within : s < length w.masks). subst (λ t. (mask_at (with_fact w (In s k)) t).bound ≡ (mask_at w t).bound) is.1 (ap (λ (m : Kinds). m.bound) (get_or-set_same w.masks s (with_kind (mask_at w s) k) no_kinds within)))
    (λ past. subst (λ t. (mask_at (with_fact w (In s k)) t).bound ≡ (mask_at w t).bound) is.1
    (ap (λ (m : Kinds). m.bound) (get_or_past (set w.masks s (with_kind (mask_at w s) k)) s no_kinds (omega (arith, length-set w.masks s (with_kind (mask_at w s) k), past)) ∙ sym (get_or_past w.masks s no_kinds past))))
    (cases_lt s (length w.masks)))
    (λ (is : (nat_eq s t ≡ false) × (s ≢ t)).
    let other : t ≢ s = λ e. is.1 (sym e) in
    ap (λ (m : Kinds). m.bound) (get_or-set_other w.masks s t (with_kind (mask_at w s) k) no_kinds other))
    (eqb_tells s t)
bound_with w (Live m) t = refl

pub world_with : (w : Facts) (f : Fact) → IsWorld w → InShape w.shape f → IsWorld (with_fact w f)
world_with w f is room =
    record {
      slots = length_with w f ∙ is.slots ∙ ap (λ (s : Shape). s.slots) (sym (shape_with w f));
      bounds = λ slot below.
          bound_with w f slot
          ∙ is.bounds slot (subst (λ (s : Shape). slot < s.slots) (shape_with w f) below)
          ∙ ap (λ (s : Shape). s.kinds) (sym (shape_with w f));
      inside = λ g h.
          let old : InShape w.shape g =
          ⊎_elim (λ same. subst (λ x. InShape w.shape x) (same_fact_is f g same) room) (λ old. is.inside g old) (or_cases (same_fact f g) (has_fact w g) (sym (has_with w f g is.slots room) ∙ h)) in
          subst (λ s. InShape s g) (sym (shape_with w f)) old;
    }

-- the facts lie in the world's shape
abbrev pub AreInShape : Facts → List Fact → Type 0
AreInShape w fs = AllByRecursion (InShape w.shape) fs

rest_in : (w : Facts) (f : Fact) (fs : List Fact) → AllByRecursion (InShape w.shape) fs → AllByRecursion (InShape (with_fact w f).shape) fs
rest_in w f fs h = subst (λ s. AllByRecursion (InShape s) fs) (sym (shape_with w f)) h

pub shape_withs : (w : Facts) (fs : List Fact) → (with_facts w fs).shape ≡ w.shape
shape_withs w [] = refl
shape_withs w (f ∷ fs) = shape_withs (with_fact w f) fs ∙ shape_with w f

pub world_withs : (w : Facts) (fs : List Fact) → IsWorld w → AllByRecursion (InShape w.shape) fs → IsWorld (with_facts w fs)
world_withs w [] is room = is
world_withs w (f ∷ fs) is room = world_withs (with_fact w f) fs (world_with w f is room.0) (rest_in w f fs room.1)

or_assoc : (a b c : Bool) → (a || (b || c)) ≡ ((b || a) || c)
or_assoc true true c = refl
or_assoc true false c = refl
or_assoc false true c = refl
or_assoc false false c = refl

pub has_withs : (w : Facts) (fs : List Fact) (g : Fact) → IsWorld w → AllByRecursion (InShape w.shape) fs → has_fact (with_facts w fs) g ≡ (is_among fs g || has_fact w g)
has_withs w [] g is room = refl
has_withs w (f ∷ fs) g is room =
    has_withs (with_fact w f) fs g (world_with w f is room.0) (rest_in w f fs room.1)
    ∙ ap (λ b. is_among fs g || b) (has_with w f g is.slots room.0)
    ∙ or_assoc (is_among fs g) (same_fact f g) (has_fact w g)

-- a fact that holds changes nothing
pub with_again : (w : Facts) (f : Fact) → has_fact w f ≡ true → with_fact w f ≡ w
with_again w (In s k) h =
    let mask : with_kind (mask_at w s) k ≡ mask_at w s = λ i. record { bound = (mask_at w s).bound; set = insert_again (mask_at w s).set k h i } in
    let masks : set w.masks s (with_kind (mask_at w s) k) ≡ w.masks = ap (λ m. set w.masks s m) mask ∙ set-get_or w.masks s no_kinds in
    λ i. record { shape = w.shape; masks = masks i; live = w.live }
with_again w (Live m) h = λ i. record { shape = w.shape; masks = w.masks; live = insert_again w.live m h i }

pub with_absent_along : (w : Facts) (fs : List Fact) → with_facts w (absent_along w fs) ≡ with_facts w fs
with_absent_along w [] = refl
with_absent_along w (f ∷ fs) =
    elim (has_fact w f) as (λ b. has_fact w f ≡ b → with_facts w (cond b (absent_along w fs) (f ∷ absent_along (with_fact w f) fs)) ≡ with_facts (with_fact w f) fs) [
      | true ↦ λ held. with_absent_along w fs ∙ ap (λ v. with_facts v fs) (sym (with_again w f held))
      | false ↦ λ _. with_absent_along (with_fact w f) fs
    ] refl

pub absent_along_in_shape : (w : Facts) (fs : List Fact) → AllByRecursion (InShape w.shape) fs → AllByRecursion (InShape w.shape) (absent_along w fs)
absent_along_in_shape w [] room = room
absent_along_in_shape w (f ∷ fs) room =
    elim (has_fact w f) as (λ b. AllByRecursion (InShape w.shape) (cond b (absent_along w fs) (f ∷ absent_along (with_fact w f) fs))) [
      | true ↦ absent_along_in_shape w fs room.1
      | false ↦ (room.0, subst (λ s. AllByRecursion (InShape s) (absent_along (with_fact w f) fs)) (shape_with w f) (absent_along_in_shape (with_fact w f) fs (rest_in w f fs room.1)))
    ]

-- what is absent did not hold
pub absent_along_none : (w : Facts) (fs : List Fact) (g : Fact) → IsWorld w → AllByRecursion (InShape w.shape) fs → is_among (absent_along w fs) g ≡ true → has_fact w g ≡ false
absent_along_none w [] g is room h = absurd (true≢false (sym h))
absent_along_none w (f ∷ fs) g is room h =
    elim (has_fact w f) as (λ b. has_fact w f ≡ b → is_among (cond b (absent_along w fs) (f ∷ absent_along (with_fact w f) fs)) g ≡ true → has_fact w g ≡ false) [
      | true ↦ λ _ one. absent_along_none w fs g is room.1 one
      | false ↦ λ none one.
          ⊎_elim (λ same. subst (λ x. has_fact w x ≡ false) (same_fact_is f g same) none)
          (λ later.
          let no = absent_along_none (with_fact w f) fs g (world_with w f is room.0) (rest_in w f fs room.1) later in
          or_none_right (same_fact f g) (has_fact w g) (sym (has_with w f g is.slots room.0) ∙ no))
          (or_cases (same_fact f g) (is_among (absent_along (with_fact w f) fs) g) one)
    ] refl h

-- empty masks have no kind
pub empty_at : (count bound slot : ℕ) → (get_or (replicate count (nothing_below bound)) slot no_kinds).set ≡ sets.empty
empty_at count bound slot =
    ⊎_elim (λ below. ap (λ (k : Kinds). k.set) (get_or-replicate count slot (nothing_below bound) no_kinds below))
    (λ past. ap (λ (k : Kinds). k.set) (get_or_past (replicate count (nothing_below bound)) slot no_kinds (omega (arith, length-replicate count (nothing_below bound), past))))
    (cases_lt slot count)

pub none_in_empty : (s : Shape) (f : Fact) → has_fact (empty_of s) f ≡ false
none_in_empty s (In slot kind) = ap (λ t. sets.contains t kind) (empty_at s.slots s.kinds slot) ∙ sets.contains-empty nat_cmp kind
none_in_empty s (Live m) = sets.contains-empty nat_cmp m

pub world_empty : (s : Shape) → IsWorld (empty_of s)
world_empty s =
    record {
      slots = length-replicate s.slots (nothing_below s.kinds);
      bounds = λ slot below. ap (λ (k : Kinds). k.bound) (get_or-replicate s.slots slot (nothing_below s.kinds) no_kinds below);
      inside = λ f h. absurd (true≢false (sym h ∙ none_in_empty s f));
    }

-- w has the facts of all but the rest, and these were added
pub record IsGrown (from : Facts) (all : List Fact) (w : Facts) (added rest : List Fact) : Type 0 where
  pub shape : w.shape ≡ from.shape
  pub room : AllByRecursion (InShape from.shape) rest
  pub world : with_facts w rest ≡ with_facts from all
  pub told : added ++ absent_along w rest ≡ absent_along from all

pub grown_next : {from w : Facts} {all added : List Fact} (xs : List Fact) (i : ℕ) (d : Fact) → i < length xs → IsGrown from all w added (drop i xs) → IsGrown from all w added (get_or xs i d ∷ drop (i + 1) xs)
grown_next {from} {w} {all} {added} xs i d within h = subst (λ rest. IsGrown from all w added rest) (drop_more xs i d within) h

pub grown_held : {from w : Facts} {all added rest : List Fact} {f : Fact} → IsGrown from all w added (f ∷ rest) → has_fact w f ≡ true → IsGrown from all w added rest
grown_held {from} {w} {all} {added} {rest} {f} h held =
    record {
      shape = h.shape;
      room = h.room.1;
      world = ap (λ v. with_facts v rest) (sym (with_again w f held)) ∙ h.world;
      told = ap (λ b. added ++ cond b (absent_along w rest) (f ∷ absent_along (with_fact w f) rest)) (sym held) ∙ h.told;
    }

pub grown_added : {from w : Facts} {all added rest : List Fact} {f : Fact} → IsGrown from all w added (f ∷ rest) → has_fact w f ≡ false → IsGrown from all (with_fact w f) (added ++ f ∷ []) rest
grown_added {from} {w} {all} {added} {rest} {f} h absent =
    record {
      shape = shape_with w f ∙ h.shape;
      room = h.room.1;
      world = h.world;
      told =
          append_assoc added (f ∷ []) (absent_along (with_fact w f) rest)
          ∙ ap (λ b. added ++ cond b (absent_along w rest) (f ∷ absent_along (with_fact w f) rest)) (sym absent)
          ∙ h.told;
    }

-- a slot that no added fact raises keeps its mask
pub mask_with : (w : Facts) (f : Fact) (slot : ℕ) → is_of_slot slot f ≡ false → mask_at (with_fact w f) slot ≡ mask_at w slot
mask_with w (In s k) slot h =
    get_or-set_other w.masks s slot (with_kind (mask_at w s) k) no_kinds (λ e. true≢false (sym (eq-eqb s slot (sym e)) ∙ h))
mask_with w (Live m) slot h = refl

pub mask_withs : (w : Facts) (fs : List Fact) (slot : ℕ) → list_any (is_of_slot slot) fs ≡ false → mask_at (with_facts w fs) slot ≡ mask_at w slot
mask_withs w [] slot h = refl
mask_withs w (f ∷ fs) slot h = mask_withs (with_fact w f) fs slot (or_none_right (is_of_slot slot f) _ h) ∙ mask_with w f slot (or_none_left (is_of_slot slot f) _ h)
