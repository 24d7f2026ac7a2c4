-- Sets that are joined class by class, from the top down, have exactly the supertypes.
use Rattle.std.proofs.Common.{◌≡◌, ℕ, zero, suc, ◌+◌, ◌<◌, ◌≤◌, ◌^◌, ◌==◌, Bool, true, false, List, [], ◌∷◌, ◌++◌, length, get_or, set, take, Option, Some, None, inl, inr, refl, sym, ap, ◌∙◌, subst, arith}
use Rattle.std.specs.Prelude.{◌⊎◌, ◌||◌, slice_get, option_and_then, is_some, MatchBool}
use Rattle.std.specs.List.{Contains, list_any}
use Rattle.std.proofs.lemmas.Bool.{true≢false, cases_lt, or_cases, or_left, or_right, eqb-true, eq-eqb}
use Rattle.std.proofs.lemmas.Bool.Decides.{eqb_tells}
use Rattle.std.proofs.lemmas.Option.{slice_get_past}
use Rattle.std.proofs.lemmas.List.{get_or-take, get_or_default, length-set, length-take-le, append_assoc}
use Rattle.std.proofs.lemmas.List.Folds.{list_any-append}
use Rattle.persistent_maps.specs.declared.maps.Map.{Map}
use Rattle.persistent_maps.specs.declared.maps.Maps.{Maps}
use Rattle.persistent_maps.specs.Maps.{bits_of, value_of, IsMapOf}
use Rattle.persistent_maps.specs.Gives.{Gives}
use Rattle.persistent_maps.proofs.Giving as giving
use Rattle.class_heads.specs.declared.nodes.ClassNode.{ClassNode}
use Rattle.class_heads.specs.Supertypes.{Classes, supertypes_of, named_by, IsAbove, next, further}
use Rattle.class_heads.specs.Origins.{IsSub}
use Rattle.supertypes.specs.declared.supertypes.Supertypes.{Supertypes}
use Rattle.supertypes.specs.Upward.{IsUpward}
use Rattle.supertypes.specs.Sets.{has, AreSupertypes}
use Rattle.supertypes.specs.Joined.{AreMaps, KeepsSets, HasAlso, IsUnionOf, IsSetOf, IsTable, IsTableTo}
use Rattle.supertypes.proofs.Climbing.{nothing_in, equal}

-- ---- tests

or_assoc : (a b c : Bool) → ((a || b) || c) ≡ (a || (b || c))
or_assoc true b c = refl
or_assoc false b c = refl

any_same : (p q : ℕ → Bool) → ((c : ℕ) → p c ≡ q c) → (xs : List ℕ) → list_any p xs ≡ list_any q xs
any_same p q same [] = refl
any_same p q same (x ∷ xs) = ap (λ b. b || list_any p xs) (same x) ∙ ap (λ b. q x || b) (any_same p q same xs)

any_of : (p : ℕ → Bool) (xs : List ℕ) → list_any p xs ≡ true → (x : ℕ) × Contains xs x × (p x ≡ true)
any_of p [] e = absurd (true≢false (sym e))
any_of p (x ∷ xs) e = by (or_cases (p x) (list_any p xs) e) (any_of p xs) where
  by : (p x ≡ true) ⊎ (list_any p xs ≡ true) → (list_any p xs ≡ true → (z : ℕ) × Contains xs z × (p z ≡ true)) → (z : ℕ) × Contains (x ∷ xs) z × (p z ≡ true)
  by (inl h) more = (x, (0, omega arith, refl), h)
  by (inr h) more = let z = more h in (z.0, (suc z.1.0, omega (arith, z.1.1), z.1.2), z.2)

any_from : (p : ℕ → Bool) (xs : List ℕ) (x : ℕ) → Contains xs x → p x ≡ true → list_any p xs ≡ true
any_from p [] x c h = absurd (nothing_in x c)
any_from p (y ∷ ys) x (zero, lt, e) h = or_left (p y) (list_any p ys) (ap p e ∙ h)
any_from p (y ∷ ys) x (suc k, lt, e) h = or_right (p y) (list_any p ys) (any_from p ys x (k, omega (arith, lt), e) h)

-- ---- what stays

abbrev in_set : Maps → ℕ → Option Map → Bool
in_set maps d o = is_some (option_and_then (λ m. value_of maps m d) o)

module _ (old new : Supertypes) (are : AreMaps old) (keeps : KeepsSets old new) where
  has_kept : (c d : ℕ) → has new c d ≡ has old c d
  has_kept c d = ap (λ sets. in_set new.maps d (slice_get sets c)) keeps.sets ∙ by (slice_get old.sets c) refl where
    by : (o : Option Map) → slice_get old.sets c ≡ o → in_set new.maps d o ≡ in_set old.maps d o
    by None e = refl
    by (Some m) e = ap (λ v. is_some v) (keeps.maps.values m (are.each c m e) d)

  maps_kept : AreMaps new
  maps_kept = record { each = λ c m e. keeps.maps.is_map m (are.each c m (ap (λ sets. slice_get sets c) (sym keeps.sets) ∙ e)) }

keeps_on : (a b c : Supertypes) → KeepsSets a b → KeepsSets b c → KeepsSets a c
keeps_on a b c g h = record { sets = h.sets ∙ g.sets; maps = giving.keeps_on g.maps h.maps }

-- ---- sets joined

also_on : (a b c : Supertypes) (m n o : Map) (xs ys : List ℕ) → AreMaps a → KeepsSets a b → HasAlso a b m n xs → HasAlso b c n o ys → HasAlso a c m o (xs ++ ys)
also_on a b c m n o xs ys are keeps g h =
    record {
      is_map = h.is_map;
      each = λ d.
          h.each d ∙ ap (λ v. v || list_any (λ s. has b s d) ys) (g.each d)
          ∙ or_assoc (is_some (value_of a.maps m d)) (list_any (λ s. has a s d) xs) (list_any (λ s. has b s d) ys)
          ∙ ap (λ v. is_some (value_of a.maps m d) || (list_any (λ s. has a s d) xs || v)) (any_same (λ s. has b s d) (λ s. has a s d) (λ s. has_kept a b are keeps s d) ys)
          ∙ ap (λ v. is_some (value_of a.maps m d) || v) (sym (list_any-append (λ s. has a s d) xs ys));
    }

pub union_of_three :
    (a b c e : Supertypes) (none m n o : Map) (xs ys zs : List ℕ) → AreMaps a → ((maps : Maps) → Gives maps none (λ key. None)) → KeepsSets a b → KeepsSets b c
    → HasAlso a b none m xs → HasAlso b c m n ys → HasAlso c e n o zs → IsUnionOf a e o (xs ++ (ys ++ zs))
union_of_three a b c e none m n o xs ys zs are gives ab bc f g h =
    let both : HasAlso a c none n (xs ++ ys) = also_on a b c none m n xs ys are ab f g in
    let all : HasAlso a e none o ((xs ++ ys) ++ zs) = also_on a c e none n o (xs ++ ys) zs are (keeps_on a b c ab bc) both h in
    subst (IsUnionOf a e o) (append_assoc xs ys zs)
    (record { is_map = all.is_map; each = λ d. all.each d ∙ ap (λ v. is_some v || list_any (λ s. has a s d) ((xs ++ ys) ++ zs)) ((gives a.maps).values d) })

pub union_of_named :
    (cs : Classes) (c : ℕ) (x : ClassNode) (t u : Supertypes) (made : Map) → Some x ≡ slice_get cs c → IsUnionOf t u made (named_by (Some x)) → IsUnionOf t u made (supertypes_of cs c)
unfolding supertypes_of
union_of_named cs c x t u made is h = subst (λ o. IsUnionOf t u made (named_by o)) is h

-- ---- all of them

module _ (cs : Classes) where
  past_none : (c d : ℕ) → length cs ≤ c → Contains (supertypes_of cs c) d → ⊥
  unfolding supertypes_of
  past_none c d le h = nothing_in d (subst (λ o. Contains (named_by o) d) (slice_get_past cs c le) h)

  named_within : (c d : ℕ) → Contains (supertypes_of cs c) d → c < length cs
  named_within c d h = elim (cases_lt c (length cs)) [ inl lt ↦ lt | inr le ↦ absurd (past_none c d le h) ]

  above_within : {c d : ℕ} → IsAbove cs c d → c < length cs
  above_within (next {c = c} {d = d} h) = named_within c d h
  above_within (further {c = c} {d = d} h r) = named_within c d h

  sub_within : (c d : ℕ) → d < length cs → IsSub cs c d → c < length cs
  sub_within c d lt (inl e) = subst (λ k. k < length cs) (sym e) lt
  sub_within c d lt (inr h) = above_within h

  -- as a test tells it, both ways
  abbrev Tells : Bool → Type 0 → Type 0
  Tells b P = (b ≡ true → P) × (P → b ≡ true)

  from_match : (b : Bool) (P : Type 0) → MatchBool b P (P → ⊥) → Tells b P
  from_match true P h = (λ e. h, λ p. refl)
  from_match false P h = (λ e. absurd (true≢false (sym e)), λ p. absurd (h p))

  to_match : (b : Bool) (P : Type 0) → Tells b P → MatchBool b P (P → ⊥)
  to_match true P h = h.0 refl
  to_match false P h = λ p. true≢false (sym (h.1 p))

  -- the set of a class, where those of what it names are right
  module _ (t : Supertypes) (c d : ℕ) (within : d < length cs) (rest : (s : ℕ) → Contains (supertypes_of cs c) s → s < length cs → Tells (has t s d) (IsSub cs s d)) (past : (s : ℕ) → length cs ≤ s → has t s d ≡ false) where
    abbrev new_has : Bool
    new_has = (d == c) || list_any (λ s. has t s d) (supertypes_of cs c)

    sub_from : new_has ≡ true → IsSub cs c d
    sub_from e = by (or_cases (d == c) (list_any (λ s. has t s d) (supertypes_of cs c)) e) where
      through : (s : ℕ) → Contains (supertypes_of cs c) s → IsSub cs s d → IsSub cs c d
      through s h (inl same) = inr (next (subst (Contains (supertypes_of cs c)) same h))
      through s h (inr above) = inr (further h above)

      by : ((d == c) ≡ true) ⊎ (list_any (λ s. has t s d) (supertypes_of cs c) ≡ true) → IsSub cs c d
      by (inl same) = inl (sym (eqb-true d c same))
      by (inr any) =
          let s = any_of (λ s. has t s d) (supertypes_of cs c) any in
          elim (cases_lt s.0 (length cs)) [
            | inl lt ↦ through s.0 s.1 ((rest s.0 s.1 lt).0 s.2)
            | inr le ↦ absurd (true≢false (sym s.2 ∙ past s.0 le))
          ]

    has_from : (s : ℕ) → Contains (supertypes_of cs c) s → IsSub cs s d → new_has ≡ true
    has_from s h sub = or_right (d == c) (list_any (λ s. has t s d) (supertypes_of cs c)) (any_from (λ s. has t s d) (supertypes_of cs c) s h ((rest s h (sub_within s d within sub)).1 sub))

    above_has : IsAbove cs c d → new_has ≡ true
    above_has (next h) = has_from d h (inl refl)
    above_has (further {d = s} h r) = has_from s h (inr r)

    sub_to : IsSub cs c d → new_has ≡ true
    sub_to (inl same) = or_left (d == c) (list_any (λ s. has t s d) (supertypes_of cs c)) (eq-eqb d c (sym same))
    sub_to (inr above) = above_has above

    tells_new : Tells new_has (IsSub cs c d)
    tells_new = (sub_from, sub_to)

  -- ---- the sets of an order

  set_same : (sets : List Map) (i : ℕ) (m : Map) → i < length sets → slice_get (set sets i m) i ≡ Some m
  set_same [] i m lt = absurd (omega (arith, lt))
  set_same (x ∷ xs) zero m lt = refl
  set_same (x ∷ xs) (suc i) m lt = set_same xs i m (omega (arith, lt))

  set_other : (sets : List Map) (i j : ℕ) (m : Map) → (j ≡ i → ⊥) → slice_get (set sets i m) j ≡ slice_get sets j
  set_other [] i j m other = refl
  set_other (x ∷ xs) zero zero m other = absurd (other refl)
  set_other (x ∷ xs) zero (suc j) m other = refl
  set_other (x ∷ xs) (suc i) zero m other = refl
  set_other (x ∷ xs) (suc i) (suc j) m other = set_other xs i j m (λ e. other (ap suc e))

  the_same : (m n : Map) → Some m ≡ Some n → m ≡ n
  the_same m n e = cc

  module _ (order : List ℕ) (up : IsUpward cs order) where
    is_class : (i c : ℕ) → i < length order → c ≡ get_or order i 0 → c < length cs
    is_class i c lt is = up.numbers c (i, lt, get_or_default order i c 0 lt ∙ sym is)

    pub is_key : (i c : ℕ) (t : Supertypes) → i < length order → c ≡ get_or order i 0 → IsTableTo cs order i t → c < 2 ^ bits_of t.maps
    is_key i c t lt is so = omega (arith, is_class i c lt is, so.table.keys)

    module _ (i c : ℕ) (t u : Supertypes) (made : Map) (lt : i < length order) (is : c ≡ get_or order i 0) (so : IsTableTo cs order i t) (keeps : KeepsSets t u) (makes : IsSetOf cs t u c made) where
      abbrev with_set : Supertypes
      with_set = record { maps = u.maps; sets = set u.sets c made }

      long : length u.sets ≡ length cs
      long = ap length keeps.sets ∙ so.table.long

      inside : c < length u.sets
      inside = subst (λ k. c < k) (sym long) (is_class i c lt is)

      with_maps : AreMaps with_set
      with_maps = record { each = each } where
        kept : AreMaps u
        kept = maps_kept t u so.table.maps keeps

        each : (s : ℕ) (m : Map) → slice_get (set u.sets c made) s ≡ Some m → IsMapOf u.maps m
        each s m e =
            elim (eqb_tells s c) [
              | inl same ↦ subst (IsMapOf u.maps) (the_same made m (sym (set_same u.sets c made inside) ∙ ap (λ k. slice_get (set u.sets c made) k) (sym same.1) ∙ e)) makes.is_map
              | inr other ↦ kept.each s m (sym (set_other u.sets c s made other.1) ∙ e)
            ]

      with_table : IsTable cs with_set
      with_table = record { long = length-set u.sets c made ∙ long; keys = subst (λ bits. length cs ≤ 2 ^ bits) (sym keeps.maps.bits) so.table.keys; maps = with_maps }

      past : (d s : ℕ) → length cs ≤ s → has t s d ≡ false
      past d s le = ap (in_set t.maps d) (slice_get_past t.sets s (subst (λ k. k ≤ s) (sym so.table.long) le))

      rest : (d : ℕ) → d < length cs → (s : ℕ) → Contains (supertypes_of cs c) s → s < length cs → Tells (has t s d) (IsSub cs s d)
      rest d within s h small = by (up.before i lt s (subst (λ k. Contains (supertypes_of cs k) s) is h) small) where
        by : Contains (take i order) s → Tells (has t s d) (IsSub cs s d)
        by (k, below, e) =
            let taken : length (take i order) ≡ i = length-take-le i order (omega (arith, lt)) in
            let earlier : k < i = omega (arith, below, taken) in
            let read : get_or order k 0 ≡ s = sym (get_or-take i order k 0 earlier) ∙ get_or_default (take i order) k 0 s below ∙ e in
            from_match (has t s d) (IsSub cs s d) (subst (λ k. MatchBool (has t k d) (IsSub cs k d) (IsSub cs k d → ⊥)) read (so.each k earlier d within))

      at_class : (d : ℕ) → d < length cs → MatchBool (has with_set c d) (IsSub cs c d) (IsSub cs c d → ⊥)
      at_class d within =
          let new : has with_set c d ≡ ((d == c) || list_any (λ s. has t s d) (supertypes_of cs c)) = ap (in_set u.maps d) (set_same u.sets c made inside) ∙ makes.each d in
          subst (λ b. MatchBool b (IsSub cs c d) (IsSub cs c d → ⊥)) (sym new)
          (to_match ((d == c) || list_any (λ s. has t s d) (supertypes_of cs c)) (IsSub cs c d) (tells_new t c d within (rest d within) (past d)))

      each_set : (k : ℕ) → k < i + 1 → (d : ℕ) → d < length cs → MatchBool (has with_set (get_or order k 0) d) (IsSub cs (get_or order k 0) d) (IsSub cs (get_or order k 0) d → ⊥)
      each_set k below d within =
          elim (eqb_tells (get_or order k 0) c) [
            | inl same ↦ subst (λ s. MatchBool (has with_set s d) (IsSub cs s d) (IsSub cs s d → ⊥)) (sym same.1) (at_class d within)
            | inr other ↦
                elim (cases_lt k i) [
                  | inl earlier ↦
                      let old : has with_set (get_or order k 0) d ≡ has t (get_or order k 0) d = ap (in_set u.maps d) (set_other u.sets c (get_or order k 0) made other.1) ∙ has_kept t u so.table.maps keeps (get_or order k 0) d in
                      subst (λ b. MatchBool b (IsSub cs (get_or order k 0) d) (IsSub cs (get_or order k 0) d → ⊥)) (sym old) (so.each k earlier d within)
                  | inr here ↦ absurd (other.1 (ap (λ j. get_or order j 0) (equal k i below here) ∙ sym is))
                ]
          ]

      pub one_set_more : (sets : List Map) → sets ≡ set u.sets c made → IsTableTo cs order (i + 1) (record { maps = u.maps; sets = sets })
      one_set_more sets e = subst (λ l. IsTableTo cs order (i + 1) (record { maps = u.maps; sets = l })) (sym e) (record { table = with_table; each = each_set })

      pub set_inside : c < length u.sets
      set_inside = inside

    pub all_sets : (n : ℕ) (t : Supertypes) → length order ≤ n → IsTableTo cs order n t → AreSupertypes cs t
    all_sets n t le so = record { each = each } where
      each : (c d : ℕ) → c < length cs → d < length cs → MatchBool (has t c d) (IsSub cs c d) (IsSub cs c d → ⊥)
      each c d small within = by (up.all c small) where
        by : Contains order c → MatchBool (has t c d) (IsSub cs c d) (IsSub cs c d → ⊥)
        by (k, lt, e) = subst (λ s. MatchBool (has t s d) (IsSub cs s d) (IsSub cs s d → ⊥)) (get_or_default order k 0 c lt ∙ e) (so.each k (omega (arith, lt, le)) d within)
