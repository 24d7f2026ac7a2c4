use Rattle.std.specs.Prelude.{◌⊎◌, ◌≡◌, ℕ, zero, suc, Bool, true, false, cond, List, [], ◌∷◌, ◌++◌, Option, None, Some, slice_get, slice_set, length}
use mathlib.Core.Logic.{inl, inr}
use mathlib.Core.Path.{refl, sym, ap, ◌∙◌, subst}
use Rattle.std.specs.Cmp.{IsEquivalence}
use Rattle.std.specs.List.{IsDistinct, AllByRecursion, list_any}
use Rattle.std.specs.Map.{lookup, keys_of, remove_entry}
use Rattle.indexmap.specs.IndexMap.{insert_entry}
use Rattle.std.proofs.lemmas.Option.{none-some, same_Some}
use Rattle.std.proofs.lemmas.Bool.{both_ways, cases_eq, cases_Bool}
use Rattle.std.proofs.lemmas.List.{map-append, length_push}
use Rattle.std.proofs.lemmas.Map.{lookup-remove_entry}
use Rattle.std.proofs.lemmas.Map.Entries.{lookup_head, lookup_tail}
use Rattle.std.proofs.lemmas.Map.Keys.{IsDistinct-head, IsDistinct-tail, IsDistinct-cons, IsDistinct-push}
use Rattle.store_lists.specs.Kept.{kept, HoldsKey, IsIndexed, value_in, with_value}
use Rattle.std.proofs.lemmas.Option.{slice_get_within}
use Rattle.std.proofs.lemmas.List.{set_at}
use Rattle.std.specs.Prelude.{◌<◌, ◌+◌, OnErr, Result, Ok, Err}

module _ {X : Type 0} where
  get_set_same : (xs : List X) (i : ℕ) (x y : X) → slice_get xs i ≡ Some y → slice_get (slice_set xs i x) i ≡ Some x
  get_set_same [] i x y h = absurd (none-some _ h)
  get_set_same (z ∷ xs) zero x y h = refl
  get_set_same (z ∷ xs) (suc i) x y h = get_set_same xs i x y h

  get_set_other : (xs : List X) (i j : ℕ) (x : X) → (j ≡ i → ⊥) → slice_get (slice_set xs i x) j ≡ slice_get xs j
  get_set_other [] i j x n = refl
  get_set_other (z ∷ xs) zero zero x n = absurd (n refl)
  get_set_other (z ∷ xs) zero (suc j) x n = refl
  get_set_other (z ∷ xs) (suc i) zero x n = refl
  get_set_other (z ∷ xs) (suc i) (suc j) x n = get_set_other xs i j x (λ e. n (ap suc e))

  get_push_same : (xs : List X) (x : X) → slice_get (xs ++ x ∷ []) (length xs) ≡ Some x
  get_push_same [] x = refl
  get_push_same (z ∷ xs) x = get_push_same xs x

  get_push : (xs : List X) (x y : X) (i : ℕ) → slice_get xs i ≡ Some y → slice_get (xs ++ x ∷ []) i ≡ Some y
  get_push [] x y i h = absurd (none-some _ h)
  get_push (z ∷ xs) x y zero h = h
  get_push (z ∷ xs) x y (suc i) h = get_push xs x y i h

  cond_none_value : (b : Bool) (o : Option X) (v w : X) → cond b (Some v) o ≡ None → cond b (Some w) o ≡ None
  cond_none_value true o v w h = absurd (none-some _ (sym h))
  cond_none_value false o v w h = h

  cond_none_rest : (b : Bool) (o p : Option X) (v : X) → cond b (Some v) o ≡ None → (o ≡ None → p ≡ None) → cond b (Some v) p ≡ None
  cond_none_rest true o p v h f = absurd (none-some _ (sym h))
  cond_none_rest false o p v h f = f h

  cond_none_parts : (b : Bool) (o : Option X) (v : X) → cond b (Some v) o ≡ None → (b ≡ false) × (o ≡ None)
  cond_none_parts true o v h = absurd (none-some _ (sym h))
  cond_none_parts false o v h = (refl, h)

module _ {K V : Type 0} where
  pub kept_push : (slots : List (Option (K × V))) (e : K × V) → kept (slots ++ Some e ∷ []) ≡ kept slots ++ e ∷ []
  kept_push [] e = refl
  kept_push (None ∷ slots) e = kept_push slots e
  kept_push (Some x ∷ slots) e = ap (λ es. x ∷ es) (kept_push slots e)

  pub kept_pad : (slots : List (Option (K × V))) → kept (slots ++ None ∷ []) ≡ kept slots
  kept_pad [] = refl
  kept_pad (None ∷ slots) = kept_pad slots
  kept_pad (Some x ∷ slots) = ap (λ es. x ∷ es) (kept_pad slots)

  insert_here : (eq : K → K → Bool) (e : K × V) (es : List (K × V)) (q : K) (w : V) → eq q e.0 ≡ true → insert_entry eq (e ∷ es) q w ≡ (e.0, w) ∷ es
  insert_here eq e es q w t = rw t refl

  insert_past : (eq : K → K → Bool) (e : K × V) (es : List (K × V)) (q : K) (w : V) → eq q e.0 ≡ false → insert_entry eq (e ∷ es) q w ≡ e ∷ insert_entry eq es q w
  insert_past eq e es q w t = rw t refl

  remove_here : (test : K → Bool) (e : K × V) (es : List (K × V)) → test e.0 ≡ true → remove_entry test (e ∷ es) ≡ es
  remove_here test e es t = rw t refl

  remove_past : (test : K → Bool) (e : K × V) (es : List (K × V)) → test e.0 ≡ false → remove_entry test (e ∷ es) ≡ e ∷ remove_entry test es
  remove_past test e es t = rw t refl

  pub insert_new : (eq : K → K → Bool) (es : List (K × V)) (q : K) (w : V) → lookup (eq q) es ≡ None → insert_entry eq es q w ≡ es ++ (q, w) ∷ []
  insert_new eq [] q w h = refl
  insert_new eq (e ∷ es) q w h = let p = cond_none_parts (eq q e.0) _ _ h in insert_past eq e es q w p.0 ∙ ap (λ fs. e ∷ fs) (insert_new eq es q w p.1)

  pub remove_none : (test : K → Bool) (es : List (K × V)) → lookup test es ≡ None → remove_entry test es ≡ es
  remove_none test [] h = refl
  remove_none test (e ∷ es) h = let p = cond_none_parts (test e.0) _ _ h in remove_past test e es p.0 ∙ ap (λ fs. e ∷ fs) (remove_none test es p.1)

  lookup_push : (test : K → Bool) (es : List (K × V)) (q : K) (w : V) → lookup test es ≡ None → test q ≡ false → lookup test (es ++ (q, w) ∷ []) ≡ None
  lookup_push test [] q w h t = rw t refl
  lookup_push test (e ∷ es) q w h t = cond_none_rest (test e.0) _ _ _ h (λ n. lookup_push test es q w n t)

  any_from_none : (test : K → Bool) (es : List (K × V)) → lookup test es ≡ None → list_any test (keys_of es) ≡ false
  any_from_none test [] h = refl
  any_from_none test (e ∷ es) h = let p = cond_none_parts (test e.0) _ _ h in rw p.0 (any_from_none test es p.1)

  -- an entry in its slot changed, with its key as it was
  keys_set : (slots : List (Option (K × V))) (i : ℕ) (k : K) (v w : V) → slice_get slots i ≡ Some (Some (k, v)) → keys_of (kept (slice_set slots i (Some (k, w)))) ≡ keys_of (kept slots)
  keys_set [] i k v w h = refl
  keys_set (None ∷ slots) zero k v w h = absurd (none-some _ (same_Some _ _ h))
  keys_set (None ∷ slots) (suc i) k v w h = keys_set slots i k v w h
  keys_set (Some e ∷ slots) zero k v w h = ap (λ p. p.0 ∷ keys_of (kept slots)) (sym (same_Some e (k, v) (same_Some _ _ h)))
  keys_set (Some e ∷ slots) (suc i) k v w h = ap (λ ks. e.0 ∷ ks) (keys_set slots i k v w h)

  missing_set : (test : K → Bool) (slots : List (Option (K × V))) (i : ℕ) (k : K) (v w : V) → slice_get slots i ≡ Some (Some (k, v)) → lookup test (kept slots) ≡ None → lookup test (kept (slice_set slots i (Some (k, w)))) ≡ None
  missing_set test [] i k v w h n = refl
  missing_set test (None ∷ slots) zero k v w h n = absurd (none-some _ (same_Some _ _ h))
  missing_set test (None ∷ slots) (suc i) k v w h n = missing_set test slots i k v w h n
  missing_set test (Some e ∷ slots) zero k v w h n = cond_none_value (test k) _ v w (subst (λ (p : K × V). cond (test p.0) (Some p.1) (lookup test (kept slots)) ≡ None) (same_Some e (k, v) (same_Some _ _ h)) n)
  missing_set test (Some e ∷ slots) (suc i) k v w h n = cond_none_rest (test e.0) _ _ _ n (missing_set test slots i k v w h)

  all_emptied : (P : K → Type 0) (slots : List (Option (K × V))) (i : ℕ) → AllByRecursion P (keys_of (kept slots)) → AllByRecursion P (keys_of (kept (slice_set slots i None)))
  all_emptied P [] i a = a
  all_emptied P (None ∷ slots) zero a = a
  all_emptied P (None ∷ slots) (suc i) a = all_emptied P slots i a
  all_emptied P (Some e ∷ slots) zero a = a.1
  all_emptied P (Some e ∷ slots) (suc i) a = (a.0, all_emptied P slots i a.1)

  distinct_emptied : (eq : K → K → Bool) (slots : List (Option (K × V))) (i : ℕ) → IsDistinct eq (keys_of (kept slots)) → IsDistinct eq (keys_of (kept (slice_set slots i None)))
  distinct_emptied eq [] i d = d
  distinct_emptied eq (None ∷ slots) zero d = d
  distinct_emptied eq (None ∷ slots) (suc i) d = distinct_emptied eq slots i d
  distinct_emptied eq (Some e ∷ slots) zero d = IsDistinct-tail eq e.0 _ d
  distinct_emptied eq (Some e ∷ slots) (suc i) d = IsDistinct-cons eq e.0 _ (all_emptied (λ y. eq e.0 y ≡ false) slots i (IsDistinct-head eq e.0 _ d)) (distinct_emptied eq slots i (IsDistinct-tail eq e.0 _ d))

module _ {K V : Type 0} (eq : K → K → Bool) (q : K) where
  length_insert : (es : List (K × V)) (v w : V) → lookup (eq q) es ≡ Some v → length (insert_entry eq es q w) ≡ length es
  length_insert [] v w h = absurd (none-some _ h)
  length_insert (e ∷ es) v w h = go (cases_Bool (eq q e.0)) (length_insert es v w)
    where
      go : (eq q e.0 ≡ true) ⊎ (eq q e.0 ≡ false) → (lookup (eq q) es ≡ Some v → length (insert_entry eq es q w) ≡ length es) → length (insert_entry eq (e ∷ es) q w) ≡ length (e ∷ es)
      go (inl t) r = ap length (insert_here eq e es q w t)
      go (inr f) r = ap length (insert_past eq e es q w f) ∙ ap suc (r (sym (lookup_tail (eq q) e es f) ∙ h))

  length_remove : (es : List (K × V)) (v : V) → lookup (eq q) es ≡ Some v → suc (length (remove_entry (eq q) es)) ≡ length es
  length_remove [] v h = absurd (none-some _ h)
  length_remove (e ∷ es) v h = go (cases_Bool (eq q e.0)) (length_remove es v)
    where
      go : (eq q e.0 ≡ true) ⊎ (eq q e.0 ≡ false) → (lookup (eq q) es ≡ Some v → suc (length (remove_entry (eq q) es)) ≡ length es) → suc (length (remove_entry (eq q) (e ∷ es))) ≡ length (e ∷ es)
      go (inl t) r = ap (λ fs. suc (length fs)) (remove_here (eq q) e es t)
      go (inr f) r = ap (λ fs. suc (length fs)) (remove_past (eq q) e es f) ∙ ap suc (r (sym (lookup_tail (eq q) e es f) ∙ h))

module _ {K : Type 0} {eq : K → K → Bool} (laws : IsEquivalence eq) where
  first_apart : (q k x : K) → eq q k ≡ true → eq x k ≡ false → eq q x ≡ false
  first_apart q k x t f = laws.congr q k x t ∙ laws.symm k x ∙ f

module _ {K V : Type 0} {eq : K → K → Bool} (laws : IsEquivalence eq) where
  apart_at : (x : K) (slots : List (Option (K × V))) (i : ℕ) (k : K) (v : V) → AllByRecursion (λ y. eq x y ≡ false) (keys_of (kept slots)) → slice_get slots i ≡ Some (Some (k, v)) → eq x k ≡ false
  apart_at x [] i k v a h = absurd (none-some _ h)
  apart_at x (None ∷ slots) zero k v a h = absurd (none-some _ (same_Some _ _ h))
  apart_at x (None ∷ slots) (suc i) k v a h = apart_at x slots i k v a h
  apart_at x (Some e ∷ slots) zero k v a h = subst (λ (p : K × V). eq x p.0 ≡ false) (same_Some e (k, v) (same_Some _ _ h)) a.0
  apart_at x (Some e ∷ slots) (suc i) k v a h = apart_at x slots i k v a.1 h

  pub lookup_at : (q : K) (slots : List (Option (K × V))) (i : ℕ) (k : K) (v : V) → IsDistinct eq (keys_of (kept slots)) → slice_get slots i ≡ Some (Some (k, v)) → eq q k ≡ true → lookup (eq q) (kept slots) ≡ Some v
  lookup_at q [] i k v d h t = absurd (none-some _ h)
  lookup_at q (None ∷ slots) zero k v d h t = absurd (none-some _ (same_Some _ _ h))
  lookup_at q (None ∷ slots) (suc i) k v d h t = lookup_at q slots i k v d h t
  lookup_at q (Some e ∷ slots) zero k v d h t = subst (λ (p : K × V). lookup (eq q) (p ∷ kept slots) ≡ Some v) (sym (same_Some e (k, v) (same_Some _ _ h))) (lookup_head (eq q) (k, v) (kept slots) t)
  lookup_at q (Some e ∷ slots) (suc i) k v d h t =
      lookup_tail (eq q) e (kept slots) (first_apart laws q k e.0 t (apart_at e.0 slots i k v (IsDistinct-head eq e.0 _ d) h))
      ∙ lookup_at q slots i k v (IsDistinct-tail eq e.0 _ d) h t

  pub kept_set : (q : K) (slots : List (Option (K × V))) (i : ℕ) (k : K) (v w : V) → IsDistinct eq (keys_of (kept slots)) → slice_get slots i ≡ Some (Some (k, v)) → eq q k ≡ true → kept (slice_set slots i (Some (k, w))) ≡ insert_entry eq (kept slots) q w
  kept_set q [] i k v w d h t = absurd (none-some _ h)
  kept_set q (None ∷ slots) zero k v w d h t = absurd (none-some _ (same_Some _ _ h))
  kept_set q (None ∷ slots) (suc i) k v w d h t = kept_set q slots i k v w d h t
  kept_set q (Some e ∷ slots) zero k v w d h t = subst (λ (p : K × V). (k, w) ∷ kept slots ≡ insert_entry eq (p ∷ kept slots) q w) (sym (same_Some e (k, v) (same_Some _ _ h))) (sym (insert_here eq (k, v) (kept slots) q w t))
  kept_set q (Some e ∷ slots) (suc i) k v w d h t =
      ap (λ es. e ∷ es) (kept_set q slots i k v w (IsDistinct-tail eq e.0 _ d) h t)
      ∙ sym (insert_past eq e (kept slots) q w (first_apart laws q k e.0 t (apart_at e.0 slots i k v (IsDistinct-head eq e.0 _ d) h)))

  pub kept_emptied : (q : K) (slots : List (Option (K × V))) (i : ℕ) (k : K) (v : V) → IsDistinct eq (keys_of (kept slots)) → slice_get slots i ≡ Some (Some (k, v)) → eq q k ≡ true → kept (slice_set slots i None) ≡ remove_entry (eq q) (kept slots)
  kept_emptied q [] i k v d h t = absurd (none-some _ h)
  kept_emptied q (None ∷ slots) zero k v d h t = absurd (none-some _ (same_Some _ _ h))
  kept_emptied q (None ∷ slots) (suc i) k v d h t = kept_emptied q slots i k v d h t
  kept_emptied q (Some e ∷ slots) zero k v d h t = subst (λ (p : K × V). kept slots ≡ remove_entry (eq q) (p ∷ kept slots)) (sym (same_Some e (k, v) (same_Some _ _ h))) (sym (remove_here (eq q) (k, v) (kept slots) t))
  kept_emptied q (Some e ∷ slots) (suc i) k v d h t =
      ap (λ es. e ∷ es) (kept_emptied q slots i k v (IsDistinct-tail eq e.0 _ d) h t)
      ∙ sym (remove_past (eq q) e (kept slots) (first_apart laws q k e.0 t (apart_at e.0 slots i k v (IsDistinct-head eq e.0 _ d) h)))

  -- the steps of a map
  module _ (places : K → Option ℕ) (slots : List (Option (K × V))) (was : IsIndexed eq places slots) where
    pub padded : IsIndexed eq places (slots ++ None ∷ [])
    padded = record {
      found = λ q i e. let h = was.found q i e in record { key = h.key; value = h.value; there = get_push slots None _ i h.there; equal = h.equal };
      missing = λ q e. ap (lookup (eq q)) (kept_pad slots) ∙ was.missing q e;
      distinct = subst (λ es. IsDistinct eq (keys_of es)) (sym (kept_pad slots)) was.distinct;
    }

    module _ (q : K) where
      pub changed : (i : ℕ) (k : K) (v w : V) → slice_get slots i ≡ Some (Some (k, v)) → IsIndexed eq places (slice_set slots i (Some (k, w)))
      changed i k v w h = record {
        found = λ p j e. go p j (was.found p j e) (cases_eq j i);
        missing = λ p e. missing_set (eq p) slots i k v w h (was.missing p e);
        distinct = subst (IsDistinct eq) (sym (keys_set slots i k v w h)) was.distinct;
      }
        where
          go : (p : K) (j : ℕ) → HoldsKey eq p slots j → (j ≡ i) ⊎ (j ≡ i → ⊥) → HoldsKey eq p (slice_set slots i (Some (k, w))) j
          go p j old (inl s) =
              let same : old.key ≡ k = ap (λ (x : K × V). x.0) (same_Some (old.key, old.value) (k, v) (same_Some _ _ (sym old.there ∙ ap (slice_get slots) s ∙ h))) in
              record { key = k; value = w; there = ap (slice_get (slice_set slots i (Some (k, w)))) s ∙ get_set_same slots i _ _ h; equal = ap (eq p) (sym same) ∙ old.equal }
          go p j old (inr n) = record { key = old.key; value = old.value; there = get_set_other slots i j _ n ∙ old.there; equal = old.equal }

      module _ (now : K → Option ℕ) where
        pub emptied : (i : ℕ) (k : K) (v : V) → slice_get slots i ≡ Some (Some (k, v)) → eq q k ≡ true → ((p : K) → now p ≡ cond (eq q p) None (places p)) → IsIndexed eq now (slice_set slots i None)
        emptied i k v h t u = record {
          found = λ p j e. go p j (cases_Bool (eq q p)) (sym (u p) ∙ e);
          missing = λ p e. ap (lookup (eq p)) (kept_emptied q slots i k v was.distinct h t) ∙ lookup-remove_entry laws (eq q) (laws.congr q) p (kept slots) was.distinct ∙ gone p (eq q p) (sym (u p) ∙ e);
          distinct = distinct_emptied eq slots i was.distinct;
        }
          where
            gone : (p : K) (b : Bool) → cond b None (places p) ≡ None → cond b None (lookup (eq p) (kept slots)) ≡ None
            gone p true e = refl
            gone p false e = was.missing p e

            apart : (p : K) (j : ℕ) → eq q p ≡ false → (old : HoldsKey eq p slots j) → j ≡ i → ⊥
            apart p j f old s =
                let same : old.key ≡ k = ap (λ (x : K × V). x.0) (same_Some (old.key, old.value) (k, v) (same_Some _ _ (sym old.there ∙ ap (slice_get slots) s ∙ h))) in
                both_ways (eq q p) f (laws.congr q k p t ∙ laws.symm k p ∙ ap (eq p) (sym same) ∙ old.equal)

            go : (p : K) (j : ℕ) → (eq q p ≡ true) ⊎ (eq q p ≡ false) → cond (eq q p) None (places p) ≡ Some j → HoldsKey eq p (slice_set slots i None) j
            go p j (inl y) e = absurd (none-some j (sym (ap (λ b. cond b None (places p)) y) ∙ e))
            go p j (inr f) e =
                let old = was.found p j (sym (ap (λ b. cond b None (places p)) f) ∙ e) in
                record { key = old.key; value = old.value; there = get_set_other slots i j None (apart p j f old) ∙ old.there; equal = old.equal }

        pub added : (w : V) → places q ≡ None → ((p : K) → now p ≡ cond (eq q p) (Some (length slots)) (places p)) → IsIndexed eq now (slots ++ Some (q, w) ∷ [])
        added w n u = record {
          found = λ p j e. go p j (cases_Bool (eq q p)) (sym (u p) ∙ e);
          missing = λ p e. let parts = cond_none_parts (eq q p) _ _ (sym (u p) ∙ e) in ap (lookup (eq p)) (kept_push slots (q, w)) ∙ lookup_push (eq p) (kept slots) q w (was.missing p parts.1) (laws.symm p q ∙ parts.0);
          distinct = subst (λ es. IsDistinct eq (keys_of es)) (sym (kept_push slots (q, w))) (subst (IsDistinct eq) (sym (map-append (λ (e : K × V). e.0) (kept slots) ((q, w) ∷ []))) (IsDistinct-push laws (keys_of (kept slots)) q was.distinct (any_from_none (eq q) (kept slots) (was.missing q n))));
        }
          where
            go : (p : K) (j : ℕ) → (eq q p ≡ true) ⊎ (eq q p ≡ false) → cond (eq q p) (Some (length slots)) (places p) ≡ Some j → HoldsKey eq p (slots ++ Some (q, w) ∷ []) j
            go p j (inl y) e =
                let s : length slots ≡ j = same_Some _ _ (sym (ap (λ b. cond b (Some (length slots)) (places p)) y) ∙ e) in
                record { key = q; value = w; there = subst (λ n. slice_get (slots ++ Some (q, w) ∷ []) n ≡ Some (Some (q, w))) s (get_push_same slots (Some (q, w))); equal = laws.symm p q ∙ y }
            go p j (inr f) e =
                let old = was.found p j (sym (ap (λ b. cond b (Some (length slots)) (places p)) f) ∙ e) in
                record { key = old.key; value = old.value; there = get_push slots _ _ j old.there; equal = old.equal }

    module _ (q : K) (i : ℕ) (e : places q ≡ Some i) where
      pub found_within : i < length slots
      found_within = slice_get_within slots i _ (was.found q i e).there

      pub found_value : value_in (slice_get slots i) ≡ lookup (eq q) (kept slots)
      found_value = let h = was.found q i e in ap value_in h.there ∙ sym (lookup_at q slots i h.key h.value was.distinct h.there h.equal)

      pub changed_at : (w : V) → IsIndexed eq places (slice_set slots i (with_value (slice_get slots i) w))
      changed_at w = let h = was.found q i e in subst (λ (o : Option (Option (K × V))). IsIndexed eq places (slice_set slots i (with_value o w))) (sym h.there) (changed q i h.key h.value w h.there)

      pub kept_changed : (w : V) → kept (slice_set slots i (with_value (slice_get slots i) w)) ≡ insert_entry eq (kept slots) q w
      kept_changed w = let h = was.found q i e in ap (λ (o : Option (Option (K × V))). kept (slice_set slots i (with_value o w))) h.there ∙ kept_set q slots i h.key h.value w was.distinct h.there h.equal

      pub emptied_at : (now : K → Option ℕ) → ((p : K) → now p ≡ cond (eq q p) None (places p)) → IsIndexed eq now (slice_set slots i None)
      emptied_at now u = let h = was.found q i e in emptied q now i h.key h.value h.there h.equal u

      pub kept_gone : kept (slice_set slots i None) ≡ remove_entry (eq q) (kept slots)
      kept_gone = let h = was.found q i e in kept_emptied q slots i h.key h.value was.distinct h.there h.equal

      pub count_changed : (w : V) → length (kept slots) ≡ length (kept (slice_set slots i (with_value (slice_get slots i) w)))
      count_changed w = let h = was.found q i e in sym (ap length (kept_changed w) ∙ length_insert eq q (kept slots) h.value w (lookup_at q slots i h.key h.value was.distinct h.there h.equal))

      pub count_gone : suc (length (kept (slice_set slots i None))) ≡ length (kept slots)
      count_gone = let h = was.found q i e in ap (λ es. suc (length es)) kept_gone ∙ length_remove eq q (kept slots) h.value (lookup_at q slots i h.key h.value was.distinct h.there h.equal)

    module _ (q : K) (n : places q ≡ None) where
      pub kept_added : (w : V) → kept (slots ++ Some (q, w) ∷ []) ≡ insert_entry eq (kept slots) q w
      kept_added w = kept_push slots (q, w) ∙ sym (insert_new eq (kept slots) q w (was.missing q n))

      pub kept_absent : remove_entry (eq q) (kept slots) ≡ kept slots
      kept_absent = remove_none (eq q) (kept slots) (was.missing q n)

pub count_added : {K V : Type 0} (slots : List (Option (K × V))) (e : K × V) → length (kept (slots ++ Some e ∷ [])) ≡ length (kept slots) + 1
count_added slots e = ap length (kept_push slots e) ∙ length_push (kept slots) e

pub filled_last : {X : Type 0} (xs : List X) (x y : X) → slice_set (xs ++ y ∷ []) (length xs) x ≡ xs ++ x ∷ []
filled_last xs x y = set_at xs y [] x (length xs) refl

pub on_err : {T E : Type 0} {P : Type 0} (r : Result T E) → P → OnErr r P
on_err (Ok x) p = tt
on_err (Err x) p = p
