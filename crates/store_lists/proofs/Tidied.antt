use Rattle.std.specs.Prelude.{◌≡◌, ℕ, zero, suc, ◌+◌, ◌<◌, Bool, false, List, [], ◌∷◌, ◌++◌, Option, None, Some, slice_get, slice_set, length, drop}
use mathlib.Core.Path.{refl, sym, ap, ◌∙◌, subst}
use native.Mathlib.Omega.{arith}
use Rattle.std.specs.Cmp.{IsEquivalence}
use Rattle.std.specs.List.{IsDistinct, AllByRecursion}
use Rattle.std.specs.Map.{lookup, keys_of}
use Rattle.indexmap.specs.IndexMap.{insert_entry}
use Rattle.std.proofs.lemmas.Option.{none-some, same_Some}
use Rattle.std.proofs.lemmas.List.{append_assoc, append-nil, drop-set-lt, drop_all}
use Rattle.std.proofs.lemmas.Map.Keys.{IsDistinct-head, IsDistinct-tail}
use Rattle.std.proofs.lemmas.Map.Entries.{lookup_tail}
use Rattle.store_lists.specs.Kept.{kept, with_key}
use Rattle.store_lists.proofs.KeptLemmas.{insert_new}

pub drop_at_place : {X : Type 0} (xs : List X) (i : ℕ) (x : X) → slice_get xs i ≡ Some x → drop i xs ≡ x ∷ drop (i + 1) xs
drop_at_place [] i x h = absurd (none-some _ h)
drop_at_place (y ∷ xs) zero x h = ap (λ z. z ∷ xs) (same_Some _ _ h)
drop_at_place (y ∷ xs) (suc i) x h = let n : suc i + 1 ≡ suc (i + 1) = omega arith in drop_at_place xs i x h ∙ ap (λ k. x ∷ drop k (y ∷ xs)) (sym n)

in_range : {X : Type 0} (xs : List X) (i : ℕ) → i < length xs → (x : X) × (slice_get xs i ≡ Some x)
in_range [] i l = absurd (omega arith)
in_range (x ∷ xs) zero l = (x, refl)
in_range (x ∷ xs) (suc i) l = in_range xs i (omega arith)

module _ {K V : Type 0} where
  pub kept_some : (slots : List (Option (K × V))) (i : ℕ) (e : K × V) → slice_get slots i ≡ Some (Some e) → kept (drop i slots) ≡ e ∷ kept (drop (i + 1) slots)
  kept_some slots i e h = ap kept (drop_at_place slots i (Some e) h)

  pub kept_none : (slots : List (Option (K × V))) (i : ℕ) → slice_get slots i ≡ Some None → kept (drop i slots) ≡ kept (drop (i + 1) slots)
  kept_none slots i h = ap kept (drop_at_place slots i None h)

  pub kept_end : (slots : List (Option (K × V))) (i : ℕ) → length slots ≡ i → kept (drop i slots) ≡ []
  kept_end slots i e = ap kept (drop_all i slots (omega arith))

  -- a loop that lists the keys
  pub keys_some : (keys : List K) (slots : List (Option (K × V))) (i : ℕ) (e : K × V) → slice_get slots i ≡ Some (Some e) → (keys ++ e.0 ∷ []) ++ keys_of (kept (drop (i + 1) slots)) ≡ keys ++ keys_of (kept (drop i slots))
  keys_some keys slots i e h = append_assoc keys (e.0 ∷ []) _ ∙ ap (λ es. keys ++ keys_of es) (sym (kept_some slots i e h))

  pub keys_none : (keys : List K) (slots : List (Option (K × V))) (i : ℕ) → slice_get slots i ≡ Some None → keys ++ keys_of (kept (drop (i + 1) slots)) ≡ keys ++ keys_of (kept (drop i slots))
  keys_none keys slots i h = ap (λ es. keys ++ keys_of es) (sym (kept_none slots i h))

  keys_case : (keys : List K) (slots : List (Option (K × V))) (i : ℕ) (o : Option (Option (K × V))) → i < length slots → slice_get slots i ≡ o → with_key keys o ++ keys_of (kept (drop (i + 1) slots)) ≡ keys ++ keys_of (kept (drop i slots))
  keys_case keys slots i None l h = absurd (none-some _ (sym h ∙ (in_range slots i l).1))
  keys_case keys slots i (Some None) l h = keys_none keys slots i h
  keys_case keys slots i (Some (Some e)) l h = keys_some keys slots i e h

  pub keys_step : (keys : List K) (slots : List (Option (K × V))) (i : ℕ) → i < length slots → with_key keys (slice_get slots i) ++ keys_of (kept (drop (i + 1) slots)) ≡ keys ++ keys_of (kept (drop i slots))
  keys_step keys slots i l = keys_case keys slots i (slice_get slots i) l refl

  pub keys_end : (keys : List K) (slots : List (Option (K × V))) (i : ℕ) → length slots ≡ i → keys ≡ keys ++ keys_of (kept (drop i slots))
  keys_end keys slots i e = sym (append-nil keys) ∙ ap (λ es. keys ++ keys_of es) (sym (kept_end slots i e))

  module _ {eq : K → K → Bool} (laws : IsEquivalence eq) where
    apart_middle : (x : K) (es : List (K × V)) (e : K × V) (fs : List (K × V)) → AllByRecursion (λ y. eq x y ≡ false) (keys_of (es ++ e ∷ fs)) → eq x e.0 ≡ false
    apart_middle x [] e fs a = a.0
    apart_middle x (d ∷ es) e fs a = apart_middle x es e fs a.1

    not_before : (es : List (K × V)) (e : K × V) (fs : List (K × V)) → IsDistinct eq (keys_of (es ++ e ∷ fs)) → lookup (eq e.0) es ≡ None
    not_before [] e fs d = refl
    not_before (x ∷ es) e fs d =
        lookup_tail (eq e.0) x es (laws.symm e.0 x.0 ∙ apart_middle x.0 es e fs (IsDistinct-head eq x.0 _ d))
        ∙ not_before es e fs (IsDistinct-tail eq x.0 _ d)

    pub moved : (done : List (K × V)) (slots : List (Option (K × V))) (i : ℕ) (k : K) (v : V) → IsDistinct eq (keys_of (done ++ kept (drop i slots))) → slice_get slots i ≡ Some (Some (k, v)) → insert_entry eq done k v ++ kept (drop (i + 1) (slice_set slots i None)) ≡ done ++ kept (drop i slots)
    moved done slots i k v d h =
        let some = kept_some slots i (k, v) h in
        let distinct = subst (λ es. IsDistinct eq (keys_of (done ++ es))) some d in
        ap (λ es. es ++ kept (drop (i + 1) (slice_set slots i None))) (insert_new eq done k v (not_before done (k, v) _ distinct))
        ∙ append_assoc done ((k, v) ∷ []) _
        ∙ ap (λ rest. done ++ (k, v) ∷ kept rest) (drop-set-lt (i + 1) slots i None (omega arith))
        ∙ ap (λ es. done ++ es) (sym some)

  pub passed : (done : List (K × V)) (slots : List (Option (K × V))) (i : ℕ) → slice_get slots i ≡ Some None → done ++ kept (drop (i + 1) (slice_set slots i None)) ≡ done ++ kept (drop i slots)
  passed done slots i h =
      ap (λ rest. done ++ kept rest) (drop-set-lt (i + 1) slots i None (omega arith))
      ∙ ap (λ es. done ++ es) (sym (kept_none slots i h))

  pub moved_all : (done : List (K × V)) (slots : List (Option (K × V))) (i : ℕ) → length slots ≡ i → done ≡ done ++ kept (drop i slots)
  moved_all done slots i e = sym (append-nil done) ∙ ap (λ es. done ++ es) (sym (kept_end slots i e))
