-- One list among many, and the last item of a list.
use Rattle.std.specs.Prelude.{◌≡◌, ℕ, ◌+◌, ◌<◌, List, [], ◌∷◌, ◌++◌, Some, slice_set, slice_index_or, length}
use Rattle.std.specs.Option.{unwrap_or}
use mathlib.Core.Path.{refl, ap, ◌∙◌}
use native.Mathlib.Omega.{arith}
use Rattle.std.proofs.lemmas.Option.{slice_get-get_or}
use Rattle.std.proofs.lemmas.List.{set_past}
use Rattle.store_lists.specs.Lists.{list_at, last_item, all_but_last}

module _ {X : Type 0} where
  pub list_there : (lists : List (List X)) (a : ℕ) (d : List X) → a < length lists → list_at lists a ≡ slice_index_or lists a d
  list_there lists a d h = ap (λ o. unwrap_or o []) (slice_get-get_or lists a d h)

  pub set_nothing : (lists : List X) (a : ℕ) (x : X) → ¬ (a < length lists) → slice_set lists a x ≡ lists
  set_nothing lists a x h = set_past lists a x (omega arith)

  pub last_pushed : (xs : List X) (x : X) → last_item (xs ++ x ∷ []) ≡ Some x
  last_pushed [] x = refl
  last_pushed (y ∷ xs) x = ap (λ o. Some (unwrap_or o y)) (last_pushed xs x)

  pub front_pushed : (xs : List X) (x : X) → all_but_last (xs ++ x ∷ []) ≡ xs
  front_pushed [] x = refl
  front_pushed (y ∷ []) x = refl
  front_pushed (y ∷ z ∷ xs) x = ap (λ zs. y ∷ zs) (front_pushed (z ∷ xs) x)

  pub last_taken : (old new : List X) (x : X) → old ≡ new ++ x ∷ [] → last_item old ≡ Some x
  last_taken old new x h = ap last_item h ∙ last_pushed new x

  pub front_left : (old new : List X) (x : X) → old ≡ new ++ x ∷ [] → all_but_last old ≡ new
  front_left old new x h = ap all_but_last h ∙ front_pushed new x
