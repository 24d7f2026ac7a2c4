-- A list with another item at one place.
use Rattle.std.proofs.Common.{◌≡◌, ℕ, zero, suc, ◌<◌, List, [], ◌∷◌, length, set, Some, refl, ap, arith}
use Rattle.std.specs.Prelude.{slice_get}

pub place_same : {X : Type 0} (xs : List X) (i : ℕ) (y : X) → i < length xs → slice_get (set xs i y) i ≡ Some y
place_same [] i y lt = absurd (omega (arith, lt))
place_same (x ∷ xs) zero y lt = refl
place_same (x ∷ xs) (suc i) y lt = place_same xs i y (omega (arith, lt))

pub place_other : {X : Type 0} (xs : List X) (i j : ℕ) (y : X) → (j ≡ i → ⊥) → slice_get (set xs i y) j ≡ slice_get xs j
place_other [] i j y other = refl
place_other (x ∷ xs) zero zero y other = absurd (other refl)
place_other (x ∷ xs) zero (suc j) y other = refl
place_other (x ∷ xs) (suc i) zero y other = refl
place_other (x ∷ xs) (suc i) (suc j) y other = place_other xs i j y (λ e. other (ap suc e))
