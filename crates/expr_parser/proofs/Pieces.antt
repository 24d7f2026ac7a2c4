-- The last piece of a text that is read, and the units behind it.
use Rattle.std.proofs.Common.{◌≡◌, ℕ, List, [], ◌∷◌, ◌++◌, refl, ap}
use Rattle.dart_grammar.specs.declared.trees.Interpolation.{Interpolation}
use Rattle.dart_grammar.specs.Trees.{first_of, with_behind}

pub behind_last : (vs : List ℕ) (ps : List Interpolation) (p : Interpolation) → with_behind vs (ps ++ p ∷ []) ≡ ps ++ record { value = p.value; behind = p.behind ++ vs } ∷ []
behind_last vs [] p = refl
behind_last vs (q ∷ []) p = refl
behind_last vs (q ∷ r ∷ ps) p = ap (λ (xs : List Interpolation). q ∷ xs) (behind_last vs (r ∷ ps) p)

pub first_stays : (us vs : List ℕ) (ps : List Interpolation) (p : Interpolation) → first_of us (ps ++ p ∷ []) vs ≡ us
first_stays us vs [] p = refl
first_stays us vs (q ∷ ps) p = refl
