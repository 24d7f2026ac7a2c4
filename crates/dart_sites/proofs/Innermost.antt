-- The innermost scope.
use Rattle.std.proofs.Common.{◌≡◌, List, [], ◌∷◌, ◌++◌, refl, ap}
use Rattle.dart_sites.specs.declared.scopes.Scope.{Scope}
use Rattle.dart_sites.specs.Scopes.{outer}

pub outer_push : (xs : List Scope) (x : Scope) → outer (xs ++ x ∷ []) ≡ xs
outer_push [] x = refl
outer_push (y ∷ []) x = refl
outer_push (y ∷ z ∷ zs) x = ap (λ ws. y ∷ ws) (outer_push (z ∷ zs) x)
