-- Sites with their surroundings, in the order in which they stand.
use Rattle.std.specs.Prelude.{List, [], ◌∷◌, ◌++◌, Option, Some, None}
use Rattle.std.specs.List.{flat_map}
use Rattle.dart_sites.specs.declared.sites.Site.{Site}
use Rattle.dart_sites.specs.declared.surroundings.Surroundings.{Surroundings}

-- what stands in a part of a tree, by what is around that part
abbrev pub Sites : Type 0
Sites = Surroundings → List (Surroundings × Site)

abbrev pub none : Sites
none s = []

abbrev pub here : Site → Sites
here x s = (s, x) ∷ []

-- the one, and then the other
abbrev pub both : Sites → Sites → Sites
both a b s = a s ++ b s

infixr 10 ◌▸◌
abbrev pub ◌▸◌ : Sites → Sites → Sites
a ▸ b = both a b

abbrev pub each : {A : Type 0} → (A → Sites) → List A → Sites
each f xs s = flat_map (λ x. f x s) xs

abbrev pub if_any : {A : Type 0} → (A → Sites) → Option A → Sites
if_any f None = none
if_any f (Some x) = f x
