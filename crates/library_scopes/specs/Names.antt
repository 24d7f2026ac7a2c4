-- Names, and what they stand for.
use Rattle.std.specs.Prelude.{ℕ, Bool, List, [], ◌∷◌, ◌++◌, Option, is_some, if◌then◌else◌}
use Rattle.std.specs.List.{list_any}
use Rattle.std.specs.Map.{lookup}
use Rattle.std.specs.Str.{bytes_eq}
use Rattle.library_scopes.specs.declared.named.Named.{Named}

abbrev pub Table : Type 0
Table = List (List ℕ × Named)

abbrev pub meaning : List ℕ → Table → Option Named
meaning x table = lookup (bytes_eq x) table

-- Of one name the first meaning stays.
unfoldable pub with_name : List ℕ → Named → Table → Table
with_name x named table = if is_some (meaning x table) then table else table ++ (x, named) ∷ []

abbrev pub is_among : List ℕ → List (List ℕ) → Bool
is_among x names = list_any (bytes_eq x) names

unfoldable pub with_one : List ℕ → List (List ℕ) → List (List ℕ)
with_one x names = if is_among x names then names else names ++ x ∷ []
