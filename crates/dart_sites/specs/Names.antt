-- The names of a scope, and an index beside them by which they are found.
use Rattle.std.specs.Prelude.{◌≡◌, ℕ, suc, Bool, cond, List, [], ◌∷◌, Option, Some, None}
use Rattle.std.specs.Map.{lookup}
use Rattle.std.specs.Option.{option_map}
use Rattle.std.specs.Str.{bytes_eq}
use denote.Ref.{Bor}
use Rattle.dart_sites.specs.declared.scopes.Local.{Local}

abbrev pub has_name : List ℕ → Local → Bool
has_name x l = bytes_eq x l.name.text

-- where the first one of a name stands
abbrev pub first_at : List ℕ → List Local → Option ℕ
first_at x [] = None
first_at x (l ∷ ls) = cond (has_name x l) (Some 0) (option_map suc (first_at x ls))

abbrev pub place_in : List (Bor (List ℕ) × ℕ) → List ℕ → Option ℕ
place_in entries x = lookup (λ k. bytes_eq x k.now) entries

-- The index has each name, with where its first one stands.
pub record IsIndexed (entries : List (Bor (List ℕ) × ℕ)) (locals : List Local) : Type 0 where
  pub places : (x : List ℕ) → place_in entries x ≡ first_at x locals
