-- The names that are declared so far, as the reader keeps them.
use Rattle.std.specs.Prelude.{ℕ, suc, Bool, true, false, if◌then◌else◌, List, [], ◌∷◌, ◌++◌, get_or, Option, Some, None}
use Rattle.std.specs.Option.{option_map}
use Rattle.std.specs.Str.{bytes_eq}
use Rattle.std.specs.Coded.{Coded, code_by, coded×, coded_ℕ, coded_bool, coded_list}
use Rattle.std.proofs.Common.{refl}
use Rattle.dart_meaning.specs.Program.{Kinds, Names, is_one_of}
use Rattle.dart_meaning.specs.Meaning.{◌>>=◌}

-- the names, and of each whether it stands for a text
pub record Scope : Type 0 where
  pub names : Names
  pub kinds : Kinds

pub coded_Scope : Coded Scope
coded_Scope =
    code_by (Names × Kinds) (coded× (coded_list (coded_list coded_ℕ)) (coded_list coded_bool)) (λ s. (s.names, s.kinds)) (λ p. record { names = p.0; kinds = p.1 }) (λ _. refl)

abbrev pub no_names : Scope
no_names = record { names = []; kinds = [] }

-- the place of a name, counted from 0
abbrev pub place_of : List ℕ → Names → Option ℕ
place_of name [] = None
place_of name (other ∷ names) = if bytes_eq name other then Some 0 else option_map suc (place_of name names)

-- and whether it stands for a text
unfoldable pub find : List ℕ → Scope → Option (ℕ × Bool)
find name scope = do
  k ← place_of name scope.names
  Some (k, get_or scope.kinds k false)

-- the names with one more, unless it is among them
unfoldable pub declare : List ℕ → Bool → Scope → Option Scope
declare name is_text scope =
    if is_one_of name scope.names then None else Some (record { names = scope.names ++ name ∷ []; kinds = scope.kinds ++ is_text ∷ [] })

abbrev pub declared : Bool → Scope → Option Scope
declared false scope = None
declared true scope = Some scope
