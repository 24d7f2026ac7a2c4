-- Which declaration a name has in the scopes around it.
pub use Rattle.dart_sites.specs.Names.{has_name}
use Rattle.std.specs.Prelude.{ℕ, Bool, true, false, List, [], ◌∷◌, Option, None}
use Rattle.std.specs.List.{find, list_any}
use Rattle.std.specs.Option.{option_map, option_or}
use Rattle.dart_sites.specs.declared.scopes.Local.{Local}
use Rattle.dart_sites.specs.declared.scopes.Scope.{Scope}
use Rattle.dart_sites.specs.declared.scopes.ScopeKind.{ScopeKind}
use Rattle.dart_sites.specs.declared.scopes.ScopeKind.TheVariants as k
use Rattle.dart_sites.specs.declared.scopes.Found.{Found}

-- the first one of the name
abbrev pub declared : List ℕ → Scope → Option Local
declared x s = find (has_name x) s.locals

abbrev pub are_parameters : ScopeKind → Bool
are_parameters k.Parameters = true
are_parameters _ = false

abbrev pub begins_function : Scope → Bool
begins_function s = are_parameters s.kind

-- Of scopes, the outermost first, the innermost one that declares the name. The name is captured where a function begins
-- in a scope further in.
unfoldable pub found : List ℕ → List Scope → Option Found
found x [] = None
found x (s ∷ inner) = option_or (found x inner) (option_map (λ l. record { local = l; is_captured = list_any begins_function inner }) (declared x s))

-- all but the innermost
abbrev pub outer : List Scope → List Scope
outer [] = []
outer (x ∷ []) = []
outer (x ∷ y ∷ ys) = x ∷ outer (y ∷ ys)
