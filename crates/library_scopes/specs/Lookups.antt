-- What a name stands for in a library and behind a prefix.
use Rattle.std.specs.Prelude.{ℕ, ◌-◌, ◌==◌, Bool, true, false, not, ◌&&◌, if◌then◌else◌, List, [], ◌∷◌, ◌++◌, length, take, filter, slice_get, Option, Some, None, option_and_then, option_to_list, nat_eq, codes}
use Rattle.std.specs.List.{list_all, filter_map, ends_with}
use Rattle.std.specs.Option.{option_or}
use Rattle.library_scopes.specs.declared.named.Named.{Named}
use Rattle.library_scopes.specs.declared.named.Side.{Side}
use Rattle.library_scopes.specs.declared.named.Side.TheVariants as side
use Rattle.library_scopes.specs.declared.libraries.Selection.{Selection}
use Rattle.library_scopes.specs.declared.libraries.Imported.{Imported}
use Rattle.library_scopes.specs.declared.libraries.Library.{Library}
use Rattle.library_scopes.specs.declared.libraries.Prefix.{Prefix}
use Rattle.library_scopes.specs.declared.libraries.Scopes.{Scopes}
use Rattle.library_scopes.specs.Names.{Table, meaning, is_among}

-- ---- what a library has

abbrev pub table : Side → Library → Table
table side.Value library = library.values
table side.Setting library = library.setters

-- what it declares itself, or one of its prefixes
abbrev pub own : Side → List ℕ → Library → Option Named
own side.Value x library = option_or (meaning x library.values) (meaning x library.prefixes)
own side.Setting x library = meaning x library.setters

-- ---- what an import gives

-- `_` begins the names that a library keeps for itself.
abbrev pub is_public : List ℕ → Bool
is_public [] = true
is_public (u ∷ us) = not (u == 95)

abbrev pub selects : List ℕ → Selection → Bool
selects x selection = if selection.hides then not (is_among x selection.names) else is_among x selection.names

abbrev pub shows : List ℕ → Imported → Bool
shows x import = is_public x && list_all (selects x) import.selections

-- It gives what the library declares, and no prefix of it and nothing that it imports itself.
unfoldable pub given : Scopes → Side → List ℕ → Imported → Option Named
given scopes side x import =
    if shows x import then option_and_then (λ library. meaning x (table side library)) (slice_get scopes.libraries import.library) else None

-- ---- what imports give together

abbrev pub same_prefix : Option ℕ → Option ℕ → Bool
same_prefix None None = true
same_prefix (Some p) (Some q) = p == q
same_prefix _ _ = false

-- file 0
abbrev pub is_prelude : Imported → Bool
is_prelude import = import.library == 0

-- each library imports the prelude too
abbrev pub implicit : Imported
implicit = record { library = 0; prefix = None; selections = [] }

-- an import with this prefix, or one without a prefix; of the prelude or of another library
abbrev pub is_behind : Option ℕ → Bool → Imported → Bool
is_behind prefix of_prelude import = same_prefix prefix import.prefix && (if of_prelude then is_prelude import else not (is_prelude import))

abbrev pub given_by : Bool → Scopes → Side → List ℕ → Option ℕ → List Imported → List Named
given_by of_prelude scopes side x prefix imports = filter_map (given scopes side x) (filter (is_behind prefix of_prelude) imports)

abbrev pub given_anyway : Scopes → Side → List ℕ → Option ℕ → List Named
given_anyway scopes side x None = option_to_list (given scopes side x implicit)
given_anyway scopes side x (Some p) = []

abbrev pub or_else : {A : Type 0} → List A → List A → List A
or_else [] ys = ys
or_else (x ∷ xs) ys = x ∷ xs

-- What comes from the prelude is hidden by what any other import gives.
unfoldable pub candidates : Scopes → Side → List ℕ → Option ℕ → Library → List Named
candidates scopes side x prefix library =
    or_else (given_by false scopes side x prefix library.imports) (given_by true scopes side x prefix library.imports ++ given_anyway scopes side x prefix)

abbrev pub first : List Named → Option Named
first [] = None
first (x ∷ xs) = Some x

-- ---- look-ups

-- `=` behind a name asks for what takes a value
abbrev pub asks_for_setter : List ℕ → Bool
asks_for_setter text = ends_with nat_eq text (codes "=")

abbrev pub asked_side : List ℕ → Side
asked_side text = if asks_for_setter text then side.Setting else side.Value

abbrev pub asked_name : List ℕ → List ℕ
asked_name text = if asks_for_setter text then take (length text - 1) text else text

-- A declaration of the library itself hides what imports give. Of several candidates the first stands.
abbrev pub found : Scopes → Side → List ℕ → Library → Option Named
found scopes side x library = option_or (own side x library) (first (candidates scopes side x None library))

unfoldable pub lookup : Scopes → ℕ → List ℕ → Option Named
lookup scopes file text = option_and_then (found scopes (asked_side text) (asked_name text)) (slice_get scopes.libraries file)

abbrev pub behind_in : Scopes → ℕ → Side → List ℕ → Library → Option Named
behind_in scopes prefix side x library = first (candidates scopes side x (Some prefix) library)

-- the library whose prefix it is
abbrev pub library_of : Scopes → ℕ → Option Library
library_of scopes prefix = option_and_then (λ p. slice_get scopes.libraries p.library) (slice_get scopes.prefixes prefix)

unfoldable pub behind : Scopes → ℕ → List ℕ → Option Named
behind scopes prefix text = option_and_then (behind_in scopes prefix (asked_side text) (asked_name text)) (library_of scopes prefix)

unfoldable pub deferred : Scopes → ℕ → Option ℕ
deferred scopes prefix = option_and_then (λ p. p.deferred) (slice_get scopes.prefixes prefix)
