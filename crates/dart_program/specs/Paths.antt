-- The file that an import names.
use Rattle.std.specs.Prelude.{ℕ, ◌==◌, Bool, true, false, ◌||◌, not, if◌then◌else◌, List, [], ◌∷◌, ◌++◌, drop, reverse, filter, flat_map, Option, Some, None, option_map, option_and_then, codes}
use Rattle.std.specs.List.{slice_split}
use Rattle.std.specs.Str.{bytes_eq}

-- these two names mean the prelude, written just so
abbrev pub is_core : List ℕ → Bool
is_core uri = bytes_eq uri (codes "dart:core") || bytes_eq uri (codes "dart:async")

-- `/`
abbrev pub slash : ℕ
slash = 47

-- ---- parts

-- what stands before, between and behind the slashes
abbrev pub parts : List ℕ → List (List ℕ)
parts units = slice_split (λ unit. unit == slash) units

-- a leading slash is no part
abbrev pub is_rooted : List ℕ → Bool
is_rooted [] = false
is_rooted (u ∷ us) = u == slash

abbrev pub is_empty : List ℕ → Bool
is_empty [] = true
is_empty _ = false

-- nothing, or a dot
abbrev pub stays : List ℕ → Bool
stays p = is_empty p || bytes_eq p (codes ".")

-- two dots
abbrev pub goes_up : List ℕ → Bool
goes_up p = bytes_eq p (codes "..")

-- ---- from a folder, whose parts are given with the innermost first

-- the folder round it, where there is one
abbrev pub outer : List (List ℕ) → Option (List (List ℕ))
outer [] = None
outer (p ∷ ps) = Some ps

-- one part further
abbrev pub step : List (List ℕ) → List ℕ → Option (List (List ℕ))
step at p = if stays p then Some at else if goes_up p then outer at else Some (p ∷ at)

-- all parts further, the first one first; none where `..` has nothing to remove
abbrev pub walk : List (List ℕ) → List (List ℕ) → Option (List (List ℕ))
walk at [] = Some at
walk at (p ∷ ps) = option_and_then (λ next. walk next ps) (step at p)

-- the folder that a file of this name lies in
abbrev pub folder : List ℕ → List (List ℕ)
folder name = drop 1 (reverse (filter (λ p. not (is_empty p)) (parts name)))

-- ---- the name

-- the parts with slashes between, the outermost first
abbrev pub joined : List (List ℕ) → List ℕ
joined [] = []
joined (p ∷ ps) = p ++ flat_map (λ q. slash ∷ q) ps

-- the name of what lies there, from the root or not
abbrev pub spelled : Bool → List (List ℕ) → List ℕ
spelled rooted at = (if rooted then slash ∷ [] else []) ++ joined (reverse at)

-- The name of the file that these units name in the file of that name; none where `..` has nothing to remove. A leading
-- slash starts from no folder.
unfoldable pub named_from : List ℕ → List ℕ → Option (List ℕ)
named_from file uri =
    if is_rooted uri then option_map (spelled true) (walk [] (parts uri))
    else option_map (spelled (is_rooted file)) (walk (folder file) (parts uri))

-- the name of the entry, from the word that names it: it starts from the empty folder
abbrev pub entry_name : List ℕ → Option (List ℕ)
entry_name word = named_from [] word
