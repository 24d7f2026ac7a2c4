-- The rules of libraries: where each is broken.
use Rattle.std.specs.Prelude.{◌≡◌, ℕ, ◌+◌, ◌<◌, ◌==◌, Bool, true, false, not, ◌&&◌, ◌||◌, if◌then◌else◌, nat_lt, List, [], ◌∷◌, ◌++◌, length, map, Option, Some, None, option_and_then, Contains, codes}
use Rattle.std.specs.List.{list_any, filter_map}
use Rattle.std.specs.Option.{option_map}
use Rattle.std.specs.Str.{bytes_eq}
use Rattle.dart_grammar.specs.declared.trees.Name.{Name}
use Rattle.dart_grammar.specs.declared.declarations.FileTree.{FileTree}
use Rattle.dart_grammar.specs.declared.declarations.Import.{Import}
use Rattle.dart_syntax.specs.declared.rules.Rule.{Rule}
use Rattle.dart_syntax.specs.declared.rules.Rule.TheVariants.{L1, L2, L3, L4}
use Rattle.dart_syntax.specs.declared.rules.Refusal.{Refusal}
use Rattle.dart_program.specs.declared.files.SourceFile.{SourceFile}
use Rattle.dart_program.specs.Declares.{Declared, AFunction, declared_in}
use Rattle.dart_program.specs.First.{Broken}
use Rattle.dart_sites.specs.declared.sites.Site.{Site}
use Rattle.dart_sites.specs.declared.sites.Use.{Use}
use Rattle.dart_sites.specs.declared.sites.Use.TheVariants as u
use Rattle.dart_sites.specs.declared.surroundings.Surroundings.{Surroundings}
use Rattle.dart_sites.specs.Files.{sites_of_file}
use Rattle.library_scopes.specs.declared.named.Named.{Named}
use Rattle.library_scopes.specs.declared.named.Named.TheVariants as n
use Rattle.library_scopes.specs.declared.named.Side.{Side}
use Rattle.library_scopes.specs.declared.named.Side.TheVariants as side
use Rattle.library_scopes.specs.declared.libraries.Library.{Library}
use Rattle.library_scopes.specs.declared.libraries.Scopes.{Scopes}
use Rattle.library_scopes.specs.declared.reuses.Used.{Used}
use Rattle.library_scopes.specs.Names.{is_among, with_one}
use Rattle.library_scopes.specs.Libraries.{scopes_of}
use Rattle.library_scopes.specs.Lookups.{candidates}
use Rattle.library_scopes.specs.Uses.{Asked, asked}
use Rattle.library_scopes.specs.Taken.{place_if, double_places}

-- ---- a deferred prefix is used by another import

abbrev pub is_reused : Used → Bool → Name → Bool
is_reused used is_deferred x = is_among x.text used.deferred || (is_deferred && is_among x.text used.all)

abbrev pub with_use : Used → Bool → Name → Used
with_use used is_deferred x = record { all = with_one x.text used.all; deferred = if is_deferred then with_one x.text used.deferred else used.deferred }

-- the first token of the later import
abbrev pub reuse_if : Used → Import → Option Name → List ℕ
reuse_if used i None = []
reuse_if used i (Some x) = place_if (is_reused used i.is_deferred x) i.span.from

abbrev pub with_import : Used → Import → Option Name → Used
with_import used i None = used
with_import used i (Some x) = with_use used i.is_deferred x

abbrev pub reuses : Used → List Import → List ℕ
reuses used [] = []
reuses used (i ∷ rest) = reuse_if used i i.prefix ++ reuses (with_import used i i.prefix) rest

abbrev pub none_used : Used
none_used = record { all = []; deferred = [] }

unfoldable pub reused_places : FileTree → List ℕ
reused_places file = reuses none_used file.imports

-- ---- the entry has no function `main`, or one with more than one required parameter

abbrev pub is_main : Declared → Bool
is_main (AFunction f) = bytes_eq f.name.text (codes "main")
is_main _ = false

abbrev pub is_long_main : Declared → Bool
is_long_main (AFunction f) = bytes_eq f.name.text (codes "main") && nat_lt 1 (length f.parameters.required)
is_long_main _ = false

abbrev pub lacks_main : FileTree → Bool
lacks_main file = not (list_any is_main (declared_in file)) || list_any is_long_main (declared_in file)

-- the entry at its beginning
unfoldable pub entry_places : ℕ → FileTree → List ℕ
entry_places n file = place_if (n == 1 && lacks_main file) 0

-- ---- a used name comes from two imports as two declarations

abbrev pub is_same : Named → Named → Bool
is_same (n.Class a) (n.Class b) = a == b
is_same (n.Member a) (n.Member b) = a == b
is_same (n.Prefix a) (n.Prefix b) = a == b
is_same _ _ = false

-- Candidates that are one declaration are one.
abbrev pub are_two : List Named → Bool
are_two [] = false
are_two (x ∷ xs) = list_any (λ y. not (is_same x y)) xs

abbrev pub is_ambiguous : Scopes → Library → Option ℕ → List ℕ → Side → Bool
is_ambiguous scopes library prefix x side = are_two (candidates scopes side x prefix library)

-- An assigned name is looked up as what takes a value, and one that is changed also as what has one.
abbrev pub sides : Use → List Side
sides u.Assigned = side.Setting ∷ []
sides u.Changed = side.Value ∷ side.Setting ∷ []
sides _ = side.Value ∷ []

abbrev pub ambiguous_place : Scopes → Library → Asked → Option ℕ
ambiguous_place scopes library a = if list_any (is_ambiguous scopes library a.prefix a.name.text) (sides a.how) then Some a.name.span.from else None

-- the name that is looked up
abbrev pub ambiguous_at : Scopes → Library → Surroundings × Site → Option ℕ
ambiguous_at scopes library y = option_and_then (ambiguous_place scopes library) (asked library y.0 y.1)

unfoldable pub ambiguous_places : Scopes → Library → FileTree → List ℕ
ambiguous_places scopes library file = filter_map (ambiguous_at scopes library) (sites_of_file file)

-- ---- all of them

abbrev pub refusal : Rule → ℕ → ℕ → Refusal
refusal rule n at = record { rule = rule; file = n; at = at }

-- what is broken in a file of this number
unfoldable pub faults_in : Scopes → ℕ → Library → FileTree → List Refusal
faults_in scopes n library file =
    map (refusal L1 n) (double_places file) ++ (map (refusal L2 n) (reused_places file) ++ (map (refusal L3 n) (entry_places n file) ++ map (refusal L4 n) (ambiguous_places scopes library file)))

-- what is broken in files and their libraries, numbered from n on
abbrev pub faults_from : Scopes → ℕ → List Library → List SourceFile → List Refusal
faults_from scopes n [] files = []
faults_from scopes n (library ∷ libraries) [] = []
faults_from scopes n (library ∷ libraries) (file ∷ files) = faults_in scopes n library file.tree ++ faults_from scopes (n + 1) libraries files

unfoldable pub faults : List SourceFile → List Refusal
faults files = let scopes = scopes_of files in faults_from scopes 0 scopes.libraries files

-- what breaks rules in the libraries of a program
unfoldable pub IsBroken : List SourceFile → Broken
IsBroken files rule n at = Contains (faults files) (refusal rule n at)
