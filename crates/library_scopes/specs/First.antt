-- The first fault of the libraries of a program, rule by rule and file by file.
use Rattle.std.specs.Prelude.{ℕ, ◌+◌, Bool, true, false, not, if◌then◌else◌, nat_lt, List, [], ◌∷◌, Option, Some, None}
use Rattle.std.specs.List.{list_any, filter_map}
use Rattle.std.specs.Option.{option_or}
use Rattle.dart_grammar.specs.declared.declarations.FileTree.{FileTree}
use Rattle.dart_syntax.specs.declared.rules.Rule.{Rule}
use Rattle.dart_syntax.specs.declared.rules.Rule.TheVariants.{L1, L2, L3, L4}
use Rattle.dart_syntax.specs.declared.rules.Refusal.{Refusal}
use Rattle.dart_program.specs.declared.files.SourceFile.{SourceFile}
use Rattle.dart_program.specs.First.{IsFirst}
use Rattle.dart_sites.specs.declared.sites.Site.{Site}
use Rattle.dart_sites.specs.declared.surroundings.Surroundings.{Surroundings}
use Rattle.library_scopes.specs.declared.ambiguous.Ambiguity.{Ambiguity}
use Rattle.library_scopes.specs.declared.named.Named.{Named}
use Rattle.library_scopes.specs.declared.libraries.Library.{Library}
use Rattle.library_scopes.specs.declared.libraries.Scopes.{Scopes}
use Rattle.library_scopes.specs.declared.resolving.ScopeError.{ScopeError}
use Rattle.library_scopes.specs.declared.resolving.ScopeError.TheVariants as e
use Rattle.library_scopes.specs.Least.{lesser, least}
use Rattle.library_scopes.specs.Taken.{double_places}
use Rattle.library_scopes.specs.Rules.{reused_places, entry_places, ambiguous_places, ambiguous_at, are_two, is_same, refusal, IsBroken}

-- ---- ambiguous names, site by site

-- whether there are two behind one that may stand before
abbrev pub are_two_behind : Option Named → List Named → Bool
are_two_behind None xs = are_two xs
are_two_behind (Some x) xs = list_any (λ y. not (is_same x y)) xs

abbrev pub lesser_if : Option ℕ → Option ℕ → Option ℕ
lesser_if first None = first
lesser_if first (Some at) = lesser first at

abbrev pub seen : Ambiguity → Surroundings → Site → Ambiguity
seen v s x = record { scopes = v.scopes; library = v.library; first = lesser_if v.first (ambiguous_at v.scopes v.library (s, x)) }

-- ---- one file

-- the place at which this rule is broken, if any, unless what is broken of later rules comes first
abbrev pub sooner : Rule → ℕ → Option ℕ → Option Refusal → Option Refusal
sooner rule n None later = later
sooner rule n (Some at) None = Some (refusal rule n at)
sooner rule n (Some at) (Some later) = if nat_lt later.at at then Some later else Some (refusal rule n at)

unfoldable pub first_in : Scopes → ℕ → Library → FileTree → Option Refusal
first_in scopes n library file =
    sooner L1 n (least (double_places file)) (sooner L2 n (least (reused_places file)) (sooner L3 n (least (entry_places n file)) (sooner L4 n (least (ambiguous_places scopes library file)) None)))

-- ---- all files

abbrev pub first_from : Scopes → ℕ → List Library → List SourceFile → Option Refusal
first_from scopes n [] files = None
first_from scopes n (library ∷ libraries) [] = None
first_from scopes n (library ∷ libraries) (file ∷ files) = option_or (first_in scopes n library file.tree) (first_from scopes (n + 1) libraries files)

-- why a program has no scopes; memory may be wanting for any
abbrev pub IsRefusalOf : List SourceFile → ScopeError → Type 0
IsRefusalOf files (e.Broken refusal) = IsFirst (IsBroken files) refusal
IsRefusalOf files e.Memory = Unit {0}
