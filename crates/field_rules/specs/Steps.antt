-- What the code makes of names, setting by setting.
use Rattle.std.specs.Prelude.{ℕ, if◌then◌else◌, List, [], ◌∷◌}
use Rattle.dart_syntax.specs.declared.rules.Rule.TheVariants.{B9}
use Rattle.dart_program.specs.Sooner.{sooner, first_with}
use Rattle.dart_sites.specs.declared.sites.Site.{Site}
use Rattle.dart_sites.specs.declared.surroundings.Surroundings.{Surroundings}
use Rattle.library_scopes.specs.Names.{with_one}
use Rattle.library_scopes.specs.Rules.{refusal}
use Rattle.field_rules.specs.declared.search.Search.{Search}
use Rattle.field_rules.specs.declared.settings.Constructing.{Constructing}
use Rattle.field_rules.specs.Fields.{Setting, is_wrong}
use Rattle.field_rules.specs.Rules.{stray_faults}

-- ---- names put into a set

abbrev pub with_all : List (List ℕ) → List (List ℕ) → List (List ℕ)
with_all set [] = set
with_all set (x ∷ xs) = with_all (with_one x set) xs

-- ---- the settings of one constructor

abbrev pub set_one : List (List ℕ) → Constructing → Setting → Constructing
set_one fields v x = record { file = v.file; first = if is_wrong fields v.set x.name then sooner v.first (refusal B9 v.file x.at) else v.first; set = with_one x.name v.set }

unfoldable pub set_all : List (List ℕ) → Constructing → List Setting → Constructing
set_all fields v [] = v
set_all fields v (x ∷ xs) = set_all fields (set_one fields v x) xs

-- ---- the sites of a file

abbrev pub searched : Search → Surroundings → Site → Search
searched v s y = record { number = v.number; first = first_with v.first (stray_faults v.number s y) }
