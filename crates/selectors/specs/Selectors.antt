-- The names by which members of objects are looked for. One that begins with `_` is of its library alone.
use Rattle.std.specs.Prelude.{ℕ, suc, ◌==◌, Bool, true, false, ◌&&◌, if◌then◌else◌, List, [], ◌∷◌, ◌++◌, map, Option, Some, None, codes}
use Rattle.std.specs.List.{list_any, flat_map}
use Rattle.std.specs.Str.{bytes_eq}
use Rattle.dart_sites.specs.declared.sites.Site.{Site}
use Rattle.dart_sites.specs.declared.sites.Site.TheVariants as x
use Rattle.dart_sites.specs.declared.sites.Use.{Use}
use Rattle.dart_sites.specs.declared.sites.Use.TheVariants as u
use Rattle.dart_sites.specs.declared.surroundings.Surroundings.{Surroundings}
use Rattle.dart_sites.specs.Files.{sites_of_file}
use Rattle.dart_program.specs.declared.files.SourceFile.{SourceFile}
use Rattle.dart_program.specs.Declares.{sign_of, operator_text, setter_text}
use Rattle.library_scopes.specs.Lookups.{is_public}
use Rattle.selectors.specs.declared.selector.Selector.{Selector}

-- a name as a file sees it
abbrev pub selector_in : ℕ → List ℕ → Selector
selector_in file text = record { text = text; home = if is_public text then None else Some file }

abbrev pub same_home : Option ℕ → Option ℕ → Bool
same_home None None = true
same_home (Some m) (Some n) = m == n
same_home _ _ = false

abbrev pub same_selector : Selector → Selector → Bool
same_selector s t = bytes_eq s.text t.text && same_home s.home t.home

-- ---- which names a place declares or uses

-- The value behind a name that is called may be called by the name `call`.
abbrev pub asked_for : List ℕ → Use → List (List ℕ)
asked_for text (u.Called count) = text ∷ codes "call" ∷ []
asked_for text u.Assigned = setter_text text ∷ []
asked_for text u.Changed = text ∷ setter_text text ∷ []
asked_for text _ = text ∷ []

abbrev pub with_setter : Bool → List ℕ → List (List ℕ)
with_setter is_final text = if is_final then text ∷ [] else text ∷ setter_text text ∷ []

abbrev pub names_at : Site → List (List ℕ)
names_at (x.Named y how) = asked_for y.text how
names_at (x.Selected receiver y how) = asked_for y.text how
names_at (x.ValueCalled at count) = codes "call" ∷ []
names_at (x.Operated at operator on_super) = sign_of operator ∷ []
names_at (x.Negated at) = codes "unary-" ∷ []
names_at (x.ForIn at) = codes "iterator" ∷ codes "moveNext" ∷ codes "current" ∷ []
names_at (x.Function f) = f.name.text ∷ []
names_at (x.Getter f) = f.name.text ∷ []
names_at (x.Setter f) = setter_text f.name.text ∷ []
names_at (x.Variable is_final y) = with_setter is_final y.text
names_at (x.Operator f) = operator_text f ∷ []
names_at _ = []

-- in a file of this number
abbrev pub selectors_at : ℕ → Surroundings × Site → List Selector
selectors_at n y = map (selector_in n) (names_at y.1)

abbrev pub selectors_from : ℕ → List SourceFile → List Selector
selectors_from n [] = []
selectors_from n (file ∷ files) = flat_map (selectors_at n) (sites_of_file file.tree) ++ selectors_from (suc n) files

-- those that no other one stands before
abbrev pub first_seen : List Selector → List Selector → List Selector
first_seen seen [] = seen
first_seen seen (s ∷ rest) = first_seen (if list_any (same_selector s) seen then seen else seen ++ s ∷ []) rest

-- The selectors by their numbers, as they are first seen.
unfoldable pub selectors : List SourceFile → List Selector
selectors files = first_seen [] (selectors_from 0 files)

abbrev pub number_in : ℕ → Selector → List Selector → Option ℕ
number_in n s [] = None
number_in n s (t ∷ rest) = if same_selector s t then Some n else number_in (suc n) s rest

-- the number of a name as a file sees it
abbrev pub number_of : ℕ → List ℕ → List Selector → Option ℕ
number_of file text listed = number_in 0 (selector_in file text) listed

unfoldable pub selector_number : List SourceFile → ℕ → List ℕ → Option ℕ
selector_number files file text = number_of file text (selectors files)
