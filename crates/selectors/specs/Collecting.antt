-- What the code makes of tables, site by site and file by file.
use Rattle.std.specs.Prelude.{ℕ, if◌then◌else◌, List, [], ◌∷◌, ◌++◌, length, Some, None, is_some}
use Rattle.dart_program.specs.declared.files.SourceFile.{SourceFile}
use Rattle.dart_sites.specs.declared.sites.Site.{Site}
use Rattle.dart_sites.specs.declared.surroundings.Surroundings.{Surroundings}
use Rattle.dart_sites.specs.Files.{sites_of_file}
use Rattle.dart_sites.specs.Visits.{visited}
use Rattle.library_scopes.specs.Lookups.{is_public}
use Rattle.selectors.specs.declared.collecting.Collector.{Collector}
use Rattle.selectors.specs.declared.selector.Selector.{Selector}
use Rattle.selectors.specs.declared.tables.Tables.{Tables}
use Rattle.selectors.specs.Selectors.{names_at}
use Rattle.selectors.specs.Tables.{Table, numbered}

-- ---- one name, by the table of its home

abbrev pub in_list : List Selector → Table → Selector → List Selector
in_list listed table s = if is_some (numbered s.text table) then listed else listed ++ s ∷ []

abbrev pub in_table : List Selector → Table → List ℕ → Table
in_table listed table x = if is_some (numbered x table) then table else table ++ (x, length listed) ∷ []

abbrev pub noted_public : Collector → List ℕ → Collector
noted_public v x = record v { listed = in_list v.listed v.public (record { text = x; home = None }); public = in_table v.listed v.public x }

abbrev pub noted_private : Collector → List ℕ → Collector
noted_private v x = record v { listed = in_list v.listed v.private (record { text = x; home = Some v.file }); private = in_table v.listed v.private x }

abbrev pub noted : Collector → List ℕ → Collector
noted v x = if is_public x then noted_public v x else noted_private v x

abbrev pub noted_all : Collector → List (List ℕ) → Collector
noted_all v [] = v
noted_all v (x ∷ xs) = noted_all (noted v x) xs

abbrev pub noted_at : Collector → Surroundings → Site → Collector
noted_at v around site = noted_all v (names_at site)

-- ---- one file

abbrev pub opened : Tables → Collector
opened t = record { file = length t.private; listed = t.listed; public = t.public; private = [] }

abbrev pub closed : List Table → Collector → Tables
closed private v = record { listed = v.listed; public = v.public; private = private ++ v.private ∷ [] }

abbrev pub with_file : Tables → SourceFile → Tables
with_file t file = closed t.private (visited noted_at (sites_of_file file.tree) (opened t))

-- ---- all files

abbrev pub with_files : Tables → List SourceFile → Tables
with_files t [] = t
with_files t (file ∷ files) = with_files (with_file t file) files

abbrev pub no_tables : Tables
no_tables = record { listed = []; public = []; private = [] }
