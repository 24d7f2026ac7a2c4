-- What the libraries of a program declare and import.
use Rattle.std.specs.Prelude.{ℕ, ◌+◌, Bool, true, false, not, if◌then◌else◌, List, [], ◌∷◌, ◌++◌, length, map, Option, Some, None, is_some, option_and_then}
use Rattle.dart_grammar.specs.declared.trees.Name.{Name}
use Rattle.dart_grammar.specs.declared.declarations.FileTree.{FileTree}
use Rattle.dart_grammar.specs.declared.declarations.Import.{Import}
use Rattle.dart_grammar.specs.declared.declarations.Combinator.{Combinator}
use Rattle.dart_program.specs.declared.files.SourceFile.{SourceFile}
use Rattle.dart_program.specs.Declares.{Declared, AClass, AnAlias, AFunction, AGetter, ASetter, AVariable, declared_in, declared_name, is_class}
use Rattle.library_scopes.specs.declared.named.Named.{Named}
use Rattle.library_scopes.specs.declared.named.Named.TheVariants as n
use Rattle.library_scopes.specs.declared.libraries.Selection.{Selection}
use Rattle.library_scopes.specs.declared.libraries.Imported.{Imported}
use Rattle.library_scopes.specs.declared.libraries.Library.{Library}
use Rattle.library_scopes.specs.declared.libraries.Prefix.{Prefix}
use Rattle.library_scopes.specs.declared.libraries.Scopes.{Scopes}
use Rattle.library_scopes.specs.declared.reading.Numbers.{Numbers}
use Rattle.library_scopes.specs.declared.reading.Prefixing.{Prefixing}
use Rattle.library_scopes.specs.declared.reading.Reading.{Reading}
use Rattle.library_scopes.specs.Names.{Table, meaning, with_name, with_one}

-- ---- declarations

-- A name that a library declares: what it stands for, whether that is found by the name, and whether it takes what is
-- assigned to the name.
pub record Own : Type 0 where
  pub text : List ℕ
  pub named : Named
  pub is_value : Bool
  pub is_setter : Bool

abbrev pub is_value : Declared → Bool
is_value (ASetter x) = false
is_value _ = true

-- a setter, and a variable that is not final
abbrev pub is_setter : Declared → Bool
is_setter (ASetter x) = true
is_setter (AVariable is_final x) = not is_final
is_setter _ = false

-- Classes and members are counted apart.
abbrev pub number : Numbers → Declared → Named
number count d = if is_class d then n.Class count.classes else n.Member count.members

abbrev pub counted : Numbers → Declared → Numbers
counted count d = if is_class d then record count { classes = count.classes + 1 } else record count { members = count.members + 1 }

abbrev pub own : Numbers → Declared → Own
own count d = record { text = (declared_name d).text; named = number count d; is_value = is_value d; is_setter = is_setter d }

-- declarations one after another, where there are so many things before
abbrev pub owns : Numbers → List Declared → List Own
owns count [] = []
owns count (d ∷ ds) = own count d ∷ owns (counted count d) ds

abbrev pub counted_all : Numbers → List Declared → Numbers
counted_all count [] = count
counted_all count (d ∷ ds) = counted_all (counted count d) ds

-- a table with what these names stand for, and one with what takes values for them
abbrev pub with_values : List Own → Table → Table
with_values [] table = table
with_values (x ∷ xs) table = with_values xs (if x.is_value then with_name x.text x.named table else table)

abbrev pub with_setters : List Own → Table → Table
with_setters [] table = table
with_setters (x ∷ xs) table = with_setters xs (if x.is_setter then with_name x.text x.named table else table)

-- ---- imports

abbrev pub with_all : List Name → List (List ℕ) → List (List ℕ)
with_all [] names = names
with_all (x ∷ xs) names = with_all xs (with_one x.text names)

abbrev pub selection : Combinator → Selection
selection c = record { hides = c.hides; names = with_all c.names [] }

-- the number of a prefix
abbrev pub number_of : Named → Option ℕ
number_of (n.Prefix p) = Some p
number_of _ = None

abbrev pub prefix_number : Table → Option Name → Option ℕ
prefix_number prefixes None = None
prefix_number prefixes (Some x) = option_and_then number_of (meaning x.text prefixes)

abbrev pub imported : Table → Import → ℕ → Imported
imported prefixes i link = record { library = link; prefix = prefix_number prefixes i.prefix; selections = map selection i.combinators }

-- each import with the number of the file that it means
abbrev pub all_imported : Table → List Import → List ℕ → List Imported
all_imported prefixes [] links = []
all_imported prefixes (i ∷ rest) [] = []
all_imported prefixes (i ∷ rest) (link ∷ links) = imported prefixes i link ∷ all_imported prefixes rest links

-- ---- prefixes

-- A prefix has the number of its first import's, and a name that is there stays.
abbrev pub one_prefixed : Prefixing → Option Name → Prefix → Prefixing
one_prefixed s None prefix = s
one_prefixed s (Some x) prefix = record {
  table = with_name x.text (n.Prefix (length s.prefixes)) s.table;
  prefixes = if is_some (meaning x.text s.table) then s.prefixes else s.prefixes ++ prefix ∷ [];
  deferred = s.deferred;
}

-- A deferred prefix has one import.
abbrev pub prefixed : ℕ → Prefixing → Import → Prefixing
prefixed file s i =
    let t = one_prefixed s i.prefix (record { library = file; deferred = if i.is_deferred then Some s.deferred else None }) in
    record { table = t.table; prefixes = t.prefixes; deferred = if i.is_deferred then s.deferred + 1 else s.deferred }

abbrev pub all_prefixed : ℕ → Prefixing → List Import → Prefixing
all_prefixed file s [] = s
all_prefixed file s (i ∷ rest) = all_prefixed file (prefixed file s i) rest

-- ---- libraries

abbrev pub library : Numbers → Table → SourceFile → Library
library count prefixes file = record {
  values = with_values (owns count (declared_in file.tree)) [];
  setters = with_setters (owns count (declared_in file.tree)) [];
  prefixes = prefixes;
  imports = all_imported prefixes file.tree.imports file.links;
}

-- one more file
abbrev pub with_file : Reading → SourceFile → Reading
with_file s file =
    let p = all_prefixed (length s.scopes.libraries) (record { table = []; prefixes = s.scopes.prefixes; deferred = s.numbers.deferred }) file.tree.imports in
    record {
      scopes = record { libraries = s.scopes.libraries ++ library s.numbers p.table file ∷ []; prefixes = p.prefixes };
      numbers = record (counted_all s.numbers (declared_in file.tree)) { deferred = p.deferred };
    }

abbrev pub with_files : Reading → List SourceFile → Reading
with_files s [] = s
with_files s (file ∷ files) = with_files (with_file s file) files

abbrev pub no_files : Reading
no_files = record { scopes = record { libraries = []; prefixes = [] }; numbers = record { classes = 0; members = 0; deferred = 0 } }

-- the libraries and the prefixes of a program
unfoldable pub scopes_of : List SourceFile → Scopes
scopes_of files = (with_files no_files files).scopes
