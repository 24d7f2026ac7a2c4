-- What is known while files are loaded.
use Rattle.std.specs.Prelude.{◌≡◌, ℕ, zero, suc, ◌+◌, ◌≤◌, List, [], ◌∷◌, ◌++◌, length, map, slice_get, Option, Some, None, Result, Ok, Err}
use Rattle.std.specs.List.{AllByRecursion}
use Rattle.outside.specs.Outside.{Held}
use Rattle.dart_syntax.specs.declared.rules.Refusal.{Refusal}
use Rattle.dart_program.specs.declared.files.SourceFile.{SourceFile}
use Rattle.dart_program.specs.Loading.{Asked, asked, link, Loads, Breaks, most_files, most_in_all}
use Rattle.source_loading.specs.declared.files.LoadedFile.{LoadedFile}
use Rattle.source_loading.specs.declared.files.FileFault.{FileFault}
use Rattle.source_loading.specs.declared.files.FileFault.TheVariants as file
use Rattle.source_loading.specs.declared.loading.Loading.{Loading}
use Rattle.source_loading.specs.declared.programs.LoadFault.{LoadFault}
use Rattle.source_loading.specs.declared.programs.LoadFault.TheVariants.{Refused, ReadFault, Memory}
use Rattle.source_loading.specs.Tells.{Agrees, IsNameOf}
use Rattle.source_loading.specs.Reading.{ComesBack}
use Rattle.source_loading.specs.Files.{unlinked}

-- ---- names

-- the loaded file of this number
abbrev pub file_of : List LoadedFile → ℕ → Option LoadedFile
file_of files zero = None
file_of files (suc i) = slice_get files i

-- the entry goes by its word where it has no name
abbrev pub own_name : Option (List ℕ) → List ℕ → List ℕ
own_name (Some name) entry = name
own_name None entry = entry

abbrev pub name_or : Option LoadedFile → List ℕ → List ℕ
name_or (Some file) own = file.name
name_or None own = own

-- the name of the file that asks for this
abbrev pub asker_name : List LoadedFile → List ℕ → Asked → List ℕ
asker_name files entry x = name_or (file_of files x.file) (own_name x.name entry)

-- ---- so far

-- These files are loaded from something held that agrees with what the source tells.
pub record Progress (told : Option Held) (entry : List ℕ) (files : List LoadedFile) (size : ℕ) : Type 0 where
  pub held : Held
  pub agrees : Agrees told held
  pub loads : Loads held entry (map unlinked files) size
  pub back : AllByRecursion (λ file. ComesBack file.name) files
  pub few : length files ≤ most_files
  pub room : size ≤ most_in_all

pub record IsLoading (told : Option Held) (entry : List ℕ) (l : Loading) : Type 0 where
  pub progress : Progress told entry l.files.items l.size
  pub asks_are : l.asks ≡ asked entry (map unlinked l.files.items)

-- ---- what stops it

-- what is asked for next breaks this rule, in the file of this name
pub record IsStopped (told : Option Held) (entry : List ℕ) (refusal : Refusal) (name : List ℕ) : Type 0 where
  pub held : Held
  pub agrees : Agrees told held
  pub files : List SourceFile
  pub size : ℕ
  pub x : Asked
  pub loads : Loads held entry files size
  pub next : slice_get (asked entry files) (length files) ≡ Some x
  pub breaks : Breaks held (suc (length files)) size x refusal.rule refusal.file refusal.at
  pub named : IsNameOf held entry refusal.file name

abbrev pub FaultTells : Option Held → List ℕ → LoadFault → Type 0
FaultTells told entry (Refused refusal name) = IsStopped told entry refusal name
FaultTells told entry (ReadFault name) = Unit {0}
FaultTells told entry Memory = Unit {0}

-- how a fault of the next file is told
abbrev pub IsToldAs : List LoadedFile → List ℕ → Asked → FileFault → LoadFault → Type 0
IsToldAs files entry x (file.WhereAsked rule) (Refused refusal name) = (refusal ≡ record { rule = rule; file = x.file; at = x.at }) × (name ≡ asker_name files entry x)
IsToldAs files entry x (file.WhereAsked rule) (ReadFault name) = ⊥
IsToldAs files entry x (file.WhereAsked rule) Memory = Unit {0}
IsToldAs files entry x (file.Within rule at own) (Refused refusal name) = (refusal ≡ record { rule = rule; file = suc (length files); at = at }) × (name ≡ own)
IsToldAs files entry x (file.Within rule at own) (ReadFault name) = ⊥
IsToldAs files entry x (file.Within rule at own) Memory = ⊥
IsToldAs files entry x (file.ReadFault own) (Refused refusal name) = ⊥
IsToldAs files entry x (file.ReadFault own) (ReadFault name) = name ≡ own
IsToldAs files entry x (file.ReadFault own) Memory = ⊥
IsToldAs files entry x file.Memory (Refused refusal name) = ⊥
IsToldAs files entry x file.Memory (ReadFault name) = ⊥
IsToldAs files entry x file.Memory Memory = Unit {0}

abbrev pub NextTells : Option Held → List ℕ → Loading → Result (Option LoadedFile) LoadFault → Type 0
NextTells told entry l (Ok (Some file)) = Progress told entry (l.files.items ++ file ∷ []) (l.size + file.length)
NextTells told entry l (Ok None) = length l.asks ≤ length l.files.items
NextTells told entry l (Err fault) = FaultTells told entry fault

-- ---- all

pub record IsAllLoaded (told : Option Held) (entry : List ℕ) (l : Loading) : Type 0 where
  pub loading : IsLoading told entry l
  pub all : length l.asks ≤ length l.files.items

abbrev pub AllTells : Option Held → List ℕ → Result Loading LoadFault → Type 0
AllTells told entry (Ok l) = IsAllLoaded told entry l
AllTells told entry (Err fault) = FaultTells told entry fault

-- a file with its links
abbrev pub linked : List Asked → LoadedFile → SourceFile
linked xs file = record { name = file.name; tree = file.tree; links = map (link xs file.name) file.tree.imports }
