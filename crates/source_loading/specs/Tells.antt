-- What loading tells.
use Rattle.std.specs.Prelude.{◌≡◌, ℕ, suc, ◌≤◌, List, slice_get, Option, Some, None, Result, Ok, Err}
use Rattle.outside.specs.Outside.{Held, Rose}
use Rattle.dart_syntax.specs.declared.rules.Refusal.{Refusal}
use Rattle.dart_program.specs.declared.files.SourceFile.{SourceFile}
use Rattle.dart_program.specs.Paths.{entry_name}
use Rattle.dart_program.specs.Prelude.{prelude_name}
use Rattle.dart_program.specs.Loading.{Asked, asked, Loads, IsRefused, IsLoadedFrom}
use Rattle.source_loading.specs.declared.programs.LoadFault.{LoadFault}
use Rattle.source_loading.specs.declared.programs.LoadFault.TheVariants.{Refused, ReadFault, Memory}

-- This is held, as far as the source tells what it holds.
abbrev pub Agrees : Option Held → Held → Type 0
Agrees None held = Unit {0}
Agrees (Some files) held = held ≡ files

-- The name of the file of this number. An entry that has no name goes by its word.
pub data IsNameOf (held : Held) (entry : List ℕ) : ℕ → List ℕ → Type 0 where
  of_prelude : IsNameOf held entry 0 prelude_name
  of_word : entry_name entry ≡ None → IsNameOf held entry 1 entry
  of_file : {files : List SourceFile} {size i : ℕ} {x : Asked} {name : List ℕ} → Loads held entry files size → slice_get (asked entry files) i ≡ Some x → x.name ≡ Some name
      → IsNameOf held entry (suc i) name

-- the program is loaded from what is held
pub record LoadsProgram (told : Option Held) (entry : List ℕ) (program : List SourceFile) : Type 0 where
  pub held : Held
  pub agrees : Agrees told held
  pub loaded : IsLoadedFrom held entry program

-- what is held is refused, in the file of this name
pub record Refuses (told : Option Held) (entry : List ℕ) (refusal : Refusal) (name : List ℕ) : Type 0 where
  pub held : Held
  pub agrees : Agrees told held
  pub refused : IsRefused held entry refusal
  pub named : IsNameOf held entry refusal.file name

abbrev pub LoadTells : Option Held → List ℕ → Result (List SourceFile) LoadFault → Type 0
LoadTells told entry (Ok program) = LoadsProgram told entry program
LoadTells told entry (Err (Refused refusal name)) = Refuses told entry refusal name
LoadTells told entry (Err (ReadFault name)) = Unit {0}
LoadTells told entry (Err Memory) = Unit {0}

-- The count of faults rises exactly where a read failed.
abbrev pub LoadCause : {T : Type 0} → ℕ → ℕ → Result T LoadFault → Type 0
LoadCause before now (Ok made) = now ≡ before
LoadCause before now (Err (Refused refusal name)) = now ≡ before
LoadCause before now (Err (ReadFault name)) = (before ≤ now) × Rose before now
LoadCause before now (Err Memory) = now ≡ before
