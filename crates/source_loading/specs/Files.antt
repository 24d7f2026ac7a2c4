-- What one file comes to.
use Rattle.std.specs.Prelude.{◌≡◌, ℕ, ◌+◌, ◌<◌, ◌≤◌, false, List, [], length, Option, Some, Result, Ok, Err}
use Rattle.outside.specs.Outside.{Held, Rose}
use Rattle.dart_syntax.specs.declared.rules.Rule.{Rule}
use Rattle.dart_syntax.specs.declared.rules.Rule.TheVariants.{N1, N2, N3}
use Rattle.dart_program.specs.declared.files.SourceFile.{SourceFile}
use Rattle.dart_program.specs.Loading.{Asked, IsTreeOf, BreaksText, IsFine, Breaks, most_files, most_bytes, most_in_all}
use Rattle.source_loading.specs.declared.files.LoadedFile.{LoadedFile}
use Rattle.source_loading.specs.declared.files.FileFault.{FileFault}
use Rattle.source_loading.specs.declared.files.FileFault.TheVariants.{WhereAsked, Within, ReadFault, Memory}
use Rattle.source_loading.specs.Tells.{Agrees}
use Rattle.source_loading.specs.Reading.{ComesBack}

-- a file before its links are known
abbrev pub unlinked : LoadedFile → SourceFile
unlinked file = record { name = file.name; tree = file.tree; links = [] }

-- ---- of its bytes

pub record IsJudged (n before : ℕ) (name bytes : List ℕ) (file : LoadedFile) : Type 0 where
  pub name_is : file.name ≡ name
  pub length_is : file.length ≡ length bytes
  pub few : n ≤ most_files
  pub small : length bytes ≤ most_bytes
  pub room : before + length bytes ≤ most_in_all
  pub tree : IsTreeOf false bytes file.tree

-- a rule that is told of the file itself
pub data BreaksWithin (n before : ℕ) (bytes : List ℕ) : Rule → ℕ → Type 0 where
  too_long : n ≤ most_files → most_bytes < length bytes → BreaksWithin n before bytes N2 0
  too_full : n ≤ most_files → length bytes ≤ most_bytes → most_in_all < before + length bytes → BreaksWithin n before bytes N3 0
  broken : {rule : Rule} {at : ℕ} → n ≤ most_files → length bytes ≤ most_bytes → before + length bytes ≤ most_in_all → BreaksText false bytes rule at → BreaksWithin n before bytes rule at

abbrev pub Judges : ℕ → ℕ → List ℕ → List ℕ → Result LoadedFile FileFault → Type 0
Judges n before name bytes (Ok file) = IsJudged n before name bytes file
Judges n before name bytes (Err (WhereAsked rule)) = (rule ≡ N1) × (most_files < n)
Judges n before name bytes (Err (Within rule at own)) = (own ≡ name) × BreaksWithin n before bytes rule at
Judges n before name bytes (Err (ReadFault own)) = ⊥
Judges n before name bytes (Err Memory) = Unit {0}

-- ---- of what is held

-- this holds of something held that agrees, and the name of what is asked for comes back
pub record OfSome (told : Option Held) (x : Asked) (P : Held → Type 0) : Type 0 where
  pub held : Held
  pub agrees : Agrees told held
  pub back : (name : List ℕ) → x.name ≡ Some name → ComesBack name
  pub so : P held

-- what is asked for is this file, of so many bytes
pub record IsFineFile (n before : ℕ) (x : Asked) (file : LoadedFile) (held : Held) : Type 0 where
  pub bytes : List ℕ
  pub length_is : file.length ≡ length bytes
  pub fine : IsFine held n before x bytes (unlinked file)

abbrev pub FileTells : Option Held → ℕ → ℕ → Asked → Result LoadedFile FileFault → Type 0
FileTells told n before x (Ok file) = OfSome told x (IsFineFile n before x file)
FileTells told n before x (Err (WhereAsked rule)) = OfSome told x (λ held. Breaks held n before x rule x.file x.at)
FileTells told n before x (Err (Within rule at name)) = (x.name ≡ Some name) × OfSome told x (λ held. Breaks held n before x rule n at)
FileTells told n before x (Err (ReadFault name)) = Unit {0}
FileTells told n before x (Err Memory) = Unit {0}

abbrev pub FileCause : {T : Type 0} → ℕ → ℕ → Result T FileFault → Type 0
FileCause before now (Ok made) = now ≡ before
FileCause before now (Err (WhereAsked rule)) = now ≡ before
FileCause before now (Err (Within rule at name)) = now ≡ before
FileCause before now (Err (ReadFault name)) = (before ≤ now) × Rose before now
FileCause before now (Err Memory) = now ≡ before
