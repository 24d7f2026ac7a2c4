-- Which files a program has: those that its entry leads to, each before those that it leads to.
use Rattle.std.specs.Prelude.{◌≡◌, ◌<◌, ◌≤◌, ℕ, suc, ◌+◌, Bool, true, false, not, List, [], ◌∷◌, ◌++◌, length, map, flat_map, filter, slice_get, Option, Some, None, option_and_then, if◌then◌else◌}
use Rattle.std.specs.Char.Utf16.{has_unpaired_surrogate}
use Rattle.std.specs.Str.{bytes_eq}
use Rattle.code_units.specs.Text.{utf8_of}
use Rattle.outside.specs.Outside.{Held}
use Rattle.dart_syntax.specs.declared.tokens.Token.{Token}
use Rattle.dart_syntax.specs.declared.rules.Rule.{Rule}
use Rattle.dart_syntax.specs.declared.rules.Rule.TheVariants.{U1, N1, N2, N3, G2, G1}
use Rattle.dart_syntax.specs.declared.rules.Refusal.{Refusal}
use Rattle.dart_syntax.specs.Tokens.{IsTokens}
use Rattle.dart_syntax.specs.Faults.{IsFirstBroken}
use Rattle.dart_grammar.specs.declared.declarations.FileTree.{FileTree}
use Rattle.dart_grammar.specs.declared.declarations.Import.{Import}
use Rattle.dart_grammar.specs.Loads.{first_overload}
use Rattle.dart_grammar.specs.Declarations.{IsFile}
use Rattle.dart_program.specs.declared.files.SourceFile.{SourceFile}
use Rattle.dart_program.specs.Paths.{is_core, named_from, entry_name}
use Rattle.dart_program.specs.Programs.{IsProgram}
use Rattle.dart_program.specs.Prelude.{prelude_name, prelude_text}

-- ---- what files ask for

-- A file that is asked for: its name, where there is one, and the file and the place at which it is asked for.
pub record Asked : Type 0 where
  pub name : Option (List ℕ)
  pub file : ℕ
  pub at : ℕ

-- the entry stands for itself
abbrev pub asked_first : List ℕ → Asked
asked_first entry = record { name = entry_name entry; file = 1; at = 0 }

-- an import asks for a file, unless it means the prelude
abbrev pub asked_by : ℕ → List ℕ → Import → List Asked
asked_by n name i = if is_core i.uri then [] else record { name = named_from name i.uri; file = n; at = i.uri_span.from } ∷ []

-- what files ask for that are numbered from n on
abbrev pub asked_from : ℕ → List SourceFile → List Asked
asked_from n [] = []
asked_from n (file ∷ files) = flat_map (asked_by n file.name) file.tree.imports ++ asked_from (suc n) files

abbrev pub is_name : List ℕ → Option (List ℕ) → Bool
is_name x None = false
is_name x (Some y) = bytes_eq x y

abbrev pub asks_for : Option (List ℕ) → Asked → Bool
asks_for None other = false
asks_for (Some x) other = is_name x other.name

-- Of those that ask for one name the first alone. What asks for no name stays.
abbrev pub each_once : List Asked → List Asked
each_once [] = []
each_once (x ∷ xs) = x ∷ filter (λ y. not (asks_for x.name y)) (each_once xs)

-- The files that the entry and these files ask for, each once, in the order in which they are first asked for. The
-- numbers of files follow this order, that of the entry being 1.
unfoldable pub asked : List ℕ → List SourceFile → List Asked
asked entry files = each_once (asked_first entry ∷ asked_from 1 files)

-- ---- what is held

-- Where a name has a lone surrogate, no file has it.
abbrev pub held_as : Held → List ℕ → Option (List ℕ)
held_as held name = if has_unpaired_surrogate name then None else held (utf8_of name)

abbrev pub content : Held → Asked → Option (List ℕ)
content held x = option_and_then (held_as held) x.name

-- the tree that these bytes spell, in which nothing is nested too deep
pub record IsTreeOf (native : Bool) (bytes : List ℕ) (tree : FileTree) : Type 0 where
  pub tokens : List Token
  pub scanned : IsTokens bytes tokens
  pub shallow : first_overload tokens ≡ None
  pub derived : IsFile native tokens tree

-- ---- loading

-- The most files besides the prelude, and the most bytes of one and of all of them.
abbrev pub most_files : ℕ
most_files = 256

abbrev pub most_bytes : ℕ
most_bytes = 1048576

abbrev pub most_in_all : ℕ
most_in_all = 4194304

-- What is asked for is this file, and it breaks no rule. It has number n, and the files before it have so many bytes.
pub record IsFine (held : Held) (n before : ℕ) (x : Asked) (bytes : List ℕ) (file : SourceFile) : Type 0 where
  pub name : x.name ≡ Some file.name
  pub held_so : content held x ≡ Some bytes
  pub few : n ≤ most_files
  pub small : length bytes ≤ most_bytes
  pub room : before + length bytes ≤ most_in_all
  pub tree : IsTreeOf false bytes file.tree

-- The files up to some number in the order of loading, none of which breaks a rule, and how many bytes they have.
pub data Loads (held : Held) (entry : List ℕ) : List SourceFile → ℕ → Type 0 where
  none : Loads held entry [] 0
  next : {files : List SourceFile} {size : ℕ} {x : Asked} {bytes : List ℕ} {file : SourceFile} → Loads held entry files size
      → slice_get (asked entry files) (length files) ≡ Some x → IsFine held (suc (length files)) size x bytes file
      → Loads held entry (files ++ file ∷ []) (size + length bytes)

-- These bytes spell no file: the first rule that they break, and the place. Of several rules it is the first in this order.
pub data BreaksText (native : Bool) (bytes : List ℕ) : Rule → ℕ → Type 0 where
  scan : {rule : Rule} {at : ℕ} → IsFirstBroken bytes at rule → BreaksText native bytes rule at
  deep : {tokens : List Token} {at : ℕ} → IsTokens bytes tokens → first_overload tokens ≡ Some at → BreaksText native bytes G2 at
  underived : {tokens : List Token} → IsTokens bytes tokens → first_overload tokens ≡ None → ((tree : FileTree) → IsFile native tokens tree → ⊥) → BreaksText native bytes G1 0

-- What is asked for as file number n breaks this rule, in the file of this number at this place. Of several rules it is
-- the first in this order.
pub data Breaks (held : Held) (n before : ℕ) (x : Asked) : Rule → ℕ → ℕ → Type 0 where
  absent : content held x ≡ None → Breaks held n before x U1 x.file x.at
  many : {bytes : List ℕ} → content held x ≡ Some bytes → most_files < n → Breaks held n before x N1 x.file x.at
  long : {bytes : List ℕ} → content held x ≡ Some bytes → n ≤ most_files → most_bytes < length bytes → Breaks held n before x N2 n 0
  full : {bytes : List ℕ} → content held x ≡ Some bytes → n ≤ most_files → length bytes ≤ most_bytes → most_in_all < before + length bytes → Breaks held n before x N3 n 0
  text : {bytes : List ℕ} {rule : Rule} {at : ℕ} → content held x ≡ Some bytes → n ≤ most_files → length bytes ≤ most_bytes → before + length bytes ≤ most_in_all
      → BreaksText false bytes rule at → Breaks held n before x rule n at

-- The first rule that is broken while files are loaded. File 0 is looked at like any other, before all of them; its text
-- is always the same, and breaks none.
pub data IsRefused (held : Held) (entry : List ℕ) (r : Refusal) : Type 0 where
  in_prelude : r.file ≡ 0 → BreaksText true prelude_text r.rule r.at → IsRefused held entry r
  in_files : {prelude : FileTree} {files : List SourceFile} {size : ℕ} {x : Asked} → IsTreeOf true prelude_text prelude → Loads held entry files size
      → slice_get (asked entry files) (length files) ≡ Some x → Breaks held (suc (length files)) size x r.rule r.file r.at → IsRefused held entry r

-- ---- whole programs

-- the number of the file that is asked for under this name, counted from n; n itself behind all
abbrev pub number_from : ℕ → List ℕ → List Asked → ℕ
number_from n name [] = n
number_from n name (x ∷ xs) = if is_name name x.name then n else number_from (suc n) name xs

abbrev pub number_of : List Asked → Option (List ℕ) → ℕ
number_of xs None = 0
number_of xs (Some name) = number_from 1 name xs

-- the file that an import of a file of this name means
abbrev pub link : List Asked → List ℕ → Import → ℕ
link xs name i = if is_core i.uri then 0 else number_of xs (named_from name i.uri)

abbrev pub AreLinked : List Asked → List SourceFile → Type 0
AreLinked xs [] = Unit {0}
AreLinked xs (file ∷ files) = (file.links ≡ map (link xs file.name) file.tree.imports) × AreLinked xs files

-- File 0. An import in it would mean itself; its text has none.
pub record IsPrelude (file : SourceFile) : Type 0 where
  pub name : file.name ≡ prelude_name
  pub tree : IsTreeOf true prelude_text file.tree
  pub links : file.links ≡ map (λ _. 0) file.tree.imports

-- the program that is loaded from what is held, beginning with the entry: no file of it breaks a rule, and all that is
-- asked for is there
pub record IsLoadedFrom (held : Held) (entry : List ℕ) (program : List SourceFile) : Type 0 where
  pub prelude : SourceFile
  pub files : List SourceFile
  pub size : ℕ
  pub parts : program ≡ prelude ∷ files
  pub first : IsPrelude prelude
  pub loads : Loads held entry files size
  pub whole : length (asked entry files) ≡ length files
  pub linked : AreLinked (asked entry files) files

-- the program was loaded from something that was held
abbrev pub IsLoaded : List SourceFile → Type 0
IsLoaded program = (held : Held) × (entry : List ℕ) × IsLoadedFrom held entry program

-- What is loaded is a program: it has two files at least, and its links lead to files that it has.
abbrev pub LoadedArePrograms : Type 0
LoadedArePrograms = (program : List SourceFile) → IsLoaded program → IsProgram program
