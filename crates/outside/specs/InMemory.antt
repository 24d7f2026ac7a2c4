-- A source and a sink in memory.
use Rattle.std.specs.Prelude.{ℕ, ◌+◌, ◌-◌, ◌^◌, ◌<◌, ◌≤◌, min, Bool, not, ◌&&◌, List, [], ◌∷◌, length, Some, None, Contains, if◌then◌else◌}
use Rattle.std.specs.Char.Utf16.{has_unpaired_surrogate}
use Rattle.std.specs.Str.{bytes_eq}
use Rattle.code_units.specs.declared.lists.NamedFile.{NamedFile}
use Rattle.code_units.specs.Text.{utf8_of}
use Rattle.outside.specs.Outside.{Held}

-- the file has this name: no unit of its name is a lone surrogate, and the name's UTF-8 is this
abbrev pub is_named : NamedFile → List ℕ → Bool
is_named file name = not (has_unpaired_surrogate file.name) && bytes_eq (utf8_of file.name) name

-- the files of a list by name: of several files that have a name, the first
abbrev pub held_in : List NamedFile → Held
held_in [] name = None
held_in (file ∷ files) name = if is_named file name then Some file.bytes else held_in files name

-- one more, up to the last value that 64 bits hold
abbrev pub one_more : ℕ → ℕ
one_more count = min (count + 1) (2 ^ 64 - 1)

-- a source in memory: its files, the numbers of its calls that fail, how many calls it has had, and its faults
pub record MemorySource : Type 0 where
  pub files : List NamedFile
  pub failing : List ℕ
  pub calls : ℕ
  pub faults : ℕ

-- A sink in memory: its files, the text said, for how many puts and how many bytes it has room, the numbers of its
-- calls that fail, how many calls it has had, and its faults.
pub record MemorySink : Type 0 where
  pub files : List NamedFile
  pub said : List ℕ
  pub puts : ℕ
  pub room : ℕ
  pub failing : List ℕ
  pub calls : ℕ
  pub faults : ℕ

-- the next put has room for this name and these bytes, and is not one of those that fail
pub record LetsPut (sink : MemorySink) (name bytes : List ℕ) : Type 0 where
  pub puts : 0 < sink.puts
  pub room : length name + length bytes ≤ sink.room
  pub spared : ¬ (Contains sink.failing (one_more sink.calls))

-- the next say has room for these bytes, and is not one of those that fail
pub record LetsSay (sink : MemorySink) (bytes : List ℕ) : Type 0 where
  pub room : length bytes ≤ sink.room
  pub spared : ¬ (Contains sink.failing (one_more sink.calls))
