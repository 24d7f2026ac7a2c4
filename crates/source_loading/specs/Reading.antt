-- What a read for a name tells.
use Rattle.std.specs.Prelude.{◌≡◌, ◌+◌, ℕ, true, false, take, List, Option, Some, None}
use Rattle.std.specs.Char.Utf16.{has_unpaired_surrogate}
use Rattle.code_units.specs.Text.{units_of, utf8_of}
use Rattle.outside.specs.Outside.{Held}
use Rattle.outside.specs.declared.traits.Read.{Read}
use Rattle.outside.specs.declared.traits.Read.TheVariants.{Got, Absent, Failed, Memory}
use Rattle.dart_program.specs.Loading.{held_as, most_bytes}
use Rattle.source_loading.specs.Tells.{Agrees}

-- the units of a name with no lone surrogate come back from its UTF-8
abbrev pub ComesBack : List ℕ → Type 0
ComesBack name = has_unpaired_surrogate name ≡ false → units_of (utf8_of name) ≡ name

-- a name in UTF-8, where it has no lone surrogate
abbrev pub IsUtf8Name : List ℕ → Option (List ℕ) → Type 0
IsUtf8Name name (Some bytes) = (has_unpaired_surrogate name ≡ false) × (bytes ≡ utf8_of name)
IsUtf8Name name None = has_unpaired_surrogate name ≡ true

-- something is held that agrees, and this is what it has under the name
pub record Holds (told : Option Held) (name : List ℕ) (content : Option (List ℕ)) : Type 0 where
  pub held : Held
  pub agrees : Agrees told held
  pub is : held_as held name ≡ content

-- One byte more than a file may have is asked for.
abbrev pub ReadsAs : Option Held → List ℕ → Read → Type 0
ReadsAs told name (Got bytes) = (content : List ℕ) × Holds told name (Some content) × (bytes ≡ take (most_bytes + 1) content)
ReadsAs told name Absent = Holds told name None
ReadsAs told name Failed = Unit {0}
ReadsAs told name Memory = Unit {0}
