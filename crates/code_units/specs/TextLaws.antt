-- What holds between UTF-8 bytes and units.
use Rattle.std.specs.Prelude.{◌≡◌, ℕ, ◌^◌, ◌<◌, false, All, List, ◌++◌}
use Rattle.std.specs.Char.Utf16.{has_unpaired_surrogate}
use Rattle.std.specs.Str.{IsAscii, IsUtf8}
use Rattle.code_units.specs.Text.{units_of, utf8_of}

-- UTF-8 that is read and written again is the same
abbrev pub Utf8ComesBack : Type 0
Utf8ComesBack = (bytes : List ℕ) → IsUtf8 bytes → utf8_of (units_of bytes) ≡ bytes

-- units without a lone surrogate that are written and read again are the same
abbrev pub PairedUnitsComeBack : Type 0
PairedUnitsComeBack = (units : List ℕ) → All (λ unit. unit < 2 ^ 16) units → has_unpaired_surrogate units ≡ false → units_of (utf8_of units) ≡ units

-- what is written is UTF-8
abbrev pub WritesUtf8 : Type 0
WritesUtf8 = (units : List ℕ) → All (λ unit. unit < 2 ^ 16) units → IsUtf8 (utf8_of units)

-- what is read has no lone surrogate
abbrev pub ReadsPairs : Type 0
ReadsPairs = (bytes : List ℕ) → IsUtf8 bytes → has_unpaired_surrogate (units_of bytes) ≡ false

-- equal units come from equal bytes
abbrev pub UnitsTellApart : Type 0
UnitsTellApart = (a b : List ℕ) → IsUtf8 a → IsUtf8 b → units_of a ≡ units_of b → a ≡ b

-- the units of two texts behind each other stand behind each other
abbrev pub UnitsJoin : Type 0
UnitsJoin = (a b : List ℕ) → IsUtf8 a → units_of (a ++ b) ≡ units_of a ++ units_of b

-- each byte of ASCII is a unit
abbrev pub AsciiIsItsUnits : Type 0
AsciiIsItsUnits = (bytes : List ℕ) → IsAscii bytes → units_of bytes ≡ bytes
