-- A text is its list of UTF-16 units.
use Rattle.std.specs.Prelude.{ℕ, List, [], ◌∷◌, ◌++◌}
use Rattle.std.specs.Char.Escape.{encode_utf16}
use Rattle.std.specs.Char.Utf16.{utf16_lossy_chars}
use Rattle.std.specs.Str.{chars, encode_utf8_all, IsUtf8, IsValidUpTo}
use Rattle.code_units.specs.declared.text.TextError.{TextError}
use Rattle.code_units.specs.declared.text.TextError.TheVariants.{BadUtf8, Memory}

-- the units of these characters: one for a character up to FFFF, a pair for one above
abbrev pub units_of_chars : List ℕ → List ℕ
units_of_chars [] = []
units_of_chars (c ∷ cs) = encode_utf16 c ++ units_of_chars cs

-- the units of the characters that these UTF-8 bytes spell
abbrev pub units_of : List ℕ → List ℕ
units_of bytes = units_of_chars (chars bytes)

-- the UTF-8 bytes of these units, EF BF BD for each surrogate that has no partner
abbrev pub utf8_of : List ℕ → List ℕ
utf8_of units = encode_utf8_all (utf16_lossy_chars units)

-- Why bytes were no text: either they are not UTF-8, and `at` is the length of their longest front that is,
-- or memory was wanting, which no bytes rule out.
abbrev pub IsRefusalOf : List ℕ → TextError → Type 0
IsRefusalOf bytes (BadUtf8 at) = ¬ (IsUtf8 bytes) × IsValidUpTo bytes at
IsRefusalOf bytes Memory = Unit {0}
