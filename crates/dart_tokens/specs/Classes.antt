-- Classes of bytes.
use Rattle.std.specs.Prelude.{ℕ, Bool}
use Rattle.dart_tokens.specs.declared.bytes.Class.{Class}
use Rattle.dart_tokens.specs.declared.bytes.Class.TheVariants.{Digit, Hex, Part, Inner, Line, Own}
use Rattle.dart_syntax.specs.Table.{is_digit, is_hex, is_part}
use Rattle.dart_syntax.specs.Gaps.{in_line}
use Rattle.dart_syntax.specs.Texts.{is_inner, is_own}

abbrev pub is_of : Class → ℕ → Bool
is_of Digit = is_digit
is_of Hex = is_hex
is_of Part = is_part
is_of Inner = is_inner
is_of Line = in_line
is_of (Own double raw) = is_own double raw
