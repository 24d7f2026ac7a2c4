-- Whole numbers of a run lie within plus or minus 2^53 - 1, and no text, list or map has more entries.
use Rattle.std.specs.Prelude.{ℕ, ℤ, Bool, Option, Some, None, nat_abs, nat_le, if◌then◌else◌}

abbrev pub greatest : ℕ
greatest = 9007199254740991

-- the number, unless it is farther from 0
abbrev pub in_range : ℤ → Option ℤ
in_range z = if nat_le (nat_abs z) greatest then Some z else None

abbrev pub is_length : ℕ → Bool
is_length n = nat_le n greatest
