-- What a native answers: a value, one of three throwers, or that the run leaves the whole numbers. A count of units,
-- entries or callbacks is a whole number too.
use Rattle.std.specs.Prelude.{ℕ, ℤ, pos, Bool, Option, Some, None, nat_abs, nat_le, nat_lt, length, if◌then◌else◌}
use Rattle.store_lists.specs.Limits.{greatest, is_length}
use Rattle.store_lists.specs.Text.{Text}
use Rattle.dart_store.specs.declared.value.Value.TheVariants as v
use Rattle.dart_store.specs.declared.answers.Applied.{Applied}
use Rattle.dart_store.specs.declared.answers.Applied.TheVariants.{Gives, Leaves}

abbrev pub number : ℤ → Applied
number z = if nat_le (nat_abs z) greatest then Gives (v.Int z) else Leaves

abbrev pub count : ℕ → Applied
count n = if nat_le n greatest then Gives (v.Int (pos n)) else Leaves

abbrev pub text : Text → Applied
text units = if is_length (length units) then Gives (v.Text units) else Leaves

-- whether one more than so many is a whole number still
abbrev pub has_room : ℕ → Bool
has_room n = nat_lt n greatest

-- the number that a checked operation gave, or nothing where it found none
abbrev pub checked : Option ℤ → Applied
checked (Some z) = number z
checked None = Leaves
