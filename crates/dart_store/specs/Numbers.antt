-- Natives on whole numbers. All but the first operand may be anything, and what is no whole number is a wrong argument.
use Rattle.std.specs.Prelude.{ℕ, ◌-◌, ◌%◌, ℤ, pos, negsuc, ◌+ℤ◌, ◌-ℤ◌, ◌*ℤ◌, neg_ℤ, nat_abs, int_div, int_lt, int_le, nat_eq, Bool, Option, Some, None, if◌then◌else◌}
use Rattle.std.specs.Ordering.{int_eq}
use Rattle.std.specs.Fmt.{signed_decimal}
use Rattle.dart_store.specs.Answers.{number, count}
use Rattle.dart_store.specs.declared.value.Value.TheVariants as v
use Rattle.dart_store.specs.declared.answers.Thrower.TheVariants.{Argument, Divide}
use Rattle.dart_store.specs.declared.answers.Applied.{Applied}
use Rattle.dart_store.specs.declared.answers.Applied.TheVariants.{Gives, Throws}

abbrev pub sum : (a b : Option ℤ) → Applied
sum (Some a) (Some b) = number (a +ℤ b)
sum _ _ = Throws Argument

abbrev pub difference : (a b : Option ℤ) → Applied
difference (Some a) (Some b) = number (a -ℤ b)
difference _ _ = Throws Argument

abbrev pub product : (a b : Option ℤ) → Applied
product (Some a) (Some b) = number (a *ℤ b)
product _ _ = Throws Argument

abbrev pub negative : Option ℤ → Applied
negative (Some a) = number (neg_ℤ a)
negative None = Throws Argument

-- `~/`: the quotient, towards zero
abbrev pub quotient_of : (a b : ℤ) → Applied
quotient_of a b = if int_eq b (pos 0) then Throws Divide else number (int_div a b)

abbrev pub quotient : (a b : Option ℤ) → Applied
quotient (Some a) (Some b) = quotient_of a b
quotient _ _ = Throws Argument

-- what is left of a number where whole ones of this size are taken off or added, until it is below the size and not below 0
abbrev pub left_over : ℤ → ℕ → ℕ
left_over (pos a) size = a % size
left_over (negsuc a) size = size - 1 - a % size

-- `%`: never negative, and less than the divisor's absolute value
abbrev pub remainder_of : ℤ → ℕ → Applied
remainder_of a size = if nat_eq size 0 then Throws Divide else count (left_over a size)

abbrev pub remainder : (a b : Option ℤ) → Applied
remainder (Some a) (Some b) = remainder_of a (nat_abs b)
remainder _ _ = Throws Argument

abbrev pub compared : (ℤ → ℤ → Bool) → (a b : Option ℤ) → Applied
compared test (Some a) (Some b) = Gives (v.Bool (test a b))
compared test _ _ = Throws Argument

abbrev pub less : (a b : ℤ) → Bool
less a b = int_lt a b

abbrev pub more : (a b : ℤ) → Bool
more a b = int_lt b a

abbrev pub up_to : (a b : ℤ) → Bool
up_to a b = int_le a b

abbrev pub from : (a b : ℤ) → Bool
from a b = int_le b a

-- the decimal digits, with `-` in front of those of a number below 0
abbrev pub digits : Option ℤ → Applied
digits (Some a) = Gives (v.Text (signed_decimal a))
digits None = Throws Argument
