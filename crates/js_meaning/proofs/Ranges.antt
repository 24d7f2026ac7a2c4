-- Numbers that leave the range of whole numbers.
use Rattle.std.proofs.Common.{◌≡◌, ◌≤◌, Bool, true, false, arith}
use Rattle.std.specs.Prelude.{ℤ, pos, negsuc, nat_le, nat_abs, FitsSigned}
use Rattle.std.proofs.lemmas.Bool.{leb-true, false_from_ne_true}
use Rattle.std.specs.Int.{w64, w128}
use Rattle.store_lists.specs.Limits.{greatest}
use Rattle.js_meaning.specs.Operators.{in_range}

small : (z : ℤ) → nat_abs z ≤ greatest → FitsSigned w64 z
small (pos n) le = record { sfits = omega (arith, le) }
small (negsuc n) le = record { sfits = omega (arith, le) }

pub fits : (z : ℤ) → in_range z ≡ true → FitsSigned w64 z
fits z e = small z (leb-true (nat_abs z) greatest e)

wide : (z : ℤ) → nat_abs z ≤ greatest → FitsSigned w128 z
wide (pos n) le = record { sfits = omega (arith, le) }
wide (negsuc n) le = record { sfits = omega (arith, le) }

-- a number that no i128 holds is farther from 0 than 2^53-1
pub too_wide : (z : ℤ) → (FitsSigned w128 z → ⊥) → in_range z ≡ false
too_wide z h = false_from_ne_true (in_range z) (λ t. h (wide z (leb-true (nat_abs z) greatest t)))
