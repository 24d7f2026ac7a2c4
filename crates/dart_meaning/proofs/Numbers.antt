-- Numbers that leave the range of whole numbers.
use Rattle.std.proofs.Common.{◌≡◌, ◌≤◌, cond, Some, None, ap, arith}
use Rattle.std.specs.Prelude.{ℤ, pos, negsuc, nat_le, nat_abs, FitsSigned}
use Rattle.std.proofs.lemmas.Bool.{leb-true, false_from_ne_true}
use Rattle.std.specs.Int.{w128}
use Rattle.dart_meaning.specs.declared.program.TheConstants.{MAX_NUMBER}
use Rattle.dart_meaning.specs.Meaning.{in_range}

fits : (z : ℤ) → nat_abs z ≤ MAX_NUMBER → FitsSigned w128 z
fits (pos n) small = record { sfits = omega (arith, small) }
fits (negsuc n) small = record { sfits = omega (arith, small) }

-- a number that no i128 holds is farther from 0 than 2^53-1
pub too_wide : (z : ℤ) → (FitsSigned w128 z → ⊥) → in_range z ≡ None
too_wide z never = ap (λ t. cond t (Some z) None) (false_from_ne_true (nat_le (nat_abs z) MAX_NUMBER) (λ t. never (fits z (leb-true _ _ t))))
