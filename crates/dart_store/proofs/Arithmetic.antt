-- What checked operations and the remainder give.
use Rattle.std.proofs.Common.{◌≡◌, ℕ, zero, suc, ◌-◌, ◌%◌, ◌<◌, ◌≤◌, cond, Bool, true, false, Option, Some, None, SomeIff, refl, sym, ap, ◌∙◌, arith}
use Rattle.std.specs.Prelude.{ℤ, pos, negsuc, nat_le, nat_abs, int_lt, int_div, FitsSigned}
use Rattle.std.proofs.lemmas.Bool.{leb-true, ltb-true, false_from_ne_true}
use Rattle.std.specs.Int.{w64, CanDivide, IsNonZero}
use Rattle.std.specs.Ordering.{int_eq}
use mathlib.Core.Bool.{true≢false}
use Rattle.store_lists.specs.Limits.{greatest}
use Rattle.dart_store.specs.Answers.{number, checked}
use Rattle.dart_store.specs.Numbers.{left_over}
use Rattle.dart_store.specs.declared.value.Value.TheVariants as v
use Rattle.dart_store.specs.declared.answers.Applied.TheVariants.{Gives, Leaves}

fits : (z : ℤ) → nat_abs z ≤ greatest → FitsSigned w64 z
fits (pos n) small = record { sfits = omega (arith, small) }
fits (negsuc n) small = record { sfits = omega (arith, small) }

-- a number that no i64 holds is farther from 0 than the greatest one
pub too_wide : (z : ℤ) → (FitsSigned w64 z → ⊥) → number z ≡ Leaves
too_wide z never = ap (λ t. cond t (Gives (v.Int z)) Leaves) (false_from_ne_true (nat_le (nat_abs z) greatest) (λ t. never (fits z (leb-true _ _ t))))

pub checked_is : (o : Option ℤ) (z : ℤ) → SomeIff o (FitsSigned w64 z) z → checked o ≡ number z
checked_is None z never = sym (too_wide z never)
checked_is (Some x) z h = ap number h.1

nonzero : (b : ℤ) → FitsSigned w64 b → int_eq b (pos 0) ≡ false → IsNonZero w64 b
nonzero (pos zero) f h = absurd (true≢false h)
nonzero (pos (suc n)) f h = omega arith
nonzero (negsuc n) f h = omega (arith, f.sfits)

pub quotient_is : (o : Option ℤ) (a b : ℤ) → FitsSigned w64 b → int_eq b (pos 0) ≡ false → SomeIff o (CanDivide w64 a b) (int_div a b) → checked o ≡ number (int_div a b)
quotient_is None a b f h never = sym (too_wide (int_div a b) (λ g. never (nonzero b f h, g)))
quotient_is (Some x) a b f h k = ap number k.1

pub left_above : (a : ℤ) (size : ℕ) → int_lt a (pos 0) ≡ false → nat_abs a % size ≡ left_over a size
left_above (pos n) size h = refl
left_above (negsuc n) size h = absurd (true≢false h)

pub left_below : (a : ℤ) (size : ℕ) → int_lt a (pos 0) ≡ true → size - 1 - (nat_abs a - 1) % size ≡ left_over a size
left_below (pos n) size h = absurd (omega (arith, ltb-true n 0 h))
left_below (negsuc n) size h = ap (λ k. size - 1 - k % size) (omega arith)
