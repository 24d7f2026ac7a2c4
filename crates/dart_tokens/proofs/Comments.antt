-- A turn of the loop through a comment.
use Rattle.std.proofs.Common.{◌≡◌, ℕ, zero, suc, ◌+◌, ◌-◌, ◌<◌, true, false, ◌∷◌, refl, sym, ap, ◌∙◌, arith}
use Rattle.dart_syntax.specs.Table.{Bytes}
use Rattle.dart_syntax.specs.Gaps.{opens, closes}
use Rattle.dart_syntax.specs.Reader.{inside}

close_turn : (d b c : ℕ) (after : Bytes) → closes b c ≡ true → 0 < d → inside (d - 1) after ≡ inside d (b ∷ c ∷ after)
unfolding inside
close_turn zero b c after h l = absurd (omega arith)
close_turn (suc d) b c after h l = rw h (let same : suc d - 1 ≡ d = omega arith in ap (λ (n : ℕ). inside n after) same)

pub turn_close : (d b c : ℕ) (rest more after : Bytes) → rest ≡ b ∷ more → more ≡ c ∷ after → closes b c ≡ true → 0 < d → inside (d - 1) after ≡ inside d rest
turn_close d b c rest more after e f h l = close_turn d b c after h l ∙ ap (inside d) (sym (e ∙ ap (λ (xs : Bytes). b ∷ xs) f))

open_turn : (d b c : ℕ) (after : Bytes) → closes b c ≡ false → opens b c ≡ true → inside (d + 1) after ≡ inside d (b ∷ c ∷ after)
unfolding inside
open_turn zero b c after h o = rw (h, o) refl
open_turn (suc d) b c after h o = rw (h, o) (let same : suc d + 1 ≡ suc (suc d) = omega arith in ap (λ (n : ℕ). inside n after) same)

pub turn_open : (d b c : ℕ) (rest more after : Bytes) → rest ≡ b ∷ more → more ≡ c ∷ after → closes b c ≡ false → opens b c ≡ true → inside (d + 1) after ≡ inside d rest
turn_open d b c rest more after e f h o = open_turn d b c after h o ∙ ap (inside d) (sym (e ∙ ap (λ (xs : Bytes). b ∷ xs) f))

other_turn : (d b c : ℕ) (after : Bytes) → closes b c ≡ false → opens b c ≡ false → inside d (c ∷ after) ≡ inside d (b ∷ c ∷ after)
unfolding inside
other_turn zero b c after h o = rw (h, o) refl
other_turn (suc d) b c after h o = rw (h, o) refl

pub turn_other : (d b c : ℕ) (rest more after : Bytes) → rest ≡ b ∷ more → more ≡ c ∷ after → closes b c ≡ false → opens b c ≡ false → inside d more ≡ inside d rest
turn_other d b c rest more after e f h o = ap (inside d) f ∙ (other_turn d b c after h o ∙ ap (inside d) (sym (e ∙ ap (λ (xs : Bytes). b ∷ xs) f)))
