-- A loop that counts turns up, beside a recursion that counts them down.
use Rattle.std.proofs.Common.{◌≡◌, ℕ, suc, ◌+◌, ◌-◌, ◌<◌, ◌≤◌, arith}

pub one_turn : (n at : ℕ) → at < n → n - at ≡ suc (n - (at + 1))
one_turn n at below = omega arith

pub no_turn : (n at : ℕ) → n ≤ at → n - at ≡ 0
no_turn n at done = omega arith

pub one_up : (n : ℕ) → 0 < n → n ≡ suc (n - 1)
one_up n some = omega arith
