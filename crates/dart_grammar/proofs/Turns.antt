-- A recursion on a count of turns, beside a loop that counts up.
use Rattle.std.proofs.Common.{◌≡◌, ℕ, suc, ◌+◌, ◌-◌, ◌<◌, ◌≤◌, arith}

pub one_turn : (n at : ℕ) → at < n → n - at ≡ suc (n - (at + 1))
one_turn n at below = omega arith

pub no_turn : (n at : ℕ) → n ≤ at → n - at ≡ 0
no_turn n at done = omega arith
