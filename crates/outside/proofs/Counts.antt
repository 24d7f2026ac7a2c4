-- Counts that stand still at their last value.
use Rattle.std.proofs.Common.{◌≡◌, ℕ, ◌+◌, ◌-◌, ◌^◌, ◌<◌, ◌≤◌, min, inl, inr, ⊎_elim, arith}
use Rattle.std.proofs.lemmas.Bool.{cases_lt}
use Rattle.outside.specs.Outside.{Rose}

pub Rose-min : (before now : ℕ) → now ≡ min (before + 1) (2 ^ 64 - 1) → Rose before now
Rose-min before now is =
    ⊎_elim
    (λ (below : before < 2 ^ 64 - 1). inl (omega arith))
    (λ (last : 2 ^ 64 - 1 ≤ before). inr (omega arith))
    (cases_lt before (2 ^ 64 - 1))
