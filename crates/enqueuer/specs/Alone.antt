-- What a desk has when one worker goes on alone, and how much work is left.
use Rattle.std.specs.Prelude.{◌≡◌, ℕ, zero, suc, ◌+◌, ◌*◌, ◌<◌, Bool, not, length, None, if◌then◌else◌}
use Rattle.type_masks.specs.Masks.{has}
use Rattle.world_state.specs.declared.fact.Fact.TheVariants.{Live}
use Rattle.world_state.specs.Worlds.{Facts, has_fact, mask_at}
use Rattle.enqueuer_core.specs.Least.{Meaning}
use Rattle.enqueuer_core.specs.Core.{State, IsState, held_by}
use Rattle.enqueuer_core.specs.Desks.{AreOf}

-- the desk is over the shape and the roots of m, its history is one of m, and nobody holds a job
pub record IsAlone (m : Meaning) (s : State) : Type 0 where
  pub state : IsState s
  pub shape : s.shape ≡ m.shape
  pub roots : s.roots ≡ m.roots
  pub ours : AreOf m s.history
  pub worker : 0 < length s.held
  pub free : (worker : ℕ) → held_by s worker ≡ None

-- the sum of the numbers below n
abbrev pub sum_below : (ℕ → ℕ) → ℕ → ℕ
sum_below f zero = 0
sum_below f (suc n) = sum_below f n + f n

abbrev pub one_if : Bool → ℕ
one_if b = if b then 1 else 0

-- how many facts of the shape the world lacks
abbrev pub missing : Facts → ℕ
missing w =
    sum_below (λ n. one_if (not (has_fact w (Live n)))) w.shape.members
    + sum_below (λ slot. sum_below (λ kind. one_if (not (has (mask_at w slot) kind))) w.shape.kinds) w.shape.slots

-- each fact may wake all members once
abbrev pub work_left : State → ℕ
work_left s = missing s.world * (s.shape.members + 1) + length s.pending
