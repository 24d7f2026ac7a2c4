-- What the calls of a desk answer.
use Rattle.std.specs.Prelude.{◌≡◌, ℕ, ◌<◌, true, false, List, [], ◌∷◌}
use Rattle.std.specs.List.{AllByRecursion}
use Rattle.std.specs.Bool.{MatchBool}
use Rattle.type_masks.specs.Masks.{Kinds, is_within}
use Rattle.world_state.specs.Worlds.{Facts, mask_at}
use Rattle.world_state.specs.declared.reads.SlotRead.{SlotRead}
use Rattle.enqueuer_core.specs.declared.history.Entry.{Entry}
use Rattle.enqueuer_core.specs.declared.job.Job.{Job}
use Rattle.enqueuer_core.specs.declared.joined.Joined.{Joined}
use Rattle.enqueuer_core.specs.declared.joined.Joined.TheVariants.{Whole, Part, Dropped}
use Rattle.enqueuer_core.specs.Least.{Meaning, IsOneOf}
use Rattle.enqueuer_core.specs.Core.{State, Take, happens, all_within, all_same, times}

-- the first read whose mask does not lie in the mask now is of this slot, with these masks
abbrev pub IsFirstOutside : Facts → List SlotRead → ℕ → Kinds → Kinds → Type 0
IsFirstOutside w [] slot read current = ⊥
IsFirstOutside w (r ∷ rs) slot read current =
    MatchBool (is_within r.mask (mask_at w r.slot)) (IsFirstOutside w rs slot read current) ((r.slot ≡ slot) × (r.mask ≡ read) × (mask_at w r.slot ≡ current))

-- what a join of these reads answers
abbrev pub IsVerdict : Facts → List SlotRead → Joined → Type 0
IsVerdict w rs Whole = (all_within w rs ≡ true) × (all_same w rs ≡ true)
IsVerdict w rs Part = (all_within w rs ≡ true) × (all_same w rs ≡ false)
IsVerdict w rs (Dropped slot read current) = (all_within w rs ≡ false) × IsFirstOutside w rs slot read current

-- the job is of this worker and of a member that was pending, and the rest is the event
pub record IsTaken (old new : State) (worker : ℕ) (job : Job) : Type 0 where
  pub worker_is : job.worker ≡ worker
  pub snapshot : job.snapshot ≡ old.world
  pub pending : 0 < times job.member old.pending
  pub event : new ≡ happens old (Take worker job.member)

-- each impact of the history is one of m
abbrev pub AreOf : Meaning → List Entry → Type 0
AreOf m es = AllByRecursion (λ (e : Entry). IsOneOf m e.impact) es
