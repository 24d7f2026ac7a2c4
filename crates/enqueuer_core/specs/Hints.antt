-- Who may have read a slot, and whom new facts wake.
use Rattle.std.specs.Prelude.{◌≡◌, ℕ, ◌<◌, Bool, true, false, ◌||◌, nat_eq, List, [], length, slice_index_or, Option, None, Some}
use Rattle.std.specs.List.{list_any}
use Rattle.index_links.specs.Lists.{is_in}
use Rattle.type_masks.specs.declared.shape.Shape.{Shape}
use Rattle.world_state.specs.declared.fact.Fact.{Fact}
use Rattle.world_state.specs.declared.fact.Fact.TheVariants.{In, Live}
use Rattle.world_state.specs.declared.impact.Impact.{Impact}
use Rattle.world_state.specs.Reads.{is_read}

-- whether what a member settled on has read the slot
abbrev pub has_read : ℕ → Option Impact → Bool
has_read slot None = false
has_read slot (Some j) = is_read j.reads slot

-- whether the member at a place settled on having read the slot
abbrev pub reads_at : List (Option Impact) → ℕ → ℕ → Bool
reads_at settled slot n = has_read slot (slice_index_or settled n None)

-- whether a member stands in the list of a slot
abbrev pub is_listed : List (List ℕ) → ℕ → ℕ → Bool
is_listed readers slot n = is_in n (slice_index_or readers slot [])

-- each settled member stands in the list of each slot that it has read
pub record AreListed (readers : List (List ℕ)) (settled : List (Option Impact)) : Type 0 where
  pub each : (n slot : ℕ) → reads_at settled slot n ≡ true → is_listed readers slot n ≡ true

-- whether a member is marked
abbrev pub is_marked : List Bool → ℕ → Bool
is_marked marks n = slice_index_or marks n false

-- each settled member stands in the list of each slot that it has read, or is marked
pub record AreListedOrMarked (readers : List (List ℕ)) (marks : List Bool) (settled : List (Option Impact)) : Type 0 where
  pub each : (n slot : ℕ) → reads_at settled slot n ≡ true → (is_listed readers slot n || is_marked marks n) ≡ true

-- whether a new fact wakes a member that settled on this
abbrev pub wakes : Option Impact → ℕ → Fact → Bool
wakes o n (In slot kind) = has_read slot o
wakes o n (Live m) = nat_eq m n

-- the hints of a desk: a list for each slot, which has all that read it, and a mark for each member, of which none is set
pub record AreHints (s : Shape) (settled : List (Option Impact)) (readers : List (List ℕ)) (marks : List Bool) : Type 0 where
  pub slots : length readers ≡ s.slots
  pub members : length marks ≡ s.members
  pub listed : AreListed readers settled
  pub unmarked : (n : ℕ) → is_marked marks n ≡ false

-- while facts are gone through: whoever is marked, or is woken by one that is left, is one of these members
pub record IsMarking (target : ℕ → Bool) (readers : List (List ℕ)) (marks : List Bool) (settled : List (Option Impact)) (rest : List Fact) : Type 0 where
  pub long : length marks ≡ length settled
  pub half : AreListedOrMarked readers marks settled
  pub done : (n : ℕ) → n < length settled → (is_marked marks n || list_any (wakes (slice_index_or settled n None) n) rest) ≡ target n
