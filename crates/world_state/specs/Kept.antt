-- How a world is kept in masks.
use Rattle.std.specs.Prelude.{◌≡◌, ℕ, ◌*◌, ◌/◌, ◌<◌, ◌≤◌, true, List, [], ◌∷◌, length, take}
use Rattle.std.specs.Ordering.{nat_cmp}
use Rattle.std.specs.FinSet as set
use Rattle.type_masks.specs.Masks.{Kinds, has}
use Rattle.type_masks.specs.declared.shape.Shape.{Shape}
use Rattle.world_state.specs.Worlds.{Facts, IsWorld}
use Rattle.world_state.specs.Pages.{mask_of}

-- the kinds of all masks together
abbrev pub kinds_of : List Kinds → set.FinSet nat_cmp
kinds_of [] = set.empty
kinds_of (m ∷ ms) = set.union m.set (kinds_of ms)

-- the world of the masks of its slots, behind which more may stand, and of masks that have its live members
abbrev pub facts_in : Shape → List Kinds → List Kinds → Facts
facts_in s masks live = record { shape = s; masks = take s.slots masks; live = kinds_of live }

-- what is kept is a world, and a live member stands in the mask of its 64
pub record IsKept (s : Shape) (masks live : List Kinds) : Type 0 where
  pub slots : s.slots ≤ length masks
  pub members : s.members ≤ length live * 64
  pub bounds : (number : ℕ) → number < length live → (mask_of live number).bound ≡ s.members
  pub blocks : (number member : ℕ) → has (mask_of live number) member ≡ true → member / 64 ≡ number
  pub world : IsWorld (facts_in s masks live)
