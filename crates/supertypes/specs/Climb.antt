-- The climb from class to class that finds an order, step by step as the code goes, and what holds of it.
use Rattle.std.specs.Prelude.{◌≡◌, ◌⊎◌, ◌+◌, ◌<◌, ℕ, Bool, true, false, if◌then◌else◌, List, [], ◌∷◌, ◌++◌, length, map, replicate, take, slice_get, slice_index_or, slice_set, Option, Some, None, Contains}
use Rattle.std.specs.List.{All, sum_by}
use Rattle.class_heads.specs.Supertypes.{Classes, supertypes_of, IsAbove}
use Rattle.supertypes.specs.declared.climb.Step.{Step}
use Rattle.supertypes.specs.declared.climb.Climb.{Climb}

-- ---- steps

abbrev pub not_begun : ℕ → Climb
not_begun n = record { is_begun = replicate n false; way = []; order = [] }

-- What is no number of a class counts as begun.
abbrev pub is_begun : Climb → ℕ → Bool
is_begun s c = slice_index_or s.is_begun c true

abbrev pub begun : Climb → ℕ → Climb
begun s c = if is_begun s c then s else record { is_begun = slice_set s.is_begun c true; way = s.way ++ record { class = c; looked_at = 0 } ∷ []; order = s.order }

abbrev pub past : Step → Step
past x = record { class = x.class; looked_at = x.looked_at + 1 }

abbrev pub onward : Climb → Step → Option ℕ → Climb
onward s x None = record { is_begun = s.is_begun; way = s.way; order = s.order ++ x.class ∷ [] }
onward s x (Some d) = begun (record { is_begun = s.is_begun; way = s.way ++ past x ∷ []; order = s.order }) d

-- where this step was the last one of the way
abbrev pub looked : Classes → Climb → Step → Climb
looked cs s x = onward s x (slice_get (supertypes_of cs x.class) x.looked_at)

-- ---- what holds between them

-- the classes on the way
abbrev pub line : List Step → List ℕ
line way = map (λ x. x.class) way

abbrev pub one_if_not : Bool → ℕ
one_if_not b = if b then 0 else 1

abbrev pub IsLookedAt : Classes → List Bool → Step → Type 0
IsLookedAt cs flags x = (j : ℕ) → j < x.looked_at → slice_index_or flags (slice_index_or (supertypes_of cs x.class) j 0) true ≡ true

-- What is begun stands on the way or in the order. On the way each class is above those before it.
pub record IsClimb (cs : Classes) (s : Climb) : Type 0 where
  pub long : length s.is_begun ≡ length cs
  pub counts : sum_by one_if_not s.is_begun + length s.way + length s.order ≡ length cs
  pub on_way : (c : ℕ) → Contains (line s.way) c → c < length cs
  pub numbers : (c : ℕ) → Contains s.order c → c < length cs
  pub known : (c : ℕ) → slice_index_or s.is_begun c false ≡ true → Contains (line s.way) c ⊎ Contains s.order c
  pub before : (i : ℕ) → i < length s.order → (d : ℕ) → Contains (supertypes_of cs (slice_index_or s.order i 0)) d → d < length cs → Contains (take i s.order) d
  pub above : (i j : ℕ) → i < j → j < length (line s.way) → IsAbove cs (slice_index_or (line s.way) i 0) (slice_index_or (line s.way) j 0)

-- all classes below n are begun, and what was looked at
pub record IsClimbing (cs : Classes) (n : ℕ) (s : Climb) : Type 0 where
  pub climb : IsClimb cs s
  pub looked_at : All (IsLookedAt cs s.is_begun) s.way
  pub begun : (c : ℕ) → c < n → is_begun s c ≡ true

-- and nothing is left on the way
pub record HasClimbed (cs : Classes) (n : ℕ) (s : Climb) : Type 0 where
  pub climbing : IsClimbing cs n s
  pub ended : s.way ≡ []
