-- Orders of classes from the top down.
use Rattle.std.specs.Prelude.{◌≡◌, ◌<◌, ℕ, List, length, take, slice_index_or, Contains}
use Rattle.class_heads.specs.Supertypes.{Classes, supertypes_of}

-- An order of classes in which what a class names in its head stands before it.
pub record IsUpward (cs : Classes) (order : List ℕ) : Type 0 where
  pub long : length order ≡ length cs
  pub numbers : (c : ℕ) → Contains order c → c < length cs
  pub all : (c : ℕ) → c < length cs → Contains order c
  pub before : (i : ℕ) → i < length order → (d : ℕ) → Contains (supertypes_of cs (slice_index_or order i 0)) d → d < length cs → Contains (take i order) d
