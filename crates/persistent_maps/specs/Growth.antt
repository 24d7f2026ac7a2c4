-- Nodes are only appended.
use Rattle.std.specs.Prelude.{ℕ, ◌≡◌, ◌<◌, ◌≤◌, List, [], ◌∷◌, ◌++◌, length, slice_index_or, Option, Some, IfSome}
use Rattle.std.specs.Option.{option_or}
use Rattle.persistent_maps.specs.declared.nodes.Node.{Node}
use Rattle.persistent_maps.specs.Nodes.{no_halves, node_at}
use Rattle.persistent_maps.specs.Lookup.{value_at, IsMapTo}
use Rattle.persistent_maps.specs.Gives.{put}

pub record Extends (old new : List Node) : Type 0 where
  pub longer : length old ≤ length new
  pub same : (i : ℕ) → i < length old → slice_index_or new i no_halves ≡ slice_index_or old i no_halves

pub record IsPushed (old new : List Node) (node : Node) (number : ℕ) : Type 0 where
  pub last : new ≡ old ++ node ∷ []
  pub numbered : number ≡ length old

-- the root of a map that has this value at the key, and otherwise what the one of the old root has
pub record Puts (old new : List Node) (bits : ℕ) (root : Option ℕ) (key value made : ℕ) : Type 0 where
  pub is_map : IsMapTo new bits (Some made)
  pub values : (k : ℕ) → value_at new bits (Some made) k ≡ put (value_at old bits root) key value k

-- a node of this number is there, and is this one
pub record StandsAt (nodes : List Node) (number : Option ℕ) (node : Node) : Type 0 where
  pub there : IfSome number (λ n. n < length nodes)
  pub is : node_at nodes number ≡ node

-- the root of a map that has what the left one has, and else what the right one has
pub record Unites (old new : List Node) (bits : ℕ) (left right made : Option ℕ) : Type 0 where
  pub is_map : IsMapTo new bits made
  pub values : (k : ℕ) → value_at new bits made k ≡ option_or (value_at old bits left k) (value_at old bits right k)
