-- A node joins two maps: one of the even keys and one of the odd keys, each by the halves of its keys.
use Rattle.std.specs.Prelude.{ℕ, ◌%◌, ◌==◌, if◌then◌else◌, List, slice_index_or, Option, Some, None}
use Rattle.persistent_maps.specs.declared.nodes.Node.{Node}

-- the one of them that has the key
abbrev pub half : Node → ℕ → Option ℕ
half node key = if key % 2 == 0 then node.even else node.odd

-- another one in its place
abbrev pub with_half : Node → ℕ → Option ℕ → Node
with_half node key root = if key % 2 == 0 then record node { even = root } else record node { odd = root }

abbrev pub no_halves : Node
no_halves = record { even = None; odd = None }

-- the node of this number, or one of two empty maps
abbrev pub node_at : List Node → Option ℕ → Node
node_at nodes None = no_halves
node_at nodes (Some n) = slice_index_or nodes n no_halves
