-- What a map of some nodes has at a key. A key of no bits is 0, and the root of a map from such keys is the value there;
-- that of any other map is the number of a node. Where there is no root, the map is empty.
use Rattle.std.specs.Prelude.{ℕ, zero, suc, ◌/◌, ◌<◌, ◌==◌, if◌then◌else◌, List, length, Option, None, IfSome}
use Rattle.persistent_maps.specs.declared.nodes.Node.{Node}
use Rattle.persistent_maps.specs.Nodes.{half, node_at}

-- by the bits of a key, from the lowest on
unfoldable pub value_at : List Node → ℕ → Option ℕ → ℕ → Option ℕ
value_at nodes zero root key = if key == 0 then root else None
value_at nodes (suc bits) root key = value_at nodes bits (half (node_at nodes root) key) (key / 2)

-- each node that is reached is there
unfoldable pub IsMapTo : List Node → ℕ → Option ℕ → Type 0
IsMapTo nodes zero root = Unit {0}
IsMapTo nodes (suc bits) root = IfSome root (λ n. n < length nodes) × IsMapTo nodes bits (node_at nodes root).even × IsMapTo nodes bits (node_at nodes root).odd
