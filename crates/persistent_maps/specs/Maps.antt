-- Maps of the same nodes.
use Rattle.std.specs.Prelude.{ℕ, length, Option}
use Rattle.persistent_maps.specs.declared.maps.Map.{Map}
use Rattle.persistent_maps.specs.declared.maps.Maps.{Maps}
use Rattle.persistent_maps.specs.Lookup.{value_at, IsMapTo}

-- Keys have so many bits.
abbrev pub bits_of : Maps → ℕ
bits_of maps = maps.bits

abbrev pub node_count : Maps → ℕ
node_count maps = length maps.nodes

-- what the map has at a key
unfoldable pub value_of : Maps → Map → ℕ → Option ℕ
value_of maps map key = value_at maps.nodes maps.bits map.root key

-- the map is one of these
pub record IsMapOf (maps : Maps) (map : Map) : Type 0 where
  pub reached : IsMapTo maps.nodes maps.bits map.root
