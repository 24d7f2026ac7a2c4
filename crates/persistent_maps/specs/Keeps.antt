-- What stays when maps are made: each map that there was is one still, and has what it had.
use Rattle.std.specs.Prelude.{ℕ, ◌≡◌}
use Rattle.persistent_maps.specs.declared.maps.Map.{Map}
use Rattle.persistent_maps.specs.declared.maps.Maps.{Maps}
use Rattle.persistent_maps.specs.Maps.{bits_of, value_of, IsMapOf}

pub record Keeps (old new : Maps) : Type 0 where
  pub bits : bits_of new ≡ bits_of old
  pub is_map : (map : Map) → IsMapOf old map → IsMapOf new map
  pub values : (map : Map) → IsMapOf old map → (key : ℕ) → value_of new map key ≡ value_of old map key
