-- What maps have at all keys.
use Rattle.std.specs.Prelude.{ℕ, ◌≡◌, ◌==◌, if◌then◌else◌, List, slice_get, Option, Some}
use Rattle.persistent_maps.specs.declared.maps.Map.{Map}
use Rattle.persistent_maps.specs.declared.maps.Maps.{Maps}
use Rattle.persistent_maps.specs.Maps.{value_of, IsMapOf}

-- the map is one of these, and has at each key what f says
pub record Gives (maps : Maps) (map : Map) (f : ℕ → Option ℕ) : Type 0 where
  pub is_map : IsMapOf maps map
  pub values : (key : ℕ) → value_of maps map key ≡ f key

-- this value at the key, and at each other key what f says
abbrev pub put : (ℕ → Option ℕ) → ℕ → ℕ → ℕ → Option ℕ
put f key value k = if k == key then Some value else f k

-- of a list of maps, the i-th gives f i
pub record GivesEach (maps : Maps) (list : List Map) (f : ℕ → ℕ → Option ℕ) : Type 0 where
  pub each : (i : ℕ) (map : Map) → slice_get list i ≡ Some map → Gives maps map (f i)
