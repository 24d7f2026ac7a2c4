-- How the code joins sets, class by class.
use Rattle.std.specs.Prelude.{◌≡◌, ◌<◌, ◌≤◌, ◌^◌, ◌==◌, ◌||◌, ℕ, List, length, slice_get, slice_index_or, Some, is_some, MatchBool}
use Rattle.std.specs.List.{list_any}
use Rattle.persistent_maps.specs.declared.maps.Map.{Map}
use Rattle.persistent_maps.specs.Maps.{bits_of, value_of, IsMapOf}
use Rattle.persistent_maps.specs.Keeps.{Keeps}
use Rattle.class_heads.specs.Supertypes.{Classes, supertypes_of}
use Rattle.class_heads.specs.Origins.{IsSub}
use Rattle.supertypes.specs.declared.supertypes.Supertypes.{Supertypes}
use Rattle.supertypes.specs.Sets.{has}

pub record AreMaps (t : Supertypes) : Type 0 where
  pub each : (c : ℕ) (set : Map) → slice_get t.sets c ≡ Some set → IsMapOf t.maps set

pub record KeepsSets (old new : Supertypes) : Type 0 where
  pub sets : new.sets ≡ old.sets
  pub maps : Keeps old.maps new.maps

-- what one set has, and those of these classes
pub record HasAlso (old new : Supertypes) (set made : Map) (names : List ℕ) : Type 0 where
  pub is_map : IsMapOf new.maps made
  pub each : (d : ℕ) → is_some (value_of new.maps made d) ≡ (is_some (value_of old.maps set d) || list_any (λ c. has old c d) names)

-- what the sets of these classes have
pub record IsUnionOf (old new : Supertypes) (made : Map) (names : List ℕ) : Type 0 where
  pub is_map : IsMapOf new.maps made
  pub each : (d : ℕ) → is_some (value_of new.maps made d) ≡ list_any (λ c. has old c d) names

-- the class itself, and what the sets of those that it names have
pub record IsSetOf (cs : Classes) (old new : Supertypes) (c : ℕ) (made : Map) : Type 0 where
  pub is_map : IsMapOf new.maps made
  pub each : (d : ℕ) → is_some (value_of new.maps made d) ≡ ((d == c) || list_any (λ s. has old s d) (supertypes_of cs c))

-- There is a set for each class, and classes are keys.
pub record IsTable (cs : Classes) (t : Supertypes) : Type 0 where
  pub long : length t.sets ≡ length cs
  pub keys : length cs ≤ 2 ^ bits_of t.maps
  pub maps : AreMaps t

-- the sets of the first classes of an order are done
pub record IsTableTo (cs : Classes) (order : List ℕ) (n : ℕ) (t : Supertypes) : Type 0 where
  pub table : IsTable cs t
  pub each : (i : ℕ) → i < n → (d : ℕ) → d < length cs → MatchBool (has t (slice_index_or order i 0) d) (IsSub cs (slice_index_or order i 0) d) (IsSub cs (slice_index_or order i 0) d → ⊥)
