-- Sets of supertypes, as maps of the same nodes.
use Rattle.std.specs.Prelude.{◌<◌, ℕ, Bool, length, slice_get, option_and_then, is_some, MatchBool}
use Rattle.persistent_maps.specs.Maps.{value_of}
use Rattle.class_heads.specs.Supertypes.{Classes}
use Rattle.class_heads.specs.Origins.{IsSub}
use Rattle.supertypes.specs.declared.supertypes.Supertypes.{Supertypes}

-- whether the set of class c has d
abbrev pub has : Supertypes → ℕ → ℕ → Bool
has t c d = is_some (option_and_then (λ m. value_of t.maps m d) (slice_get t.sets c))

-- Each class's set has the class itself, and its superclasses, mixins and interfaces through any number of steps.
pub record AreSupertypes (cs : Classes) (t : Supertypes) : Type 0 where
  pub each : (c d : ℕ) → c < length cs → d < length cs → MatchBool (has t c d) (IsSub cs c d) (IsSub cs c d → ⊥)
