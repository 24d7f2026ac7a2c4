-- What stands above a class, by the numbers of classes.
use Rattle.std.specs.Prelude.{◌≡◌, ◌<◌, ℕ, Bool, false, List, [], ◌++◌, length, slice_get, slice_index_or, Option, Some, None, option_to_list, Contains, MatchBool}
use Rattle.class_heads.specs.declared.nodes.ClassNode.{ClassNode}

abbrev pub Classes : Type 0
Classes = List ClassNode

-- the superclass, the mixin and the interfaces
abbrev pub named_by : Option ClassNode → List ℕ
named_by None = []
named_by (Some x) = option_to_list x.superclass ++ (option_to_list x.mixin ++ x.interfaces)

unfoldable pub supertypes_of : Classes → ℕ → List ℕ
supertypes_of cs c = named_by (slice_get cs c)

-- one step or more
pub data IsAbove (cs : Classes) : (c d : ℕ) → Type 0 where
  next : {c d : ℕ} → Contains (supertypes_of cs c) d → IsAbove cs c d
  further : {c d e : ℕ} → Contains (supertypes_of cs c) d → IsAbove cs d e → IsAbove cs c e

-- for each class, whether it stands above itself
pub record AreCycles (cs : Classes) (flags : List Bool) : Type 0 where
  pub long : length flags ≡ length cs
  pub each : (c : ℕ) → c < length cs → MatchBool (slice_index_or flags c false) (IsAbove cs c c) (IsAbove cs c c → ⊥)
