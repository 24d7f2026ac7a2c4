-- Facts.
use Rattle.std.specs.Prelude.{ℕ, ◌<◌, Bool, false, ◌&&◌, nat_eq, List, [], ◌∷◌, not}
use Rattle.std.specs.List.{list_any, filter}
use Rattle.type_masks.specs.declared.shape.Shape.{Shape}
use Rattle.world_state.specs.declared.fact.Fact.{Fact}
use Rattle.world_state.specs.declared.fact.Fact.TheVariants.{In, Live}

-- the fact's numbers lie in the shape
abbrev pub InShape : Shape → Fact → Type 0
InShape s (In slot kind) = (slot < s.slots) × (kind < s.kinds)
InShape s (Live member) = member < s.members

-- whether two facts are one
abbrev pub same_fact : Fact → Fact → Bool
same_fact (In a b) (In c d) = nat_eq a c && nat_eq b d
same_fact (In a b) (Live m) = false
same_fact (Live m) (In c d) = false
same_fact (Live m) (Live n) = nat_eq m n

-- whether the fact is in the list
abbrev pub is_among : List Fact → Fact → Bool
is_among fs f = list_any (λ g. same_fact g f) fs

-- whether the fact is of the slot
abbrev pub is_of_slot : ℕ → Fact → Bool
is_of_slot slot (In s k) = nat_eq s slot
is_of_slot slot (Live n) = false

-- each fact of the list at its first place alone
abbrev pub each_once : List Fact → List Fact
each_once [] = []
each_once (f ∷ fs) = f ∷ filter (λ g. not (same_fact f g)) (each_once fs)
