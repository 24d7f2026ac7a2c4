-- What impacts mean, and the least set of facts.
use Rattle.std.specs.Prelude.{◌≡◌, ℕ, ◌<◌, true, List}
use Rattle.std.specs.List.{AllByRecursion}
use Rattle.world_state.specs.Facts.{is_among, InShape}
use Rattle.world_state.specs.Worlds.{Facts, mask_at, has_fact, IsWorld}
use Rattle.type_masks.specs.declared.shape.Shape.{Shape}
use Rattle.world_state.specs.declared.fact.Fact.{Fact}
use Rattle.world_state.specs.declared.fact.Fact.TheVariants.{Live}
use Rattle.world_state.specs.declared.reads.SlotRead.{SlotRead}
use Rattle.world_state.specs.declared.impact.Impact.{Impact}

-- a shape, the roots, and the impact of each member in each world
pub record Meaning : Type 0 where
  pub shape : Shape
  pub roots : List Fact
  pub impact : ℕ → Facts → Impact

-- each read has the mask of its slot in the world
abbrev pub Agrees : List SlotRead → Facts → Type 0
Agrees rs w = AllByRecursion (λ r. mask_at w r.slot ≡ r.mask) rs

-- each fact of the one world holds in the other
abbrev pub IsBelow : Facts → Facts → Type 0
IsBelow v w = (f : Fact) → has_fact v f ≡ true → has_fact w f ≡ true

-- a world of this shape
pub record IsOfShape (s : Shape) (w : Facts) : Type 0 where
  pub world : IsWorld w
  pub shape : w.shape ≡ s

-- the numbers of an impact lie in the shape
pub record IsInShape (s : Shape) (j : Impact) : Type 0 where
  pub member : j.member < s.members
  pub reads : AllByRecursion (λ r. r.slot < s.slots) j.reads
  pub facts : AllByRecursion (InShape s) j.facts

pub record IsLawful (m : Meaning) : Type 0 where
  pub roots : AllByRecursion (InShape m.shape) m.roots
  pub member : (n : ℕ) (w : Facts) → (m.impact n w).member ≡ n
  pub inside : (n : ℕ) (w : Facts) → n < m.shape.members → IsOfShape m.shape w → IsInShape m.shape (m.impact n w)
  -- what was read is what the world has
  pub reads : (n : ℕ) (w : Facts) → n < m.shape.members → IsOfShape m.shape w → Agrees (m.impact n w).reads w
  -- an impact is the same in every world that agrees on its reads
  pub same : (n : ℕ) (w v : Facts) → n < m.shape.members → IsOfShape m.shape w → IsOfShape m.shape v → Agrees (m.impact n w).reads v → m.impact n v ≡ m.impact n w
  -- more facts never take facts from it
  pub grows : (n : ℕ) (w v : Facts) → n < m.shape.members → IsOfShape m.shape w → IsOfShape m.shape v → IsBelow w v → (f : Fact) → is_among (m.impact n w).facts f ≡ true → is_among (m.impact n v).facts f ≡ true

-- a finite derivation: the fact is a root, or a live member gives it in a world of facts that are derived
pub data Derives (m : Meaning) : Fact → Type 0 where
  root : {f : Fact} → is_among m.roots f ≡ true → Derives m f
  given : {f : Fact} (n : ℕ) (w : Facts) → n < m.shape.members → IsOfShape m.shape w → ((g : Fact) → has_fact w g ≡ true → Derives m g) → Derives m (Live n) → is_among (m.impact n w).facts f ≡ true → Derives m f

-- the roots hold, and what each live member gives
pub record IsClosed (m : Meaning) (w : Facts) : Type 0 where
  pub roots : (f : Fact) → is_among m.roots f ≡ true → has_fact w f ≡ true
  pub rules : (n : ℕ) → has_fact w (Live n) ≡ true → (f : Fact) → is_among (m.impact n w).facts f ≡ true → has_fact w f ≡ true

-- the closed world whose facts are all derived
pub record IsLeast (m : Meaning) (w : Facts) : Type 0 where
  pub world : IsOfShape m.shape w
  pub closed : IsClosed m w
  pub derived : (f : Fact) → has_fact w f ≡ true → Derives m f

-- the impact of its member in some world of the shape
pub record IsOneOf (m : Meaning) (j : Impact) : Type 0 where
  pub at : Facts
  pub world : IsOfShape m.shape at
  pub member : j.member < m.shape.members
  pub is : j ≡ m.impact j.member at

-- there is one least world
abbrev pub OneLeast : Type 0
OneLeast = (m : Meaning) → IsLawful m → (v w : Facts) → IsLeast m v → IsLeast m w → v ≡ w

-- what is derived lies in every closed world of the shape
abbrev pub LiesInEachClosed : Type 0
LiesInEachClosed = (m : Meaning) → IsLawful m → (f : Fact) → Derives m f → (v : Facts) → IsOfShape m.shape v → IsClosed m v → has_fact v f ≡ true
