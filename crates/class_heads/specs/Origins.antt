-- Superclasses alone, and whose body a class has.
use Rattle.std.specs.Prelude.{◌≡◌, ◌⊎◌, ℕ, zero, suc, List, [], ◌∷◌, length, slice_get, Option, Some, None, option_and_then}
use Rattle.class_heads.specs.Supertypes.{Classes, IsAbove}

unfoldable pub superclass_of : Classes → ℕ → Option ℕ
superclass_of cs c = option_and_then (λ x. x.superclass) (slice_get cs c)

unfoldable pub mixin_of : Classes → ℕ → Option ℕ
mixin_of cs c = option_and_then (λ x. x.mixin) (slice_get cs c)

-- the class itself, or a superclass, a mixin or an interface of it
abbrev pub IsSub : Classes → ℕ → ℕ → Type 0
IsSub cs c d = (c ≡ d) ⊎ IsAbove cs c d

-- ---- superclasses, from the nearest on

-- a class, and what comes from it
abbrev pub from_one : (ℕ → List ℕ) → Option ℕ → List ℕ
from_one more None = []
from_one more (Some d) = d ∷ more d

abbrev pub superclasses_to : ℕ → Classes → ℕ → List ℕ
superclasses_to zero cs c = []
superclasses_to (suc n) cs c = from_one (superclasses_to n cs) (superclass_of cs c)

-- A class that is not its own superclass has fewer of them than there are classes.
unfoldable pub superclasses : Classes → ℕ → List ℕ
superclasses cs c = superclasses_to (length cs) cs c

-- ---- the class whose body a class has: that of its mixin, where it has one

-- a class, or what comes from its mixin
abbrev pub through_mixin : (ℕ → Option ℕ) → ℕ → Option ℕ → Option ℕ
through_mixin more c None = Some c
through_mixin more c (Some m) = more m

abbrev pub origin_to : ℕ → Classes → ℕ → Option ℕ
origin_to zero cs c = None
origin_to (suc n) cs c = through_mixin (origin_to n cs) c (mixin_of cs c)

unfoldable pub origin : Classes → ℕ → Option ℕ
origin cs c = origin_to (length cs) cs c
