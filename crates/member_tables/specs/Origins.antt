-- The members of the body that each class has, by the class that declares it.
use Rattle.std.specs.Prelude.{◌≡◌, ◌<◌, ℕ, List, [], length, slice_get, slice_index_or, Option, Some, None}
use Rattle.class_heads.specs.Sources.{Sources, classes_in}
use Rattle.class_heads.specs.Bodies.{class_count}
use Rattle.class_heads.specs.Origins.{origin}
use Rattle.member_tables.specs.Lookup.{members_of}

-- the members of this class; none has no members
abbrev pub members_if : Sources → Option ℕ → List ℕ
members_if p None = []
members_if p (Some c) = members_of p c

-- by what is known of the mixin
abbrev pub body_behind : List ℕ → ℕ → Option ℕ → ℕ
body_behind origins c None = c
body_behind origins c (Some m) = slice_index_or origins m m

-- Each class has the members of the class of this number. What is no class has none, so any number may stand for it.
pub record AreOrigins (p : Sources) (origins : List ℕ) : Type 0 where
  pub long : length origins ≡ class_count p
  pub each : (c : ℕ) → c < class_count p → members_if p (slice_get origins c) ≡ members_if p (origin (classes_in p) c)

-- those of the first classes of an order
pub record AreOriginsTo (p : Sources) (order : List ℕ) (i : ℕ) (origins : List ℕ) : Type 0 where
  pub long : length origins ≡ class_count p
  pub each : (j : ℕ) → j < i → members_if p (slice_get origins (slice_index_or order j 0)) ≡ members_if p (origin (classes_in p) (slice_index_or order j 0))
