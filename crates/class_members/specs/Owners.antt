-- Which members a class has, and which ones stand outside classes.
use Rattle.std.specs.Prelude.{◌≡◌, ℕ, suc, ◌<◌, ◌==◌, Bool, false, if◌then◌else◌, List, [], ◌∷◌, length, Option, Some, None, slice_get, is_none}
use Rattle.class_heads.specs.Sources.{Sources}
use Rattle.class_heads.specs.Bodies.{class_count}
use Rattle.class_members.specs.declared.members.MemberNode.{MemberNode}
use Rattle.class_members.specs.declared.owners.Owners.{Owners}
use Rattle.class_members.specs.Members.{members}

-- the numbers of those of which this holds, where the first one has number n
abbrev pub numbers_from : ℕ → (MemberNode → Bool) → List MemberNode → List ℕ
numbers_from n f [] = []
numbers_from n f (x ∷ xs) = if f x then n ∷ numbers_from (suc n) f xs else numbers_from (suc n) f xs

abbrev pub is_number : ℕ → Option ℕ → Bool
is_number c None = false
is_number c (Some d) = c == d

abbrev pub is_of : ℕ → MemberNode → Bool
is_of c x = is_number c x.class

abbrev pub is_outside : MemberNode → Bool
is_outside x = is_none x.class

-- the members of a class
unfoldable pub own_members : Sources → ℕ → List ℕ
own_members p c = numbers_from 0 (is_of c) (members p)

-- The number of a member outside classes, by its number among those that names stand for.
unfoldable pub member_number : Sources → ℕ → Option ℕ
member_number p k = slice_get (numbers_from 0 is_outside (members p)) k

-- ---- all of them at once: a list for each class, and one of those outside classes

pub record AreOwners (p : Sources) (x : Owners) : Type 0 where
  pub long : length x.of_classes ≡ class_count p
  pub each : (c : ℕ) → c < class_count p → slice_get x.of_classes c ≡ Some (own_members p c)
  pub outside : (k : ℕ) → slice_get x.outside k ≡ member_number p k
