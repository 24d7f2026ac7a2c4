-- A mask as a set of numbers below its bound.
use Rattle.std.specs.Prelude.{◌≡◌, ℕ, ◌<◌, Bool, true, ◌&&◌, nat_eq, List, [], ◌∷◌, ⊤, refl}
use Rattle.std.specs.List.{AllByRecursion}
use Rattle.std.specs.Ordering.{nat_cmp}
use Rattle.std.specs.FinSet.{FinSet, contains, is_subset, insert, union, empty, code}
use Rattle.std.specs.Coded.{Coded, code_by, coded×, coded_ℕ}

-- the kinds that are in a mask, and the bound that they lie below
pub record Kinds : Type 0 where
  pub bound : ℕ
  pub set : FinSet nat_cmp

abbrev pub coded_Kinds : Coded Kinds
coded_Kinds = code_by (ℕ × FinSet nat_cmp) (coded× coded_ℕ (code coded_ℕ)) (λ k. (k.bound, k.set)) (λ p. record { bound = p.0; set = p.1 }) (λ _. refl)

-- whether a kind is in the mask
abbrev pub has : Kinds → ℕ → Bool
has m kind = contains m.set kind

-- the mask with one kind more
abbrev pub with_kind : Kinds → ℕ → Kinds
with_kind m kind = record { bound = m.bound; set = insert m.set kind }

-- the mask with each kind of another
abbrev pub with_kinds : Kinds → Kinds → Kinds
with_kinds m other = record { bound = m.bound; set = union m.set other.set }

-- the set of one kind
abbrev pub only_kind : ℕ → FinSet nat_cmp
only_kind kind = insert empty kind

-- whether each kind of the one is in the other
abbrev pub is_within : Kinds → Kinds → Bool
is_within a b = is_subset a.set b.set

-- whether the two masks are one
abbrev pub is_same : Kinds → Kinds → Bool
is_same a b = nat_eq a.bound b.bound && (is_within a b && is_within b a)

-- each kind lies below the bound
abbrev pub IsBounded : Kinds → Type 0
IsBounded m = (kind : ℕ) → has m kind ≡ true → kind < m.bound

-- each number lies below all that stand behind it
abbrev pub IsAscending : List ℕ → Type 0
IsAscending [] = ⊤
IsAscending (x ∷ xs) = AllByRecursion (λ y. x < y) xs × IsAscending xs
