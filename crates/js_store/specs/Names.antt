-- A name of a program is its bytes.
use Rattle.std.specs.Prelude.{ℕ, Bool, List, nat_eq}
use Rattle.std.specs.Cmp.Lexicographic.{pointwise}

abbrev pub Name : Type 0
Name = List ℕ

-- the same bytes in the same order
abbrev pub same_name : Name → Name → Bool
same_name a b = pointwise nat_eq a b
