-- What waits, and the order of the loads: its next number, which is 0 once the order has ended, and those behind it.
use Rattle.std.specs.Prelude.{ℕ, List, [], ◌∷◌, Option, Some, None}

module _ {X : Type 0} where
  abbrev pub first_waiting : List X → Option X
  first_waiting [] = None
  first_waiting (x ∷ xs) = Some x

  abbrev pub others_waiting : List X → List X
  others_waiting [] = []
  others_waiting (x ∷ xs) = xs

abbrev pub next_number : List ℕ → ℕ
next_number [] = 0
next_number (n ∷ order) = n

abbrev pub further_numbers : List ℕ → List ℕ
further_numbers [] = []
further_numbers (n ∷ order) = order
