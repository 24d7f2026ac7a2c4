-- Two ascending lists as one.
use Rattle.std.specs.Prelude.{ℕ, nat_lt, List, [], ◌∷◌, if◌then◌else◌}

-- x and what follows it in its list, merged with another list; `rest` merges what follows x
abbrev pub merge_from : ℕ → (List ℕ → List ℕ) → List ℕ → List ℕ
merge_from x rest [] = x ∷ rest []
merge_from x rest (y ∷ ys) = if nat_lt x y then x ∷ rest (y ∷ ys) else if nat_lt y x then y ∷ merge_from x rest ys else x ∷ rest ys

-- what either list has; of two equal numbers one stays
abbrev pub merge : List ℕ → List ℕ → List ℕ
merge [] ys = ys
merge (x ∷ xs) ys = merge_from x (merge xs) ys
