-- A text in parts: the units of one part behind those of another.
use Rattle.std.specs.Prelude.{ℕ, List, [], ◌∷◌, ◌++◌}

abbrev pub flat : List (List ℕ) → List ℕ
flat [] = []
flat (part ∷ parts) = part ++ flat parts
