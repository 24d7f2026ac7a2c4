-- Places in a list of files.
use Rattle.std.specs.Prelude.{◌≡◌, ℕ, zero, suc, true, false, List, [], ◌∷◌}
use Rattle.code_units.specs.declared.lists.NamedFile.{NamedFile}
use Rattle.outside.specs.InMemory.{is_named}

-- the file at this place is the first of that name
abbrev pub IsFirstOf : List NamedFile → List ℕ → ℕ → Type 0
IsFirstOf [] name i = ⊥
IsFirstOf (file ∷ files) name zero = is_named file name ≡ true
IsFirstOf (file ∷ files) name (suc i) = (is_named file name ≡ false) × IsFirstOf files name i

-- none of that name stands before this place
abbrev pub IsPassed : List NamedFile → List ℕ → ℕ → Type 0
IsPassed files name zero = Unit {0}
IsPassed [] name (suc i) = Unit {0}
IsPassed (file ∷ files) name (suc i) = (is_named file name ≡ false) × IsPassed files name i
