-- Items of lists, by whole numbers as indices, and lists among lists.
use Rattle.std.specs.Prelude.{ℕ, ℤ, pos, negsuc, List, [], ◌∷◌, Option, Some, None, slice_get, slice_set}
use Rattle.std.specs.Option.{unwrap_or}

-- what stands at an index, where the index is in range
abbrev pub item_at : {X : Type 0} → List X → ℤ → Option X
item_at xs (pos i) = slice_get xs i
item_at xs (negsuc i) = None

-- the list with another item at an index in range
abbrev pub set_item : {X : Type 0} → List X → ℤ → X → List X
set_item xs (pos i) x = slice_set xs i x
set_item xs (negsuc i) x = xs

abbrev pub last_item : {X : Type 0} → List X → Option X
last_item [] = None
last_item (x ∷ xs) = Some (unwrap_or (last_item xs) x)

abbrev pub all_but_last : {X : Type 0} → List X → List X
all_but_last [] = []
all_but_last (x ∷ []) = []
all_but_last (x ∷ y ∷ ys) = x ∷ all_but_last (y ∷ ys)

-- the list at a place among lists; where there is none, the empty one
abbrev pub list_at : {X : Type 0} → List (List X) → ℕ → List X
list_at lists a = unwrap_or (slice_get lists a) []
