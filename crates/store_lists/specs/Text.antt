-- Texts. A text is its list of UTF-16 units.
use Rattle.std.specs.Prelude.{ℕ, ◌-◌, ℤ, pos, negsuc, Bool, ◌&&◌, List, Option, Some, None, take, drop, length, nat_eq, nat_le, if◌then◌else◌}
use Rattle.std.specs.Cmp.Lexicographic.{pointwise}

abbrev pub Text : Type 0
Text = List ℕ

-- the same units in the same order
abbrev pub same_text : Text → Text → Bool
same_text a b = pointwise nat_eq a b

-- the units from one place up to, and without, another, where 0 <= from <= to <= length
abbrev pub part : Text → (from to : ℤ) → Option Text
part text (pos from) (pos to) = if nat_le from to && nat_le to (length text) then Some (take (to - from) (drop from text)) else None
part text (pos from) (negsuc to) = None
part text (negsuc from) to = None
