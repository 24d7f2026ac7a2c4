-- Ranks of classes, by their numbers, that fall on the way up.
use Rattle.std.specs.Prelude.{ℕ, suc, Bool, true, ◌&&◌, List, [], ◌∷◌, slice_index_or, Some, nat_lt}
use Rattle.std.specs.List.{list_all}
use Rattle.class_heads.specs.declared.nodes.ClassNode.{ClassNode}
use Rattle.class_heads.specs.Supertypes.{Classes, named_by}

abbrev pub is_lower : List ℕ → ℕ → ℕ → Bool
is_lower ranks rank d = nat_lt (slice_index_or ranks d 0) rank

unfoldable pub falls_at : List ℕ → ℕ → ClassNode → Bool
falls_at ranks rank x = list_all (is_lower ranks rank) (named_by (Some x))

-- the classes numbered from c on
abbrev pub falls_from : List ℕ → ℕ → Classes → Bool
falls_from ranks c [] = true
falls_from ranks c (x ∷ xs) = falls_at ranks (slice_index_or ranks c 0) x && falls_from ranks (suc c) xs
