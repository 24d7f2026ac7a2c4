-- The search for what stands above a class: which classes were seen, and these in the order in which they were first seen.
use Rattle.std.specs.Prelude.{ℕ, true, false, if◌then◌else◌, List, [], ◌∷◌, ◌++◌, replicate, slice_index_or, slice_set}
use Rattle.class_heads.specs.declared.search.Search.{Search}

-- What is no number of a class counts as seen.
abbrev pub seen_one : Search → ℕ → Search
seen_one s d = if slice_index_or s.is_seen d true then s else record { is_seen = slice_set s.is_seen d true; seen = s.seen ++ d ∷ [] }

abbrev pub seen_all : Search → List ℕ → Search
seen_all s [] = s
seen_all s (d ∷ ds) = seen_all (seen_one s d) ds

abbrev pub none_seen : ℕ → Search
none_seen n = record { is_seen = replicate n false; seen = [] }
