-- Masks in pages.
use Rattle.std.specs.Prelude.{◌≡◌, ℕ, ◌<◌, List, [], length, slice_index_or, slice_set}
use Rattle.std.specs.List.{flat_map}
use Rattle.std.specs.FinSet as set
use Rattle.type_masks.specs.Masks.{Kinds, with_kind}
use Rattle.world_state.specs.Worlds.{no_kinds}

-- the mask below a bound that has no kind
abbrev pub nothing_below : ℕ → Kinds
nothing_below bound = record { bound = bound; set = set.empty }

-- the mask at a place
abbrev pub mask_of : List Kinds → ℕ → Kinds
mask_of masks place = slice_index_or masks place no_kinds

-- the masks with one kind more in the mask at a place
abbrev pub with_kind_at : List Kinds → ℕ → ℕ → List Kinds
with_kind_at masks place kind = slice_set masks place (with_kind (mask_of masks place) kind)

-- the masks of all pages, one page after another
abbrev pub all_masks : List (List Kinds) → List Kinds
all_masks pages = flat_map (λ page. page) pages

-- each page has so many masks
abbrev pub AreOf : ℕ → List (List Kinds) → Type 0
AreOf size pages = (k : ℕ) → k < length pages → length (slice_index_or pages k []) ≡ size
