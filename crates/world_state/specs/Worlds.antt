-- Worlds of facts.
use Rattle.std.specs.Prelude.{◌≡◌, ℕ, ◌<◌, Bool, true, not, List, [], ◌∷◌, length, slice_index_or, slice_set, if◌then◌else◌, replicate, refl}
use Rattle.std.specs.List.{filter}
use Rattle.std.specs.Ordering.{nat_cmp}
use Rattle.std.specs.FinSet as set
use Rattle.std.specs.Coded.{Coded, code_by, coded×, coded_ℕ, coded_list}
use Rattle.type_masks.specs.Masks.{Kinds, has, with_kind, coded_Kinds}
use Rattle.type_masks.specs.Shapes.{coded_Shape}
use Rattle.type_masks.specs.declared.shape.Shape.{Shape}
use Rattle.world_state.specs.declared.fact.Fact.{Fact}
use Rattle.world_state.specs.declared.fact.Fact.TheVariants.{In, Live}
use Rattle.world_state.specs.Facts.{InShape, each_once}

-- a shape, the mask of each shared slot, and the live members
pub record Facts : Type 0 where
  pub shape : Shape
  pub masks : List Kinds
  pub live : set.FinSet nat_cmp

abbrev pub coded_Facts : Coded Facts
coded_Facts =
    code_by (Shape × (List Kinds × set.FinSet nat_cmp)) (coded× coded_Shape (coded× (coded_list coded_Kinds) (set.code coded_ℕ)))
    (λ w. (w.shape, (w.masks, w.live))) (λ p. record { shape = p.0; masks = p.1.0; live = p.1.1 }) (λ _. refl)

-- the mask that no slot has
abbrev pub no_kinds : Kinds
no_kinds = record { bound = 0; set = set.empty }

abbrev pub mask_at : Facts → ℕ → Kinds
mask_at w slot = slice_index_or w.masks slot no_kinds

-- whether the fact holds in the world
abbrev pub has_fact : Facts → Fact → Bool
has_fact w (In slot kind) = has (mask_at w slot) kind
has_fact w (Live member) = set.contains w.live member

-- the world with one fact more
abbrev pub with_fact : Facts → Fact → Facts
with_fact w (In slot kind) = record { shape = w.shape; masks = slice_set w.masks slot (with_kind (mask_at w slot) kind); live = w.live }
with_fact w (Live member) = record { shape = w.shape; masks = w.masks; live = set.insert w.live member }

-- the world with these facts more
abbrev pub with_facts : Facts → List Fact → Facts
with_facts w [] = w
with_facts w (f ∷ fs) = with_facts (with_fact w f) fs

-- the facts of the list that do not hold in the world, each once, in order of first place
abbrev pub absent_of : Facts → List Fact → List Fact
absent_of w fs = each_once (filter (λ f. not (has_fact w f)) fs)

-- the facts that do not hold when their turn comes, where each is added in turn
abbrev pub absent_along : Facts → List Fact → List Fact
absent_along w [] = []
absent_along w (f ∷ fs) = if has_fact w f then absent_along w fs else f ∷ absent_along (with_fact w f) fs

-- what is a world of its shape
pub record IsWorld (w : Facts) : Type 0 where
  pub slots : length w.masks ≡ w.shape.slots
  pub bounds : (slot : ℕ) → slot < w.shape.slots → (mask_at w slot).bound ≡ w.shape.kinds
  pub inside : (f : Fact) → has_fact w f ≡ true → InShape w.shape f

-- the world of a shape in which nothing holds
abbrev pub empty_of : Shape → Facts
empty_of s = record { shape = s; masks = replicate s.slots (record { bound = s.kinds; set = set.empty }); live = set.empty }
