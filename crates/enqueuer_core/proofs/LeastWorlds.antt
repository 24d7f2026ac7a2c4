-- Laws of impacts and of the least world.
use Rattle.std.proofs.Common.{◌≡◌, ◌≢◌, ℕ, suc, ◌<◌, Bool, true, false, ◌||◌, List, [], ◌∷◌, length, refl, sym, ap, ◌∙◌, arith, subst, inl, inr, ⊎_elim, ◌⊎◌, get_or, set}
use Rattle.std.proofs.lemmas.Bool.{eq-eqb, eqb-true, true≢false}
use Rattle.std.proofs.lemmas.Bool.Decides.{eqb_tells}
use Rattle.std.proofs.lemmas.List.{get_or-set_same, get_or-set_other, length-set}
use Rattle.std.specs.Prelude.{nat_eq}
use Rattle.std.specs.List.{list_any, list_all, AllByRecursion}
use Rattle.type_masks.specs.Masks.{Kinds, has, is_within}
use Rattle.world_state.specs.Facts.{InShape, is_among}
use Rattle.world_state.specs.Worlds.{Facts, no_kinds, mask_at, has_fact, IsWorld}
use Rattle.type_masks.specs.declared.shape.Shape.{Shape}
use Rattle.world_state.specs.declared.fact.Fact.{Fact}
use Rattle.world_state.specs.declared.fact.Fact.TheVariants.{In, Live}
use Rattle.world_state.specs.declared.reads.SlotRead.{SlotRead}
use Rattle.world_state.specs.declared.impact.Impact.{Impact}
use Rattle.type_masks.proofs.Sets.{and_true, or_true, or_right, or_cases}
use Rattle.world_state.proofs.WorldFacts.{within_has, same_set_from}
use Rattle.enqueuer_core.specs.Least.{Meaning, Agrees, IsBelow, IsOfShape, IsLawful, Derives, root, given, IsClosed, IsOneOf, OneLeast}
use Rattle.enqueuer_core.specs.Core.{all_within}

-- what is derived lies in every closed world
pub derived_in_closed : (m : Meaning) → IsLawful m → (v : Facts) → IsOfShape m.shape v → IsClosed m v → {f : Fact} → Derives m f → has_fact v f ≡ true
derived_in_closed m laws v of closed {f} (root h) = closed.roots f h
derived_in_closed m laws v of closed {f} (given n w below wof each live h) =
    closed.rules n (derived_in_closed m laws v of closed live) f
    (laws.grows n w v below wof of (λ g hg. derived_in_closed m laws v of closed (each g hg)) f h)

-- whether one of the reads is of the slot
abbrev reads_slot : List SlotRead → ℕ → Bool
reads_slot rs slot = list_any (λ r. nat_eq r.slot slot) rs

-- the world with these masks in the slots that were read
put_reads : List SlotRead → Facts → Facts
put_reads [] w = w
put_reads (r ∷ rs) w = record { shape = w.shape; masks = set (put_reads rs w).masks r.slot r.mask; live = w.live }

put_length : (rs : List SlotRead) (w : Facts) → length (put_reads rs w).masks ≡ length w.masks
unfolding put_reads
put_length [] w = refl
put_length (r ∷ rs) w = length-set (put_reads rs w).masks r.slot r.mask ∙ put_length rs w

put_shape : (rs : List SlotRead) (w : Facts) → (put_reads rs w).shape ≡ w.shape
unfolding put_reads
put_shape [] w = refl
put_shape (r ∷ rs) w = refl

put_live : (rs : List SlotRead) (w : Facts) → (put_reads rs w).live ≡ w.live
unfolding put_reads
put_live [] w = refl
put_live (r ∷ rs) w = refl

put_at : (v w : Facts) (rs : List SlotRead) → Agrees rs v → AllByRecursion (λ r. r.slot < length w.masks) rs → (slot : ℕ) → reads_slot rs slot ≡ true → mask_at (put_reads rs w) slot ≡ mask_at v slot
unfolding put_reads
put_at v w [] agrees room slot h = absurd (true≢false (sym h))
put_at v w (r ∷ rs) agrees room slot h =
    ⊎_elim
    (λ (is : (nat_eq r.slot slot ≡ true) × (r.slot ≡ slot)).
    let within : r.slot < length (put_reads rs w).masks = omega (arith, put_length rs w, room.0) in
    subst (λ s. mask_at (put_reads (r ∷ rs) w) s ≡ mask_at v s) is.1 (get_or-set_same (put_reads rs w).masks r.slot r.mask no_kinds within ∙ sym agrees.0))
    (λ (is : (nat_eq r.slot slot ≡ false) × (r.slot ≢ slot)).
    get_or-set_other (put_reads rs w).masks r.slot slot r.mask no_kinds (λ e. is.1 (sym e))
    ∙ put_at v w rs agrees.1 room.1 slot (ap (λ b. b || reads_slot rs slot) (sym is.0) ∙ h))
    (eqb_tells r.slot slot)

put_other : (w : Facts) (rs : List SlotRead) (slot : ℕ) → reads_slot rs slot ≡ false → mask_at (put_reads rs w) slot ≡ mask_at w slot
unfolding put_reads
put_other w [] slot h = refl
put_other w (r ∷ rs) slot h =
    ⊎_elim
    (λ (is : (nat_eq r.slot slot ≡ true) × (r.slot ≡ slot)). absurd (true≢false (ap (λ b. b || reads_slot rs slot) (sym is.0) ∙ h)))
    (λ (is : (nat_eq r.slot slot ≡ false) × (r.slot ≢ slot)).
    get_or-set_other (put_reads rs w).masks r.slot slot r.mask no_kinds (λ e. is.1 (sym e))
    ∙ put_other w rs slot (ap (λ b. b || reads_slot rs slot) (sym is.0) ∙ h))
    (eqb_tells r.slot slot)

-- each read is of a slot that is read
all_read : (rs : List SlotRead) (q : ℕ → Bool) → ((slot : ℕ) → reads_slot rs slot ≡ true → q slot ≡ true) → AllByRecursion (λ r. q r.slot ≡ true) rs
all_read [] q each = tt
all_read (r ∷ rs) q each = (
  each r.slot (or_true (nat_eq r.slot r.slot) (reads_slot rs r.slot) (eq-eqb r.slot r.slot refl)),
  all_read rs q (λ slot h. each slot (or_right (nat_eq r.slot slot) (reads_slot rs slot) h)),
)

agrees_put : (v w : Facts) (all rs : List SlotRead) → Agrees all v → AllByRecursion (λ r. r.slot < length w.masks) all → Agrees rs v → AllByRecursion (λ r. reads_slot all r.slot ≡ true) rs → Agrees rs (put_reads all w)
agrees_put v w all [] agrees room a in_all = tt
agrees_put v w all (r ∷ rs) agrees room a in_all = (put_at v w all agrees room r.slot in_all.0 ∙ a.0, agrees_put v w all rs agrees room a.1 in_all.1)

within_at : (v w : Facts) (rs : List SlotRead) → Agrees rs v → all_within w rs ≡ true → (slot : ℕ) → reads_slot rs slot ≡ true → is_within (mask_at v slot) (mask_at w slot) ≡ true
within_at v w [] agrees all slot h = absurd (true≢false (sym h))
within_at v w (r ∷ rs) agrees all slot h =
    let both = and_true (is_within r.mask (mask_at w r.slot)) (all_within w rs) all in
    ⊎_elim
    (λ here.
    let same : r.slot ≡ slot = eqb-true r.slot slot here in
    subst (λ s. is_within (mask_at v s) (mask_at w s) ≡ true) same (subst (λ (k : Kinds). is_within k (mask_at w r.slot) ≡ true) (sym agrees.0) both.0))
    (λ later. within_at v w rs agrees.1 both.1 slot later)
    (or_cases (nat_eq r.slot slot) (reads_slot rs slot) h)

-- by whether the slot is read
module _ (v w : Facts) (rs : List SlotRead) (agrees : Agrees rs v) (room : AllByRecursion (λ r. r.slot < length w.masks) rs) where
  put_cases : (slot : ℕ) → ((reads_slot rs slot ≡ true) × (mask_at (put_reads rs w) slot ≡ mask_at v slot)) ⊎ (mask_at (put_reads rs w) slot ≡ mask_at w slot)
  put_cases slot = go (reads_slot rs slot) refl
    where
      go : (b : Bool) → reads_slot rs slot ≡ b → ((reads_slot rs slot ≡ true) × (mask_at (put_reads rs w) slot ≡ mask_at v slot)) ⊎ (mask_at (put_reads rs w) slot ≡ mask_at w slot)
      go true h = inl (h, put_at v w rs agrees room slot h)
      go false h = inr (put_other w rs slot h)

  put_world : (s : Shape) → IsOfShape s v → IsOfShape s w → IsOfShape s (put_reads rs w)
  put_world s vs ws =
      record {
        world = record {
          slots = put_length rs w ∙ ws.world.slots ∙ ap (λ (s : Shape). s.slots) (sym (put_shape rs w));
          bounds = λ slot below.
              let mine : slot < w.shape.slots = subst (λ (s : Shape). slot < s.slots) (put_shape rs w) below in
              let theirs : slot < v.shape.slots = subst (λ (s : Shape). slot < s.slots) (ws.shape ∙ sym vs.shape) mine in
              ⊎_elim
              (λ (h : (reads_slot rs slot ≡ true) × (mask_at (put_reads rs w) slot ≡ mask_at v slot)). ap (λ (k : Kinds). k.bound) h.1 ∙ vs.world.bounds slot theirs ∙ ap (λ (s : Shape). s.kinds) (vs.shape ∙ sym ws.shape ∙ sym (put_shape rs w)))
              (λ h. ap (λ (k : Kinds). k.bound) h ∙ ws.world.bounds slot mine ∙ ap (λ (s : Shape). s.kinds) (sym (put_shape rs w)))
              (put_cases slot);
          inside = λ f h. subst (λ s. InShape s f) (sym (put_shape rs w ∙ ws.shape)) (inside f h);
        };
        shape = put_shape rs w ∙ ws.shape;
      }
    where
      inside : (f : Fact) → has_fact (put_reads rs w) f ≡ true → InShape s f
      inside (In slot kind) h =
          ⊎_elim
          (λ (is : (reads_slot rs slot ≡ true) × (mask_at (put_reads rs w) slot ≡ mask_at v slot)). subst (λ s. InShape s (In slot kind)) vs.shape (vs.world.inside (In slot kind) (subst (λ (k : Kinds). has k kind ≡ true) is.1 h)))
          (λ is. subst (λ s. InShape s (In slot kind)) ws.shape (ws.world.inside (In slot kind) (subst (λ (k : Kinds). has k kind ≡ true) is h)))
          (put_cases slot)
      inside (Live n) h = subst (λ s. InShape s (Live n)) ws.shape (ws.world.inside (Live n) (ap (λ t. Rattle.std.specs.FinSet.contains t n) (sym (put_live rs w)) ∙ h))

  put_below : all_within w rs ≡ true → IsBelow (put_reads rs w) w
  put_below all (In slot kind) h =
      ⊎_elim
      (λ (is : (reads_slot rs slot ≡ true) × (mask_at (put_reads rs w) slot ≡ mask_at v slot)). within_has (mask_at v slot) (mask_at w slot) (within_at v w rs agrees all slot is.0) kind (subst (λ (k : Kinds). has k kind ≡ true) is.1 h))
      (λ is. subst (λ (k : Kinds). has k kind ≡ true) is h)
      (put_cases slot)
  put_below all (Live n) h = ap (λ t. Rattle.std.specs.FinSet.contains t n) (sym (put_live rs w)) ∙ h

rooms : (n k : ℕ) → n ≡ k → (rs : List SlotRead) → AllByRecursion (λ r. r.slot < n) rs → AllByRecursion (λ r. r.slot < k) rs
rooms n k same rs h = subst (λ x. AllByRecursion (λ (r : SlotRead). r.slot < x) rs) same h

-- an impact whose reads lie in the world gives no more than that of the world
pub facts_below : (m : Meaning) → IsLawful m → (w : Facts) → IsOfShape m.shape w → (j : Impact) → IsOneOf m j → all_within w j.reads ≡ true
    → (f : Fact) → is_among j.facts f ≡ true → is_among (m.impact j.member w).facts f ≡ true
facts_below m laws w ws j one all f h =
    let v = one.at in
    let vs = one.world in
    let old : Agrees (m.impact j.member v).reads v = laws.reads j.member v one.member vs in
    let agrees : Agrees j.reads v = subst (λ (i : Impact). Agrees i.reads v) (sym one.is) old in
    let slots = (laws.inside j.member v one.member vs).reads in
    let mine : AllByRecursion (λ (r : SlotRead). r.slot < m.shape.slots) j.reads = subst (λ (i : Impact). AllByRecursion (λ (r : SlotRead). r.slot < m.shape.slots) i.reads) (sym one.is) slots in
    let room = rooms m.shape.slots (length w.masks) (ap (λ (s : Shape). s.slots) (sym ws.shape) ∙ sym ws.world.slots) j.reads mine in
    let u = put_reads j.reads w in
    let us = put_world v w j.reads agrees room m.shape vs ws in
    let seen : Agrees j.reads u = agrees_put v w j.reads j.reads agrees room agrees (all_read j.reads (reads_slot j.reads) (λ slot h. h)) in
    let seen2 : Agrees (m.impact j.member v).reads u = subst (λ (i : Impact). Agrees i.reads u) one.is seen in
    let same : m.impact j.member u ≡ m.impact j.member v = laws.same j.member v u one.member vs us seen2 in
    let there : is_among (m.impact j.member u).facts f ≡ true = subst (λ (i : Impact). is_among i.facts f ≡ true) (one.is ∙ sym same) h in
    laws.grows j.member u w one.member us ws (put_below v w j.reads agrees room all) f there

-- worlds of one shape that have the same facts are one
pub same_world : (v w : Facts) → IsWorld v → IsWorld w → v.shape ≡ w.shape → IsBelow v w → IsBelow w v → v ≡ w
same_world v w vs ws shape to from =
    let masks : v.masks ≡ w.masks = same_list v.masks w.masks no_kinds (vs.slots ∙ ap (λ (s : Shape). s.slots) shape ∙ sym ws.slots) mask in
    let live : v.live ≡ w.live = same_set_from v.live w.live (λ k h. to (Live k) h) (λ k h. from (Live k) h) in
    λ i. record { shape = shape i; masks = masks i; live = live i }
  where
    mask : (slot : ℕ) → slot < length v.masks → mask_at v slot ≡ mask_at w slot
    mask slot within =
        let mine : slot < v.shape.slots = omega (arith, vs.slots) in
        let theirs : slot < w.shape.slots = subst (λ (s : Shape). slot < s.slots) shape mine in
        let bound : (mask_at v slot).bound ≡ (mask_at w slot).bound = vs.bounds slot mine ∙ ap (λ (s : Shape). s.kinds) shape ∙ sym (ws.bounds slot theirs) in
        let kinds : (mask_at v slot).set ≡ (mask_at w slot).set = same_set_from (mask_at v slot).set (mask_at w slot).set (λ k h. to (In slot k) h) (λ k h. from (In slot k) h) in
        λ i. record { bound = bound i; set = kinds i }

    same_list : (xs ys : List Kinds) (d : Kinds) → length xs ≡ length ys → ((i : ℕ) → i < length xs → get_or xs i d ≡ get_or ys i d) → xs ≡ ys
    same_list [] [] d long each = refl
    same_list [] (y ∷ ys) d long each = absurd (omega arith)
    same_list (x ∷ xs) [] d long each = absurd (omega arith)
    same_list (x ∷ xs) (y ∷ ys) d long each =
        let rest = same_list xs ys d (omega arith) (λ i h. each (suc i) (omega arith)) in
        let head : x ≡ y = each 0 (omega arith) in
        λ i. head i ∷ rest i

pub one_least : OneLeast
one_least m laws v w vl wl =
    same_world v w vl.world.world wl.world.world (vl.world.shape ∙ sym wl.world.shape)
    (λ f h. derived_in_closed m laws w wl.world wl.closed (vl.derived f h))
    (λ f h. derived_in_closed m laws v vl.world vl.closed (wl.derived f h))
