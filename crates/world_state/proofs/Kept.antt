-- Worlds that are kept in masks.
use Rattle.std.proofs.Common.{◌≡◌, ◌≢◌, ℕ, zero, suc, ◌*◌, ◌/◌, ◌<◌, ◌≤◌, true, false, ◌&&◌, ◌||◌, List, [], ◌∷◌, length, refl, sym, ap, ◌∙◌, arith, subst, ⊎_elim, set, take, replicate}
use Rattle.std.proofs.lemmas.Bool.{eq-eqb, eqb-true, true≢false}
use Rattle.std.proofs.lemmas.Bool.Decides.{eqb_tells}
use Rattle.std.proofs.lemmas.List.{get_or-set_same, get_or-set_other, length-set, get_or-take, take-replicate, get_or-replicate}
use Rattle.std.proofs.Math.Seq.{take-set-lt}
use Rattle.std.specs.Prelude.{nat_eq}
use Rattle.std.specs.Ordering.{nat_cmp}
use Rattle.std.specs.Cmp.{nat_cmp_total}
use Rattle.std.specs.FinSet as sets
use Rattle.type_masks.specs.Masks.{Kinds, has, with_kind}
use Rattle.type_masks.specs.declared.shape.Shape.{Shape}
use Rattle.type_masks.proofs.Sets.{same_bool, and_true, or_true, or_right, or_cases, contains_insert}
use Rattle.world_state.specs.declared.fact.Fact.TheVariants.{In, Live}
use Rattle.world_state.specs.Facts.{InShape}
use Rattle.world_state.specs.Worlds.{no_kinds, mask_at, has_fact, with_fact, IsWorld, empty_of}
use Rattle.world_state.specs.Pages.{nothing_below, mask_of, with_kind_at}
use Rattle.world_state.specs.Kept.{kinds_of, facts_in, IsKept}
use Rattle.world_state.proofs.WorldFacts.{world_with, world_empty, empty_at}

-- a kind is in all masks together where it is in one of them
kinds_has : (ms : List Kinds) (n k : ℕ) → has (mask_of ms n) k ≡ true → sets.contains (kinds_of ms) k ≡ true
kinds_has [] n k h = absurd (true≢false (sym h ∙ sets.contains-empty nat_cmp k))
kinds_has (m ∷ ms) zero k h = sets.contains-union nat_cmp_total m.set (kinds_of ms) k ∙ or_true (sets.contains m.set k) (sets.contains (kinds_of ms) k) h
kinds_has (m ∷ ms) (suc n) k h = sets.contains-union nat_cmp_total m.set (kinds_of ms) k ∙ or_right (sets.contains m.set k) (sets.contains (kinds_of ms) k) (kinds_has ms n k h)

kinds_in : (ms : List Kinds) (k : ℕ) → sets.contains (kinds_of ms) k ≡ true → (n : ℕ) × (has (mask_of ms n) k ≡ true)
kinds_in [] k h = absurd (true≢false (sym h ∙ sets.contains-empty nat_cmp k))
kinds_in (m ∷ ms) k h =
    ⊎_elim (λ (here : sets.contains m.set k ≡ true). (0, here)) (λ (later : sets.contains (kinds_of ms) k ≡ true). let found = kinds_in ms k later in (suc found.0, found.1))
    (or_cases (sets.contains m.set k) (sets.contains (kinds_of ms) k) (sym (sets.contains-union nat_cmp_total m.set (kinds_of ms) k) ∙ h))

-- each kind stands in the mask of its 64
abbrev pub AreBlocks : List Kinds → Type 0
AreBlocks ms = (n k : ℕ) → has (mask_of ms n) k ≡ true → k / 64 ≡ n

block_has : (ms : List Kinds) (k : ℕ) → AreBlocks ms → has (mask_of ms (k / 64)) k ≡ sets.contains (kinds_of ms) k
block_has ms k blocks =
    same_bool (has (mask_of ms (k / 64)) k) (sets.contains (kinds_of ms) k) (kinds_has ms (k / 64) k)
    (λ h. let found = kinds_in ms k h in subst (λ n. has (mask_of ms n) k ≡ true) (sym (blocks found.0 k found.1)) found.1)

-- what a mask has with one kind more in one of them
has_with_at : (ms : List Kinds) (n k j q : ℕ) → n < length ms → has (mask_of (with_kind_at ms n k) j) q ≡ ((nat_eq j n && nat_eq q k) || has (mask_of ms j) q)
has_with_at ms n k j q within =
    ⊎_elim (λ (is : (nat_eq j n ≡ true) × (j ≡ n)).
    subst (λ i. has (mask_of (with_kind_at ms n k) i) q ≡ ((nat_eq i n && nat_eq q k) || has (mask_of ms i) q)) (sym is.1)
    (ap (λ (m : Kinds). has m q) (get_or-set_same ms n (with_kind (mask_of ms n) k) no_kinds within) ∙ contains_insert (mask_of ms n).set k q
    ∙ ap (λ b. (b && nat_eq q k) || has (mask_of ms n) q) (sym (eq-eqb n n refl))))
    (λ (is : (nat_eq j n ≡ false) × (j ≢ n)).
    ap (λ (m : Kinds). has m q) (get_or-set_other ms n j (with_kind (mask_of ms n) k) no_kinds is.1) ∙ ap (λ b. (b && nat_eq q k) || has (mask_of ms j) q) (sym is.0))
    (eqb_tells j n)

blocks_with : (ms : List Kinds) (k : ℕ) → k / 64 < length ms → AreBlocks ms → AreBlocks (with_kind_at ms (k / 64) k)
blocks_with ms k within blocks n q h =
    ⊎_elim
    (λ here.
    let both = and_true (nat_eq n (k / 64)) (nat_eq q k) here in
    ap (λ i. i / 64) (eqb-true q k both.1) ∙ sym (eqb-true n (k / 64) both.0))
    (blocks n q)
    (or_cases (nat_eq n (k / 64) && nat_eq q k) (has (mask_of ms n) q) (sym (has_with_at ms (k / 64) k n q within) ∙ h))

kinds_with : (ms : List Kinds) (k : ℕ) → k / 64 < length ms → AreBlocks ms → kinds_of (with_kind_at ms (k / 64) k) ≡ sets.insert (kinds_of ms) k
kinds_with ms k within blocks =
    sets.same_set nat_cmp_total sets.nat_cmp-IsAntisymmetric _ _ (λ q.
    sym (block_has (with_kind_at ms (k / 64) k) q (blocks_with ms k within blocks)) ∙ has_with_at ms (k / 64) k (q / 64) q within
    ∙ ap (λ b. b || has (mask_of ms (q / 64)) q) (same_block q) ∙ ap (λ b. nat_eq q k || b) (block_has ms q blocks) ∙ sym (contains_insert (kinds_of ms) k q))
  where
    same_block : (q : ℕ) → (nat_eq (q / 64) (k / 64) && nat_eq q k) ≡ nat_eq q k
    same_block q =
        same_bool (nat_eq (q / 64) (k / 64) && nat_eq q k) (nat_eq q k) (λ h. (and_true (nat_eq (q / 64) (k / 64)) (nat_eq q k) h).1)
        (λ h. ap (λ b. b && nat_eq q k) (eq-eqb (q / 64) (k / 64) (ap (λ i. i / 64) (eqb-true q k h))) ∙ h)

kinds_of_none : (count bound : ℕ) → kinds_of (replicate count (nothing_below bound)) ≡ sets.empty
kinds_of_none count bound =
    sets.same_set nat_cmp_total sets.nat_cmp-IsAntisymmetric _ _ (λ q.
    same_bool (sets.contains (kinds_of (replicate count (nothing_below bound))) q) (sets.contains (sets.empty {R = nat_cmp}) q)
    (λ h. let found = kinds_in (replicate count (nothing_below bound)) q h in ap (λ t. sets.contains t q) (sym (empty_at count bound found.0)) ∙ found.1)
    (λ h. absurd (true≢false (sym h ∙ sets.contains-empty nat_cmp q))))

-- the mask of a slot
pub kept_mask : (s : Shape) (masks live : List Kinds) (slot : ℕ) → slot < s.slots → mask_of masks slot ≡ mask_at (facts_in s masks live) slot
kept_mask s masks live slot below = sym (get_or-take s.slots masks slot no_kinds below)

-- whether a member is live
pub kept_live : (s : Shape) (masks live : List Kinds) (member : ℕ) → IsKept s masks live → has (mask_of live (member / 64)) member ≡ has_fact (facts_in s masks live) (Live member)
kept_live s masks live member kept = block_has live member kept.blocks

pub kept_not_live : (s : Shape) (masks live : List Kinds) (member : ℕ) → IsKept s masks live → s.members ≤ member → false ≡ has_fact (facts_in s masks live) (Live member)
kept_not_live s masks live member kept past =
    same_bool false (has_fact (facts_in s masks live) (Live member)) (λ h. absurd (true≢false (sym h)))
    (λ h. let inside : member < s.members = kept.world.inside (Live member) h in absurd (omega (arith, inside, past)))

-- one fact more
pub in_facts : (s : Shape) (masks live : List Kinds) (slot kind : ℕ) → slot < s.slots → facts_in s (with_kind_at masks slot kind) live ≡ with_fact (facts_in s masks live) (In slot kind)
in_facts s masks live slot kind below =
    let mask : mask_of masks slot ≡ mask_at (facts_in s masks live) slot = kept_mask s masks live slot below in
    ap (λ (ms : List Kinds). record { shape = s; masks = ms; live = kinds_of live })
    (take-set-lt s.slots masks slot (with_kind (mask_of masks slot) kind) below ∙ ap (λ m. set (take s.slots masks) slot (with_kind m kind)) mask)

pub in_kept : (s : Shape) (masks live : List Kinds) (slot kind : ℕ) → IsKept s masks live → InShape s (In slot kind) → IsKept s (with_kind_at masks slot kind) live
in_kept s masks live slot kind kept room =
    record {
      slots = omega (arith, kept.slots, length-set masks slot (with_kind (mask_of masks slot) kind));
      members = kept.members;
      bounds = kept.bounds;
      blocks = kept.blocks;
      world = subst IsWorld (sym (in_facts s masks live slot kind room.0)) (world_with (facts_in s masks live) (In slot kind) kept.world room);
    }

pub live_facts : (s : Shape) (masks live : List Kinds) (member : ℕ) → IsKept s masks live → member < s.members → facts_in s masks (with_kind_at live (member / 64) member) ≡ with_fact (facts_in s masks live) (Live member)
live_facts s masks live member kept room =
    ap (λ (t : sets.FinSet nat_cmp). record { shape = s; masks = take s.slots masks; live = t }) (kinds_with live member (omega (arith, kept.members, room)) kept.blocks)

pub live_kept : (s : Shape) (masks live : List Kinds) (member : ℕ) → IsKept s masks live → member < s.members → IsKept s masks (with_kind_at live (member / 64) member)
live_kept s masks live member kept room =
    let within : member / 64 < length live = omega (arith, kept.members, room) in
    let same : length (with_kind_at live (member / 64) member) ≡ length live = length-set live (member / 64) (with_kind (mask_of live (member / 64)) member) in
    record {
      slots = kept.slots;
      members = subst (λ n. s.members ≤ n * 64) (sym same) kept.members;
      bounds = λ n inside.
          ⊎_elim
          (λ (is : (nat_eq n (member / 64) ≡ true) × (n ≡ member / 64)).
          subst (λ i. (mask_of (with_kind_at live (member / 64) member) i).bound ≡ s.members) (sym is.1)
          (ap (λ (m : Kinds). m.bound) (get_or-set_same live (member / 64) (with_kind (mask_of live (member / 64)) member) no_kinds within) ∙ kept.bounds (member / 64) within))
          (λ (is : (nat_eq n (member / 64) ≡ false) × (n ≢ member / 64)).
          ap (λ (m : Kinds). m.bound) (get_or-set_other live (member / 64) n (with_kind (mask_of live (member / 64)) member) no_kinds is.1) ∙ kept.bounds n (omega (arith, same, inside)))
          (eqb_tells n (member / 64));
      blocks = blocks_with live member within kept.blocks;
      world = subst IsWorld (sym (live_facts s masks live member kept room)) (world_with (facts_in s masks live) (Live member) kept.world room);
    }

-- no facts
pub empty_facts : (s : Shape) (masks live : List Kinds) → masks ≡ replicate (length masks) (nothing_below s.kinds) → s.slots ≤ length masks → live ≡ replicate (length live) (nothing_below s.members) → facts_in s masks live ≡ empty_of s
empty_facts s masks live none enough nobody =
    let slots : take s.slots masks ≡ replicate s.slots (nothing_below s.kinds) = ap (take s.slots) none ∙ take-replicate s.slots (length masks) (nothing_below s.kinds) enough in
    let members : kinds_of live ≡ sets.empty = ap kinds_of nobody ∙ kinds_of_none (length live) s.members in
    λ i. record { shape = s; masks = slots i; live = members i }

pub empty_kept : (s : Shape) (masks live : List Kinds) → masks ≡ replicate (length masks) (nothing_below s.kinds) → s.slots ≤ length masks → live ≡ replicate (length live) (nothing_below s.members) → s.members ≤ length live * 64 → IsKept s masks live
empty_kept s masks live none enough nobody room =
    record {
      slots = enough;
      members = room;
      bounds = λ n within. ap (λ ms. (mask_of ms n).bound) nobody ∙ ap (λ (m : Kinds). m.bound) (get_or-replicate (length live) n (nothing_below s.members) no_kinds within);
      blocks = λ n k h. absurd (true≢false (sym h ∙ ap (λ ms. has (mask_of ms n) k) nobody ∙ ap (λ t. sets.contains t k) (empty_at (length live) s.members n) ∙ sets.contains-empty nat_cmp k));
      world = subst IsWorld (sym (empty_facts s masks live none enough nobody)) (world_empty s);
    }
