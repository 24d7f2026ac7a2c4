-- What a join of reads answers, read by read.
use Rattle.std.proofs.Common.{◌≡◌, ℕ, ◌+◌, ◌<◌, Bool, true, false, ◌&&◌, List, ◌∷◌, length, refl, sym, ap, ◌∙◌, subst, get_or, drop}
use Rattle.std.proofs.lemmas.List.{drop_more}
use Rattle.std.specs.List.{AllByRecursion}
use Rattle.std.specs.Bool.{MatchBool}
use Rattle.type_masks.specs.Masks.{Kinds, is_within, is_same}
use Rattle.world_state.specs.Worlds.{Facts, mask_at}
use Rattle.world_state.specs.declared.reads.SlotRead.{SlotRead}
use Rattle.enqueuer_core.specs.Core.{all_within, all_same}
use Rattle.enqueuer_core.specs.Desks.{IsFirstOutside, IsVerdict}
use Rattle.enqueuer_core.specs.declared.joined.Joined.TheVariants.{Dropped}

-- what is known with these reads left
pub record IsJudged (w : Facts) (all : List SlotRead) (same : Bool) (rest : List SlotRead) : Type 0 where
  pub room : AllByRecursion (λ (r : SlotRead). r.slot < w.shape.slots) rest
  pub within : all_within w rest ≡ all_within w all
  pub alike : (same && all_same w rest) ≡ all_same w all
  pub first : (slot : ℕ) (read current : Kinds) → IsFirstOutside w rest slot read current → IsFirstOutside w all slot read current

pub judged_next : {w : Facts} {all : List SlotRead} {same : Bool} (xs : List SlotRead) (i : ℕ) (d : SlotRead) → i < length xs → IsJudged w all same (drop i xs) → IsJudged w all same (get_or xs i d ∷ drop (i + 1) xs)
judged_next {w} {all} {same} xs i d within h = subst (λ rest. IsJudged w all same rest) (drop_more xs i d within) h

pub judged_start : (w : Facts) (all : List SlotRead) → AllByRecursion (λ (r : SlotRead). r.slot < w.shape.slots) all → IsJudged w all true all
judged_start w all room = record { room = room; within = refl; alike = refl; first = λ slot read current h. h }

and_assoc : (a b c : Bool) → ((a && b) && c) ≡ (a && (b && c))
and_assoc true b c = refl
and_assoc false b c = refl

-- the read lies in the mask now
pub judged_in : {w : Facts} {all : List SlotRead} {same : Bool} {r : SlotRead} {rest : List SlotRead} → IsJudged w all same (r ∷ rest) → is_within r.mask (mask_at w r.slot) ≡ true → IsJudged w all (same && is_same r.mask (mask_at w r.slot)) rest
judged_in {w} {all} {same} {r} {rest} h inside =
    record {
      room = h.room.1;
      within = ap (λ b. b && all_within w rest) (sym inside) ∙ h.within;
      alike = and_assoc same (is_same r.mask (mask_at w r.slot)) (all_same w rest) ∙ h.alike;
      first = λ slot read current found. h.first slot read current (subst (λ b. MatchBool b (IsFirstOutside w rest slot read current) ((r.slot ≡ slot) × (r.mask ≡ read) × (mask_at w r.slot ≡ current))) (sym inside) found);
    }

-- the read does not
pub judged_out : {w : Facts} {all : List SlotRead} {same : Bool} {r : SlotRead} {rest : List SlotRead} → IsJudged w all same (r ∷ rest) → is_within r.mask (mask_at w r.slot) ≡ false → (slot : ℕ) (read current : Kinds) → r.slot ≡ slot → read ≡ r.mask → current ≡ mask_at w r.slot → IsVerdict w all (Dropped slot read current)
judged_out {w} {all} {same} {r} {rest} h outside slot read current a b c = (
  sym h.within ∙ ap (λ b. b && all_within w rest) outside,
  h.first slot read current (subst (λ b. MatchBool b (IsFirstOutside w rest slot read current) ((r.slot ≡ slot) × (r.mask ≡ read) × (mask_at w r.slot ≡ current))) (sym outside) (a, sym b, sym c)),
)
