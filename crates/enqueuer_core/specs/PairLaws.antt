-- The pair keeps the laws.
use Rattle.std.proofs.Common.{◌≡◌, ◌<◌, Bool, true, false, cond, List, [], ◌∷◌, refl, ap, arith}
use Rattle.std.specs.Prelude.{nat_eq}
use Rattle.std.specs.List.{AllByRecursion}
use Rattle.type_masks.specs.Masks.{Kinds}
use Rattle.world_state.specs.Facts.{InShape}
use Rattle.world_state.specs.Worlds.{Facts, mask_at}
use Rattle.world_state.specs.declared.fact.Fact.TheVariants.{In}
use Rattle.world_state.specs.declared.reads.SlotRead.{SlotRead}
use Rattle.enqueuer_core.specs.Least.{Agrees, IsLawful}
use Rattle.enqueuer_core.specs.Pair.{pair}

abbrev reads_of : Facts → Bool → List SlotRead
reads_of w b = cond b (record { slot = 0; mask = mask_at w 0 } ∷ []) []

pub pair_lawful : IsLawful pair
pair_lawful =
    record {
      roots = (omega arith, (omega arith, tt));
      member = λ n w. refl;
      inside = λ n w below of. record { member = below; reads = slots w (nat_eq n 0); facts = kinds (nat_eq n 0) };
      reads = λ n w below of. seen w (nat_eq n 0);
      same = λ n w v below ws vs agrees. let reads = alike w v (nat_eq n 0) agrees in λ i. record { member = n; reads = reads i; facts = cond (nat_eq n 0) [] (In 0 0 ∷ []) };
      grows = λ n w v below ws vs inside f h. h;
    }
  where
    slots : (w : Facts) (b : Bool) → AllByRecursion (λ (r : SlotRead). r.slot < 1) (reads_of w b)
    slots w true = (omega arith, tt)
    slots w false = tt

    kinds : (b : Bool) → AllByRecursion (InShape pair.shape) (cond b [] (In 0 0 ∷ []))
    kinds true = tt
    kinds false = ((omega arith, omega arith), tt)

    seen : (w : Facts) (b : Bool) → Agrees (reads_of w b) w
    seen w true = (refl, tt)
    seen w false = tt

    alike : (w v : Facts) (b : Bool) → Agrees (reads_of w b) v → reads_of v b ≡ reads_of w b
    alike w v true agrees = ap (λ (k : Kinds). record { slot = 0; mask = k } ∷ []) agrees.0
    alike w v false agrees = refl
