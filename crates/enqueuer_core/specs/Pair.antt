-- An example: two members, of which 0 reads slot 0 and gives nothing, and 1 reads nothing and gives kind 0 in slot 0.
use Rattle.std.specs.Prelude.{ℕ, nat_eq, [], ◌∷◌, if◌then◌else◌}
use Rattle.world_state.specs.Worlds.{Facts, mask_at}
use Rattle.world_state.specs.declared.fact.Fact.TheVariants.{In, Live}
use Rattle.world_state.specs.declared.impact.Impact.{Impact}
use Rattle.enqueuer_core.specs.Least.{Meaning}

abbrev pub pair_impact : ℕ → Facts → Impact
pair_impact n w =
    record {
      member = n;
      reads = if nat_eq n 0 then record { slot = 0; mask = mask_at w 0 } ∷ [] else [];
      facts = if nat_eq n 0 then [] else In 0 0 ∷ [];
    }

abbrev pub pair : Meaning
pair = record { shape = record { members = 2; slots = 1; kinds = 1 }; roots = Live 0 ∷ Live 1 ∷ []; impact = pair_impact }
