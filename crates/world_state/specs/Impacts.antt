-- How impacts are told apart.
use Rattle.std.specs.Prelude.{◌≡◌, ℕ, List, refl, ◌⊎◌}
use Rattle.std.proofs.Common.{inl, inr}
use Rattle.std.specs.Coded.{Coded, code_by, coded×, coded⊎, coded_ℕ, coded_list}
use Rattle.world_state.specs.declared.fact.Fact.{Fact}
use Rattle.world_state.specs.declared.fact.Fact.TheVariants.{In, Live}
use Rattle.world_state.specs.declared.reads.SlotRead.{SlotRead}
use Rattle.world_state.specs.declared.impact.Impact.{Impact}
use Rattle.world_state.specs.Reads.{coded_reads}

abbrev pub fact_to : Fact → (ℕ × ℕ) ⊎ ℕ
fact_to (In slot kind) = inl (slot, kind)
fact_to (Live member) = inr member

abbrev pub fact_from : (ℕ × ℕ) ⊎ ℕ → Fact
fact_from (inl p) = In p.0 p.1
fact_from (inr n) = Live n

pub fact_back : (f : Fact) → fact_from (fact_to f) ≡ f
fact_back (In slot kind) = refl
fact_back (Live member) = refl

abbrev pub coded_Fact : Coded Fact
coded_Fact = code_by ((ℕ × ℕ) ⊎ ℕ) (coded⊎ (coded× coded_ℕ coded_ℕ) coded_ℕ) fact_to fact_from fact_back

abbrev pub coded_Impact : Coded Impact
coded_Impact =
    code_by (ℕ × (List SlotRead × List Fact)) (coded× coded_ℕ (coded× coded_reads (coded_list coded_Fact)))
    (λ j. (j.member, (j.reads, j.facts))) (λ p. record { member = p.0; reads = p.1.0; facts = p.1.1 }) (λ _. refl)
