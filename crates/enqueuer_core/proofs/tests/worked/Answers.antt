use Rattle.std.proofs.Common.{◌≡◌, ℕ, ◌<◌, sym, subst, rules}
use Rattle.type_masks.specs.declared.shape.Shape.{Shape}
use Rattle.world_state.specs.Worlds.{Facts, IsWorld}
use Rattle.world_state.specs.declared.impact.Impact.{Impact}
use Rattle.enqueuer_core.specs.Least.{IsInShape}
use Rattle.enqueuer_core.specs.Pair.{pair, pair_impact}
use Rattle.enqueuer_core.specs.PairLaws.{pair_lawful}
use Rattle.enqueuer_core.proofs.tests.worked.Goals as goal

pub returns : goal.returns
returns c =
    let shape : c.args.job.snapshot.shape ≡ pair.shape = search rules in
    inside c.args.job.member c.args.job.snapshot c.in_ok-impact.impact c.args.job.within c.shape.ensures.world shape c.in_ok-impact.ensures
  where
    inside : (n : ℕ) (w : Facts) (j : Impact) → n < w.shape.members → IsWorld w → w.shape ≡ pair.shape → j ≡ pair_impact n w → IsInShape w.shape j
    inside n w j below world shape is =
        let within : n < pair.shape.members = subst (λ (s : Shape). n < s.members) shape below in
        let given = pair_lawful.inside n w within (record { world = world; shape = shape }) in
        subst (λ (s : Shape). IsInShape s j) (sym shape) (subst (λ (i : Impact). IsInShape pair.shape i) (sym is) given)
