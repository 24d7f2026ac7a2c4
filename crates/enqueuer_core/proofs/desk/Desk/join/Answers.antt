use Rattle.std.proofs.Common.{◌≡◌, Bool, cond, ap, ◌∙◌, sym, subst}
use Rattle.world_state.specs.Worlds.{absent_of}
use Rattle.enqueuer_core.specs.Core.{State, accepted, returned, all_same}
use Rattle.enqueuer_core.specs.Desks.{IsVerdict}
use Rattle.enqueuer_core.specs.declared.joined.Joined.TheVariants.{Whole, Part}
use Rattle.enqueuer_core.proofs.desk.Desk.join.Goals as goal
use Rattle.enqueuer_core.proofs.desk.Desk.join.Goals.{in-Whole, in-Part}

pub returns-in-Ok-accept-clause-event : goal.returns-in-Ok-accept-clause-event
returns-in-Ok-accept-clause-event c =
    let s = c.args.self.now in
    let worlds : c.self.inside.world ≡ s.world = ap (λ (x : State). x.world) c.self.view_is in
    let told : IsVerdict s.world c.args.impact.reads c.in-Ok.verdict = subst (λ w. IsVerdict w c.args.impact.reads c.in-Ok.verdict) worlds (subst (λ rs. IsVerdict c.self.inside.world rs c.in-Ok.verdict) c.as_slice.ensures.reads c.in-Ok.ensures) in
    let made = λ (b : Bool). accepted s c.args.job.worker c.args.impact b (absent_of s.world c.args.impact.facts) in
    elim c.match-verdict.branch [
      | in-Whole w ↦
          let now : IsVerdict s.world c.args.impact.reads Whole = subst (λ v. IsVerdict s.world c.args.impact.reads v) w.in-Whole.is told in
          c.in-Ok-accept.ensures.ok ∙ ap made (w.whole-is ∙ sym now.1)
          ∙ ap (λ b. cond b (made (all_same s.world c.args.impact.reads)) (returned s c.args.job.worker c.args.impact.member)) (sym now.0)
      | in-Part w ↦
          let now : IsVerdict s.world c.args.impact.reads Part = subst (λ v. IsVerdict s.world c.args.impact.reads v) w.in-Part.is told in
          c.in-Ok-accept.ensures.ok ∙ ap made (w.whole-is ∙ sym now.1)
          ∙ ap (λ b. cond b (made (all_same s.world c.args.impact.reads)) (returned s c.args.job.worker c.args.impact.member)) (sym now.0)
    ]
