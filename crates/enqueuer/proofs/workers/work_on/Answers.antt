use Rattle.std.proofs.Common.{◌≡◌, ◌<◌, sym, subst, List, rules}
use Rattle.std.specs.Prelude.{is_ok}
use Rattle.type_masks.specs.declared.shape.Shape.{Shape}
use Rattle.world_state.specs.declared.impact.Impact.{Impact}
use Rattle.enqueuer_core.specs.Least.{IsOneOf}
use Rattle.enqueuer.specs.Lists.{AllOneOf}
use Rattle.enqueuer.proofs.Steps.{one_of, one_more}
use Rattle.enqueuer.proofs.workers.work_on.Goals as goal

pub returns-in-Kept : goal.returns-in-Kept
returns-in-Kept g c =
    let m = g.I.Impacts.meaning c.args.impacts.now in
    let laws = g.met.I.Impacts.lawful c.args.impacts.now in
    let shape : c.args.job.snapshot.shape ≡ m.shape = search rules in
    let below = subst (λ (sh : Shape). c.args.job.member < sh.members) shape c.args.job.within in
    let one = one_of m laws c.args.job.member c.args.job.snapshot c.in-Ok.impact below c.shape.ensures.world shape c.in-Ok.ensures in
    let copied : IsOneOf m c.in-Ok-copy.copy = subst (λ (j : Impact). IsOneOf m j) (sym c.in-Ok-copy.ensures) one in
    subst (λ (js : List Impact). AllOneOf m js) (sym c.push.ensures.items) (one_more m c.args.joined.now.items c.in-Ok-copy.copy (is_ok c.push.result) c.requires copied)
