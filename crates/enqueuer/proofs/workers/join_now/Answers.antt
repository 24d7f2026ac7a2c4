use Rattle.std.proofs.Common.{◌<◌, ◌∙◌, sym, subst, refl}
use Rattle.type_masks.specs.declared.shape.Shape.{Shape}
use Rattle.enqueuer_core.specs.Least.{IsInShape}
use Rattle.enqueuer.proofs.Steps.{in_shape}
use Rattle.enqueuer.proofs.workers.join_now.Goals as goal

pub join-requires-clause-shape : goal.join-requires-clause-shape
join-requires-clause-shape g c =
    let m = g.I.Impacts.meaning c.args.impacts.now in
    let laws = g.met.I.Impacts.lawful c.args.impacts.now in
    let below = subst (λ (sh : Shape). c.args.job.member < sh.members) c.requires.shape c.args.job.within in
    let inside = in_shape m laws c.args.job.member c.args.job.snapshot c.args.impact below c.requires.world c.requires.shape c.requires.is in
    let same = (c.if-not-holds.ensures.0 refl).1 in
    subst (λ (sh : Shape). IsInShape sh c.args.impact) (sym c.requires.shape ∙ same) inside
