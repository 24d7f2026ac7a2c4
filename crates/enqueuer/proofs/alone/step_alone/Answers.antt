use Rattle.std.proofs.Common.{◌≡◌, ◌<◌, ◌∙◌, sym, ap, subst}
use Rattle.world_state.specs.Worlds.{Facts, IsWorld}
use Rattle.type_masks.specs.declared.shape.Shape.{Shape}
use Rattle.world_state.specs.declared.impact.Impact.{Impact}
use Rattle.enqueuer_core.specs.Core.{State, Join, happens, held_by}
use Rattle.enqueuer_core.specs.Least.{IsInShape, Agrees}
use Rattle.enqueuer_core.proofs.DeskLaws.{pending_member}
use Rattle.std.specs.List.{AllByRecursion}
use Rattle.world_state.specs.Facts.{InShape}
use Rattle.enqueuer.specs.Alone.{IsAlone, work_left}
use Rattle.enqueuer.proofs.Work.{step_less}
use Rattle.enqueuer.proofs.Steps.{one_of, in_shape, held_now, stepped}
use Rattle.enqueuer.proofs.alone.step_alone.Goals as goal

pub impact-requires-clause-shape : goal.impact-requires-clause-shape
impact-requires-clause-shape g c =
    let t = rw c.in-Some.is at c.in_ok-job.ensures.some in
    ap (λ (w : Facts). w.shape) t.0.snapshot ∙ c.requires.state.shape ∙ c.requires.shape

pub impact-requires-clause-member : goal.impact-requires-clause-member
impact-requires-clause-member g c =
    let t = rw c.in-Some.is at c.in_ok-job.ensures.some in
    subst (λ (sh : Shape). c.in-Some.job.member < sh.members) c.requires.shape (pending_member c.args.desk.now c.in-Some.job.member c.requires.state t.0.pending)

pub join-requires-clause-holds : goal.join-requires-clause-holds
join-requires-clause-holds g c =
    let s = c.args.desk.now in
    let n = c.in-Some.job.member in
    let t = rw c.in-Some.is at c.in_ok-job.ensures.some in (
      ap (λ k. held_by c.take.new.self k) t.0.worker_is ∙ ap (λ (x : State). held_by x 0) t.0.event ∙ held_now s n c.requires.worker,
      ap (λ (w : Facts). w.shape) t.0.snapshot ∙ c.requires.state.shape ∙ sym (ap (λ (x : State). x.shape) t.0.event),
    )

pub join-requires-clause-shape : goal.join-requires-clause-shape
join-requires-clause-shape g c =
    let m = g.I.Impacts.meaning c.args.impacts.now in
    let laws = g.met.I.Impacts.lawful c.args.impacts.now in
    let s = c.args.desk.now in
    let n = c.in-Some.job.member in
    let t = rw c.in-Some.is at c.in_ok-job.ensures.some in
    let below : n < m.shape.members = subst (λ (sh : Shape). n < sh.members) c.requires.shape (pending_member s n c.requires.state t.0.pending) in
    let world : IsWorld c.in-Some.job.snapshot = subst IsWorld (sym t.0.snapshot) c.requires.state.world in
    let shape : c.in-Some.job.snapshot.shape ≡ m.shape = ap (λ (w : Facts). w.shape) t.0.snapshot ∙ c.requires.state.shape ∙ c.requires.shape in
    subst (λ (sh : Shape). IsInShape sh c.in_ok-impact.impact) (sym (ap (λ (x : State). x.shape) t.0.event ∙ c.requires.shape))
    (in_shape m laws n c.in-Some.job.snapshot c.in_ok-impact.impact below world shape c.in_ok-impact.ensures)

pub returns-in-Ok-clause-alone : goal.returns-in-Ok-clause-alone
returns-in-Ok-clause-alone g c =
    let m = g.I.Impacts.meaning c.args.impacts.now in
    let laws = g.met.I.Impacts.lawful c.args.impacts.now in
    let s = c.args.desk.now in
    let n = c.in-Some.job.member in
    let j = c.in_ok-impact.impact in
    let t = rw c.in-Some.is at c.in_ok-job.ensures.some in
    let below : n < m.shape.members = subst (λ (sh : Shape). n < sh.members) c.requires.shape (pending_member s n c.requires.state t.0.pending) in
    let world : IsWorld c.in-Some.job.snapshot = subst IsWorld (sym t.0.snapshot) c.requires.state.world in
    let shape : c.in-Some.job.snapshot.shape ≡ m.shape = ap (λ (w : Facts). w.shape) t.0.snapshot ∙ c.requires.state.shape ∙ c.requires.shape in
    let named : j.member ≡ n = ap (λ (i : Impact). i.member) c.in_ok-impact.ensures ∙ laws.member n c.in-Some.job.snapshot in
    let now = stepped m s n j c.requires t.0.pending (one_of m laws n c.in-Some.job.snapshot j below world shape c.in_ok-impact.ensures) (in_shape m laws n c.in-Some.job.snapshot j below world shape c.in_ok-impact.ensures) named in
    subst (λ (x : State). IsAlone m x) (sym (c.in-Ok.ensures.event ∙ ap (λ k. happens c.take.new.self (Join k j)) t.0.worker_is ∙ ap (λ (x : State). happens x (Join 0 j)) t.0.event)) now

pub returns-in-Ok-clause-less : goal.returns-in-Ok-clause-less
returns-in-Ok-clause-less g c more =
    let m = g.I.Impacts.meaning c.args.impacts.now in
    let laws = g.met.I.Impacts.lawful c.args.impacts.now in
    let s = c.args.desk.now in
    let n = c.in-Some.job.member in
    let j = c.in_ok-impact.impact in
    let t = rw c.in-Some.is at c.in_ok-job.ensures.some in
    let below : n < m.shape.members = subst (λ (sh : Shape). n < sh.members) c.requires.shape (pending_member s n c.requires.state t.0.pending) in
    let world : IsWorld c.in-Some.job.snapshot = subst IsWorld (sym t.0.snapshot) c.requires.state.world in
    let shape : c.in-Some.job.snapshot.shape ≡ m.shape = ap (λ (w : Facts). w.shape) t.0.snapshot ∙ c.requires.state.shape ∙ c.requires.shape in
    let named : j.member ≡ n = ap (λ (i : Impact). i.member) c.in_ok-impact.ensures ∙ laws.member n c.in-Some.job.snapshot in
    let inside = in_shape m laws n c.in-Some.job.snapshot j below world shape c.in_ok-impact.ensures in
    let now = stepped m s n j c.requires t.0.pending (one_of m laws n c.in-Some.job.snapshot j below world shape c.in_ok-impact.ensures) inside named in
    let room : AllByRecursion (InShape s.world.shape) j.facts = subst (λ (sh : Shape). AllByRecursion (InShape sh) j.facts) (sym (c.requires.state.shape ∙ c.requires.shape)) inside.facts in
    let agrees : Agrees j.reads s.world = subst (λ (w : Facts). Agrees j.reads w) t.0.snapshot (subst (λ (i : Impact). Agrees i.reads c.in-Some.job.snapshot) (sym c.in_ok-impact.ensures) (laws.reads n c.in-Some.job.snapshot below (record { world = world; shape = shape }))) in
    subst (λ (x : State). work_left x < work_left s) (sym (c.in-Ok.ensures.event ∙ ap (λ k. happens c.take.new.self (Join k j)) t.0.worker_is ∙ ap (λ (x : State). happens x (Join 0 j)) t.0.event))
    (step_less s n j c.requires.state t.0.pending now.state room agrees)
