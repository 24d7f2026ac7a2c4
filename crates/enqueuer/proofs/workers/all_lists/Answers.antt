use Rattle.std.proofs.Common.{arith, Result, Ok, Err}
use Rattle.std.specs.Prelude.{IfOk}
use Rattle.enqueuer.specs.Lists.{AreAllOf}
use Rattle.enqueuer.proofs.workers.all_lists.Goals as goal

both : {X E : Type 0} (r : Result X E) (P Q R : X → Type 0) → ((x : X) → P x → Q x → R x) → IfOk r P → IfOk r Q → IfOk r R
both (Ok x) P Q R f p q = f x p q
both (Err e) P Q R f p q = tt

pub returns : goal.returns
returns g c =
    let m = g.I.Impacts.meaning c.args.impacts.now in
    both c.map_vec.result _ _ (λ v. AreAllOf m v.items)
    (λ v long gives k d below.
    let job = gives k d (omega (arith, long, v.ok.0, c.loop-worker.numbers.ok.0)) in
    let call = job.1.call.met in
    call)
    c.map_vec.ensures.len c.map_vec.ensures.each
