use Rattle.std.proofs.Common.{◌∙◌, sym}
use Rattle.world_state.proofs.WorldFacts.{same_is}
use Rattle.enqueuer.proofs.compare.is_same_read.Goals as goal

pub returns-then-a-b : goal.returns-then-a-b
returns-then-a-b c = λ yes.
    let masks = same_is c.args.a.now.mask c.args.b.now.mask (sym c.is_same.ensures ∙ yes) in
    λ i. record { slot = c.if-a-b.true i; mask = masks i }
