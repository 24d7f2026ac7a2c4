use Rattle.std.proofs.Common.{sym}
use Rattle.world_state.proofs.WorldFacts.{grown_next, grown_held, grown_added}
use Rattle.world_state.proofs.world.grow.Goals as goal
use Rattle.world_state.proofs.world.grow.Goals.{then-not-has+in_ok-add+in_ok-push, else-not-has}

pub loop-fact-preserved : goal.loop-fact-preserved
loop-fact-preserved c =
    let next = grown_next c.args.facts.now c.loop-fact.fact-index _ c.loop-fact-test.true c.loop-fact.invariant in
    elim c.if-not-has.branch [
      | then-not-has+in_ok-add+in_ok-push w ↦ rw (w.world-is, w.in_ok-add.ensures.ok, w.added-is, w.in_ok-push.ensures.ok) (grown_added next (sym w.if-not-has.ensures))
      | else-not-has w ↦ rw (w.world-is, w.added-is) (grown_held next (sym w.if-not-has.ensures))
    ]
