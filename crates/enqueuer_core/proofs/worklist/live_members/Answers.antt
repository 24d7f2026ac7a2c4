use Rattle.std.proofs.Common.{ℕ, ap, ◌∙◌, sym, arith}
use Rattle.world_state.specs.Worlds.{has_fact}
use Rattle.world_state.specs.declared.fact.Fact.TheVariants.{Live}
use Rattle.enqueuer_core.specs.Core.{numbers_where, times}
use Rattle.enqueuer_core.proofs.Counts.{times_past}
use Rattle.enqueuer_core.proofs.Worklists.{emptied, free_of, pushed, same_list}
use Rattle.enqueuer_core.proofs.DeskLaws.{next_more, next_same}
use Rattle.enqueuer_core.proofs.worklist.live_members.Goals as goal
use Rattle.enqueuer_core.proofs.worklist.live_members.Goals.{then-is_live, else-is_live}

pub loop-n-init : goal.loop-n-init
loop-n-init c = emptied c.args.members c.in_ok-pending.pending c.in_ok-pending.ensures

pub push_back-requires-clause-list_exists : goal.push_back-requires-clause-list_exists
push_back-requires-clause-list_exists c = let one = c.loop-n.invariant.lists in omega arith

pub push_back-requires-clause-node_exists : goal.push_back-requires-clause-node_exists
push_back-requires-clause-node_exists c = let nodes = c.loop-n.invariant.nodes in omega arith

pub push_back-requires-clause-free : goal.push_back-requires-clause-free
push_back-requires-clause-free c =
    free_of c.loop-n.pending c.loop-n.n c.loop-n.invariant.lists
    (ap (times c.loop-n.n) c.loop-n.invariant.pending ∙ times_past (λ n. has_fact c.args.world.now (Live n)) c.loop-n.n c.loop-n.n (omega arith))

pub loop-n-preserved : goal.loop-n-preserved
loop-n-preserved c =
    let p = λ (n : ℕ). has_fact c.args.world.now (Live n) in
    elim c.if-is_live.branch [
      | then-is_live w ↦
          same_list w.push_back.new.self c.if-is_live.pending c.args.members _ _ (pushed c.loop-n.pending w.push_back.new.self c.args.members c.loop-n.n (numbers_where p c.loop-n.n) c.loop-n.invariant w.push_back.ensures) w.pending-is
          (sym (next_more p c.loop-n.n (sym c.is_live.ensures ∙ w.if-is_live.true)))
      | else-is_live w ↦
          same_list c.loop-n.pending c.if-is_live.pending c.args.members _ _ c.loop-n.invariant w.pending-is (sym (next_same p c.loop-n.n (sym c.is_live.ensures ∙ w.if-is_live.false)))
    ]
