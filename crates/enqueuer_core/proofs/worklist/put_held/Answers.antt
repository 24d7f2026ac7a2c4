use Rattle.std.proofs.Common.{◌++◌, ◌∷◌, [], ap, ◌∙◌, sym, refl, arith, append_assoc}
use Rattle.index_links.specs.Lists.{nodes_in}
use Rattle.enqueuer_core.specs.Core.{numbers_where, times, is_held}
use Rattle.enqueuer_core.proofs.Worklists.{free_of, pushed, same_list}
use Rattle.enqueuer_core.proofs.DeskLaws.{next_more, next_same, past_free}
use Rattle.std.proofs.lemmas.List.{append-nil}
use Rattle.enqueuer_core.proofs.worklist.put_held.Goals as goal
use Rattle.enqueuer_core.proofs.worklist.put_held.Goals.{then-holds_member, else-holds_member}

pub loop-n-init : goal.loop-n-init
loop-n-init c = same_list c.args.pending.now c.args.pending.now c.args.members _ _ c.requires.list refl (sym (append-nil (nodes_in c.args.pending.now 0)))

pub push_back-requires-clause-list_exists : goal.push_back-requires-clause-list_exists
push_back-requires-clause-list_exists c = let one = c.loop-n.invariant.lists in omega arith

pub push_back-requires-clause-node_exists : goal.push_back-requires-clause-node_exists
push_back-requires-clause-node_exists c = let nodes = c.loop-n.invariant.nodes in omega arith

pub push_back-requires-clause-free : goal.push_back-requires-clause-free
push_back-requires-clause-free c =
    free_of c.loop-n.pending c.loop-n.n c.loop-n.invariant.lists
    (ap (times c.loop-n.n) c.loop-n.invariant.pending
    ∙ past_free (is_held c.args.held.now) c.loop-n.n (nodes_in c.args.pending.now 0) (c.requires.free c.loop-n.n (sym c.holds_member.ensures ∙ c.if-holds_member.true)))

pub loop-n-preserved : goal.loop-n-preserved
loop-n-preserved c =
    let p = is_held c.args.held.now in
    let old = nodes_in c.args.pending.now 0 in
    elim c.if-holds_member.branch [
      | then-holds_member w ↦
          same_list w.push_back.new.self c.if-holds_member.pending c.args.members _ _ (pushed c.loop-n.pending w.push_back.new.self c.args.members c.loop-n.n (old ++ numbers_where p c.loop-n.n) c.loop-n.invariant w.push_back.ensures) w.pending-is
          (append_assoc old (numbers_where p c.loop-n.n) (c.loop-n.n ∷ []) ∙ ap (λ xs. old ++ xs) (sym (next_more p c.loop-n.n (sym c.holds_member.ensures ∙ w.if-holds_member.true))))
      | else-holds_member w ↦
          same_list c.loop-n.pending c.if-holds_member.pending c.args.members _ _ c.loop-n.invariant w.pending-is (ap (λ xs. old ++ xs) (sym (next_same p c.loop-n.n (sym c.holds_member.ensures ∙ w.if-holds_member.false))))
    ]
