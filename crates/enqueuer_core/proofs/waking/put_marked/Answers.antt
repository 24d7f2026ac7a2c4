use Rattle.std.proofs.Common.{◌≡◌, ◌<◌, ◌++◌, ◌∷◌, [], Bool, true, false, length, ap, ◌∙◌, sym, arith, Option, None, set, append_assoc}
use Rattle.std.specs.declared.alloc.Global.{Global}
use Rattle.std.specs.Prelude.{Vec}
use Rattle.world_state.specs.declared.impact.Impact.{Impact}
use Rattle.index_links.specs.Lists.{nodes_in}
use Rattle.enqueuer_core.specs.Core.{numbers_where, times}
use Rattle.enqueuer_core.specs.Hints.{is_marked}
use Rattle.enqueuer_core.proofs.Worklists.{free_of, pushed, same_list}
use Rattle.enqueuer_core.proofs.DeskLaws.{next_more, next_same, past_free, next_cleared, next_kept}
use Rattle.enqueuer_core.proofs.Marks.{mark_at, cleared_below, kept_past, clear_below}
use Rattle.std.proofs.lemmas.List.{length-set}
use Rattle.enqueuer_core.proofs.waking.put_marked.Goals as goal
use Rattle.enqueuer_core.proofs.waking.put_marked.Goals.{then-index, else-index}

pub push_back-requires-clause-free : goal.push_back-requires-clause-free
push_back-requires-clause-free c =
    let p = is_marked c.args.marks.now.items in
    let n = c.loop-n.n in
    let below : n < c.args.members = omega arith in
    let long = c.loop-n.invariant.long in
    let here : is_marked c.loop-n.marks.items n ≡ c.index.result.now = mark_at c.loop-n.marks.items n c.index.result.now (omega arith) c.index.ensures in
    free_of c.loop-n.pending n c.loop-n.invariant.pending.lists
    (ap (times n) c.loop-n.invariant.pending.pending
    ∙ past_free p n (nodes_in c.args.pending.now 0) (c.requires.free n below (sym (c.loop-n.invariant.past n (omega arith)) ∙ here ∙ c.if-index.true)))

pub loop-n-preserved : goal.loop-n-preserved
loop-n-preserved c =
    let p = is_marked c.args.marks.now.items in
    let n = c.loop-n.n in
    let old = nodes_in c.args.pending.now 0 in
    let below : n < c.args.members = omega arith in
    let long = c.loop-n.invariant.long in
    let here : is_marked c.loop-n.marks.items n ≡ c.index.result.now = mark_at c.loop-n.marks.items n c.index.result.now (omega arith) c.index.ensures in
    let first : p n ≡ c.index.result.now = sym (c.loop-n.invariant.past n (omega arith)) ∙ here in
    elim c.if-index.branch [
      | then-index w ↦
          let wakes : p n ≡ true = first ∙ w.if-index.true in
          let marks : c.if-index.marks.items ≡ set c.loop-n.marks.items n false = ap (λ (v : Vec Bool Global). v.items) w.marks-is in
          record {
            pending = same_list w.push_back.new.self c.if-index.pending c.args.members _ _ (pushed c.loop-n.pending w.push_back.new.self c.args.members n (old ++ numbers_where p n) c.loop-n.invariant.pending w.push_back.ensures) w.pending-is
                (append_assoc old (numbers_where p n) (n ∷ []) ∙ ap (λ xs. old ++ xs) (sym (next_more p n wakes)));
            settled = ap (λ (v : Vec (Option Impact) Global). v.items) w.settled-is ∙ ap (λ xs. set xs n None) c.loop-n.invariant.settled ∙ sym (next_cleared p n c.args.settled.now.items wakes);
            long = ap length marks ∙ length-set c.loop-n.marks.items n false ∙ c.loop-n.invariant.long;
            below = λ k less. ap (λ xs. is_marked xs k) marks ∙ cleared_below c.loop-n.marks.items n (omega arith) c.loop-n.invariant.below k less;
            past = λ k more. ap (λ xs. is_marked xs k) marks ∙ kept_past c.loop-n.marks.items n k more ∙ c.loop-n.invariant.past k (omega arith);
          }
      | else-index w ↦
          let sleeps : p n ≡ false = first ∙ w.if-index.false in
          let marks : c.if-index.marks.items ≡ c.loop-n.marks.items = ap (λ (v : Vec Bool Global). v.items) w.marks-is in
          record {
            pending = same_list c.loop-n.pending c.if-index.pending c.args.members _ _ c.loop-n.invariant.pending w.pending-is (ap (λ xs. old ++ xs) (sym (next_same p n sleeps)));
            settled = ap (λ (v : Vec (Option Impact) Global). v.items) w.settled-is ∙ c.loop-n.invariant.settled ∙ sym (next_kept p n c.args.settled.now.items sleeps);
            long = ap length marks ∙ c.loop-n.invariant.long;
            below = λ k less. ap (λ xs. is_marked xs k) marks ∙ clear_below c.loop-n.marks.items n (here ∙ w.if-index.false) c.loop-n.invariant.below k less;
            past = λ k more. ap (λ xs. is_marked xs k) marks ∙ c.loop-n.invariant.past k (omega arith);
          }
    ]
