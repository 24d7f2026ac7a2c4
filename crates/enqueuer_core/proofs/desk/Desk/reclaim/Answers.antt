use Rattle.std.proofs.Common.{◌++◌, ap, ◌∙◌, sym}
use Rattle.index_links.specs.Lists.{nodes_in}
use Rattle.enqueuer_core.specs.Core.{State, Reclaim, happens, numbers_where, is_held}
use Rattle.enqueuer_core.specs.Inside.{state_of}
use Rattle.enqueuer_core.proofs.DeskLaws.{desk_of, worklist_of, any_held_free, reclaimed_state, reclaimed_event}
use Rattle.enqueuer_core.proofs.desk.Desk.reclaim.Goals as goal

pub put_held-requires-clause-list : goal.put_held-requires-clause-list
put_held-requires-clause-list c = worklist_of c.self.inside c.self.invariant

pub put_held-requires-clause-free : goal.put_held-requires-clause-free
put_held-requires-clause-free c n held = any_held_free (state_of c.self.inside) n c.self.invariant.state (ap (λ xs. is_held xs n) (sym c.as_slice.ensures.value) ∙ held)

pub invariant_of-self : goal.invariant_of-self
invariant_of-self c =
    let s = state_of c.self.inside in
    desk_of _ (nodes_in c.self.inside.pending 0 ++ numbers_where (is_held c.as_slice.result.now) c.self.inside.shape.members)
    (reclaimed_state c.self.inside _ c.self.invariant
    (reclaimed_event s (nodes_in c.put_held.new.pending 0) c.release.new.held.items
    (c.put_held.ensures.pending ∙ ap (λ xs. s.pending ++ numbers_where (is_held xs) s.shape.members) c.as_slice.ensures.value) c.release.ensures))
    c.put_held.ensures c.self.invariant.hints

pub returns : goal.returns
returns c =
    let s = state_of c.self.inside in
    reclaimed_event s (nodes_in c.put_held.new.pending 0) c.release.new.held.items
    (c.put_held.ensures.pending ∙ ap (λ xs. s.pending ++ numbers_where (is_held xs) s.shape.members) c.as_slice.ensures.value) c.release.ensures
    ∙ ap (λ (t : State). happens t Reclaim) c.self.view_is
