use Rattle.std.proofs.Common.{◌≡◌, ◌++◌, ◌∷◌, [], List, true, length, ap, ◌∙◌, sym, subst, refl, Some, None}
use Rattle.std.specs.Vec.{with_item}
use Rattle.index_links.specs.Lists.{nodes_in}
use Rattle.world_state.specs.Worlds.{absent_of}
use Rattle.enqueuer_core.specs.declared.history.Entry.{Entry}
use Rattle.enqueuer_core.specs.declared.desk.Desk.TheInside.{Inside}
use Rattle.enqueuer_core.specs.Least.{IsInShape}
use Rattle.enqueuer_core.specs.Core.{State, IsState, held_by, numbers_where, is_woken, accepted, all_within, all_same, without}
use Rattle.enqueuer_core.specs.Inside.{state_of}
use Rattle.enqueuer_core.proofs.DeskLaws.{desk_of, worklist_of, woken_free, settled_is, length_settled, made_event, accepted_state}
use Rattle.enqueuer_core.proofs.desk.Desk.accept.Goals as goal

pub invariant_of-self : goal.invariant_of-self
invariant_of-self c =
    let d = c.self.inside in
    record {
      state = subst (λ (es : List Entry). IsState (record { shape = d.shape; roots = d.roots; world = d.world; pending = nodes_in d.pending 0; settled = d.settled.items; held = d.held.items; history = es })) (sym c.reserve.ensures.items) c.self.invariant.state;
      nodes = c.self.invariant.nodes;
      lists = c.self.invariant.lists;
      hints = c.self.invariant.hints;
    }

pub wake-requires-clause-list : goal.wake-requires-clause-list
wake-requires-clause-list c = worklist_of c.self.inside c.self.invariant

pub wake-requires-clause-room : goal.wake-requires-clause-room
wake-requires-clause-room c = ap length c.settle.ensures ∙ length_settled c.self.inside.settled.items c.args.impact.member c.in-Ok.kept ∙ c.self.invariant.state.room

pub wake-requires-clause-free : goal.wake-requires-clause-free
wake-requires-clause-free c n below wakes =
    let d = c.self.inside in
    let j = c.args.impact in
    let holds : held_by (state_of d) c.args.worker ≡ Some j.member = ap (λ (s : State). held_by s c.args.worker) c.self.view_is ∙ c.requires.holds in
    let shape : IsInShape d.shape j = subst (λ (s : State). IsInShape s.shape j) (sym c.self.view_is) c.requires.shape in
    let within : all_within d.world j.reads ≡ true = ap (λ (s : State). all_within s.world j.reads) c.self.view_is ∙ c.requires.within in
    let same : c.args.whole ≡ all_same d.world j.reads = c.requires.whole ∙ ap (λ (s : State). all_same s.world j.reads) (sym c.self.view_is) in
    let settled = c.settle.ensures ∙ settled_is d.settled.items j c.args.whole c.in-Ok.kept c.in-Ok.ensures in
    let told =
    ap (λ fs. is_woken fs c.settle.new.settled.items j.member c.args.whole n) (c.as_slice.ensures ∙ c.in-Ok-add_facts.ensures.added)
    ∙ ap (λ xs. is_woken (absent_of d.world j.facts) xs j.member c.args.whole n) settled in
    woken_free (state_of d) c.args.worker j c.args.whole c.self.invariant.state holds shape within same n below (sym told ∙ wakes)

pub invariant_of-self-2 : goal.invariant_of-self-2
invariant_of-self-2 c =
    let d = c.self.inside in
    let j = c.args.impact in
    let e : Inside = record { shape = d.shape; roots = d.roots; world = c.add_facts.new.self; pending = c.wake.new.pending; settled = c.wake.new.settled; readers = c.wake.new.readers; marks = c.wake.new.marks; held = with_item d.held c.args.worker None; history = record { entries = c.record.new.entries } } in
    let holds : held_by (state_of d) c.args.worker ≡ Some j.member = ap (λ (s : State). held_by s c.args.worker) c.self.view_is ∙ c.requires.holds in
    let shape : IsInShape d.shape j = subst (λ (s : State). IsInShape s.shape j) (sym c.self.view_is) c.requires.shape in
    let within : all_within d.world j.reads ≡ true = ap (λ (s : State). all_within s.world j.reads) c.self.view_is ∙ c.requires.within in
    let same : c.args.whole ≡ all_same d.world j.reads = c.requires.whole ∙ ap (λ (s : State). all_same s.world j.reads) (sym c.self.view_is) in
    let settled = c.settle.ensures ∙ settled_is d.settled.items j c.args.whole c.in-Ok.kept c.in-Ok.ensures in
    let event = made_event d e c.args.worker j c.args.whole c.in-Ok-add_facts.added c.settle.new.settled.items refl refl c.in-Ok-add_facts.ensures.ok c.in-Ok-add_facts.ensures.added settled
    (c.wake.ensures.pending.pending ∙ ap (λ fs. nodes_in d.pending 0 ++ numbers_where (is_woken fs c.settle.new.settled.items j.member c.args.whole) d.shape.members) c.as_slice.ensures)
    (c.wake.ensures.settled ∙ ap (λ fs. without (is_woken fs c.settle.new.settled.items j.member c.args.whole) d.shape.members c.settle.new.settled.items) c.as_slice.ensures)
    refl (c.record.ensures ∙ ap (λ es. es ++ record { worker = c.args.worker; impact = j; whole = c.args.whole; added = c.in-Ok-add_facts.added } ∷ []) c.reserve.ensures.items) in
    desk_of e _ (accepted_state d (state_of e) c.args.worker j c.args.whole c.self.invariant holds shape within same event) c.wake.ensures.pending
    (record { slots = c.wake.ensures.slots ∙ c.enlist.ensures.long ∙ c.self.invariant.hints.slots; listed = c.wake.ensures.listed; members = c.wake.ensures.marks; unmarked = c.wake.ensures.unmarked })

pub returns-clause-ok : goal.returns-clause-ok
returns-clause-ok c =
    let d = c.self.inside in
    let j = c.args.impact in
    let e : Inside = record { shape = d.shape; roots = d.roots; world = c.add_facts.new.self; pending = c.wake.new.pending; settled = c.wake.new.settled; readers = c.wake.new.readers; marks = c.wake.new.marks; held = with_item d.held c.args.worker None; history = record { entries = c.record.new.entries } } in
    let settled = c.settle.ensures ∙ settled_is d.settled.items j c.args.whole c.in-Ok.kept c.in-Ok.ensures in
    made_event d e c.args.worker j c.args.whole c.in-Ok-add_facts.added c.settle.new.settled.items refl refl c.in-Ok-add_facts.ensures.ok c.in-Ok-add_facts.ensures.added settled
    (c.wake.ensures.pending.pending ∙ ap (λ fs. nodes_in d.pending 0 ++ numbers_where (is_woken fs c.settle.new.settled.items j.member c.args.whole) d.shape.members) c.as_slice.ensures)
    (c.wake.ensures.settled ∙ ap (λ fs. without (is_woken fs c.settle.new.settled.items j.member c.args.whole) d.shape.members c.settle.new.settled.items) c.as_slice.ensures)
    refl (c.record.ensures ∙ ap (λ es. es ++ record { worker = c.args.worker; impact = j; whole = c.args.whole; added = c.in-Ok-add_facts.added } ∷ []) c.reserve.ensures.items)
    ∙ ap (λ (s : State). accepted s c.args.worker j c.args.whole (absent_of s.world j.facts)) c.self.view_is
