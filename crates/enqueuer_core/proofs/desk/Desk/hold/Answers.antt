use Rattle.std.proofs.Common.{◌≡◌, ◌<◌, ℕ, length, ap, ◌∙◌, sym, subst, refl, arith, Option, Some, None, IsSome}
use Rattle.type_masks.specs.declared.shape.Shape.{Shape}
use Rattle.index_links.specs.Lists.{nodes_in, without_node}
use Rattle.world_state.specs.Worlds.{Facts}
use Rattle.enqueuer_core.specs.Core.{State, Take, held_by, happens, times}
use Rattle.enqueuer_core.specs.Inside.{state_of}
use Rattle.enqueuer_core.proofs.Worklists.{listed_in, removed}
use Rattle.enqueuer_core.proofs.DeskLaws.{desk_of, worklist_of, taken_state, pending_member, held_set_event}
use Rattle.enqueuer_core.proofs.desk.Desk.hold.Goals as goal

pub remove-requires : goal.remove-requires
remove-requires c =
    let there : 0 < times c.args.member (nodes_in c.self.inside.pending 0) = subst (λ (s : State). 0 < times c.args.member s.pending) (sym c.self.view_is) c.requires.member in
    let P : Option ℕ → Type 0 = λ o. IsSome o in
    let some : P (Some 0) = refl in
    subst P (sym (listed_in c.self.inside.pending c.args.member c.self.invariant.lists there)) some

pub index_mut-requires : goal.index_mut-requires
index_mut-requires c =
    let within : c.args.worker < length c.self.inside.held.items = subst (λ (s : State). c.args.worker < length s.held) (sym c.self.view_is) c.requires.worker.0 in omega arith

pub invariant_of-result : goal.invariant_of-result
invariant_of-result c =
    let there : 0 < times c.args.member (nodes_in c.self.inside.pending 0) = subst (λ (s : State). 0 < times c.args.member s.pending) (sym c.self.view_is) c.requires.member in
    let member = pending_member (state_of c.self.inside) c.args.member c.self.invariant.state there in
    record { within = subst (λ (w : Facts). c.args.member < w.shape.members) (sym c.in_ok-snapshot.ensures) (subst (λ (k : Shape). c.args.member < k.members) (sym c.self.invariant.state.shape) member) }

pub invariant_of-self : goal.invariant_of-self
invariant_of-self c =
    let there : 0 < times c.args.member (nodes_in c.self.inside.pending 0) = subst (λ (s : State). 0 < times c.args.member s.pending) (sym c.self.view_is) c.requires.member in
    let within : c.args.worker < length c.self.inside.held.items = subst (λ (s : State). c.args.worker < length s.held) (sym c.self.view_is) c.requires.worker.0 in
    let idle : held_by (state_of c.self.inside) c.args.worker ≡ None = ap (λ (s : State). held_by s c.args.worker) c.self.view_is ∙ c.requires.worker.1 in
    let list = removed c.self.inside.pending c.remove.new.self c.self.inside.shape.members c.args.member (nodes_in c.self.inside.pending 0) (worklist_of c.self.inside c.self.invariant) there c.remove.ensures in
    desk_of _ (without_node c.args.member (nodes_in c.self.inside.pending 0))
    (taken_state c.self.inside _ c.args.worker c.args.member c.self.invariant within idle there
    (held_set_event (state_of c.self.inside) c.args.worker c.args.member (nodes_in c.remove.new.self 0) list.pending))
    list c.self.invariant.hints

pub returns-clause-ok : goal.returns-clause-ok
returns-clause-ok c =
    let there : 0 < times c.args.member (nodes_in c.self.inside.pending 0) = subst (λ (s : State). 0 < times c.args.member s.pending) (sym c.self.view_is) c.requires.member in
    let list = removed c.self.inside.pending c.remove.new.self c.self.inside.shape.members c.args.member (nodes_in c.self.inside.pending 0) (worklist_of c.self.inside c.self.invariant) there c.remove.ensures in (
      record {
        worker_is = refl;
        snapshot = c.in_ok-snapshot.ensures ∙ ap (λ (s : State). s.world) c.self.view_is;
        pending = c.requires.member;
        event = held_set_event (state_of c.self.inside) c.args.worker c.args.member (nodes_in c.remove.new.self 0) list.pending ∙ ap (λ (s : State). happens s (Take c.args.worker c.args.member)) c.self.view_is;
      },
      refl,
    )
