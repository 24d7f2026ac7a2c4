use Rattle.std.proofs.Common.{◌≡◌, ◌++◌, ◌∷◌, [], ap, ◌∙◌, arith, Some}
use Rattle.index_links.specs.Lists.{nodes_in}
use Rattle.enqueuer_core.specs.Core.{State, held_by, returned}
use Rattle.enqueuer_core.specs.Inside.{state_of}
use Rattle.enqueuer_core.proofs.Kept.{worker_of}
use Rattle.enqueuer_core.proofs.Worklists.{free_of, pushed}
use Rattle.enqueuer_core.proofs.DeskLaws.{desk_of, worklist_of, returned_state, held_free, held_member, returned_event}
use Rattle.enqueuer_core.proofs.desk.Desk.put_back.Goals as goal

pub push_back-requires-clause-list_exists : goal.push_back-requires-clause-list_exists
push_back-requires-clause-list_exists c = let one = c.self.invariant.lists in omega arith

pub push_back-requires-clause-node_exists : goal.push_back-requires-clause-node_exists
push_back-requires-clause-node_exists c =
    let holds : held_by (state_of c.self.inside) c.args.worker ≡ Some c.args.member = ap (λ (s : State). held_by s c.args.worker) c.self.view_is ∙ c.requires in
    let nodes = c.self.invariant.nodes in
    let member = held_member (state_of c.self.inside) c.args.worker c.args.member c.self.invariant.state holds in
    omega arith

pub push_back-requires-clause-free : goal.push_back-requires-clause-free
push_back-requires-clause-free c =
    let holds : held_by (state_of c.self.inside) c.args.worker ≡ Some c.args.member = ap (λ (s : State). held_by s c.args.worker) c.self.view_is ∙ c.requires in
    free_of c.self.inside.pending c.args.member c.self.invariant.lists (held_free (state_of c.self.inside) c.args.worker c.args.member c.self.invariant.state holds)

pub index_mut-requires : goal.index_mut-requires
index_mut-requires c =
    let holds : held_by (state_of c.self.inside) c.args.worker ≡ Some c.args.member = ap (λ (s : State). held_by s c.args.worker) c.self.view_is ∙ c.requires in
    let within = worker_of c.self.inside.held.items c.args.worker c.args.member holds in omega arith

pub invariant_of-self : goal.invariant_of-self
invariant_of-self c =
    let holds : held_by (state_of c.self.inside) c.args.worker ≡ Some c.args.member = ap (λ (s : State). held_by s c.args.worker) c.self.view_is ∙ c.requires in
    let list = pushed c.self.inside.pending c.push_back.new.self c.self.inside.shape.members c.args.member (nodes_in c.self.inside.pending 0) (worklist_of c.self.inside c.self.invariant) c.push_back.ensures in
    desk_of _ (nodes_in c.self.inside.pending 0 ++ c.args.member ∷ [])
    (returned_state c.self.inside _ c.args.worker c.args.member c.self.invariant holds (returned_event (state_of c.self.inside) c.args.worker c.args.member (nodes_in c.push_back.new.self 0) list.pending))
    list c.self.invariant.hints

pub returns : goal.returns
returns c =
    let list = pushed c.self.inside.pending c.push_back.new.self c.self.inside.shape.members c.args.member (nodes_in c.self.inside.pending 0) (worklist_of c.self.inside c.self.invariant) c.push_back.ensures in
    returned_event (state_of c.self.inside) c.args.worker c.args.member (nodes_in c.push_back.new.self 0) list.pending
    ∙ ap (λ (s : State). returned s c.args.worker c.args.member) c.self.view_is
