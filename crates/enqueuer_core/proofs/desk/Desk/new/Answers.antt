use Rattle.std.proofs.Common.{◌≡◌, List, ap, ◌∙◌, sym, subst}
use Rattle.std.specs.List.{AllByRecursion}
use Rattle.type_masks.specs.declared.shape.Shape.{Shape}
use Rattle.world_state.specs.Facts.{InShape}
use Rattle.world_state.specs.Worlds.{Facts, with_facts, empty_of}
use Rattle.world_state.specs.declared.fact.Fact.{Fact}
use Rattle.enqueuer_core.specs.Core.{roots_of}
use Rattle.enqueuer_core.specs.Inside.{state_of}
use Rattle.enqueuer_core.specs.declared.desk.Desk.TheInside.{Inside}
use Rattle.enqueuer_core.proofs.Enlisted.{hints_start}
use Rattle.enqueuer_core.proofs.DeskLaws.{desk_of, started_state, start_event}
use Rattle.enqueuer_core.proofs.desk.Desk.new.Goals as goal

pub add_facts-requires : goal.add_facts-requires
add_facts-requires g c =
    let m = g.I.Impacts.meaning c.args.impacts.now in
    let laws = g.met.I.Impacts.lawful c.args.impacts.now in
    let shape : m.shape ≡ c.in_ok-world.world.shape = sym (ap (λ (w : Facts). w.shape) c.in_ok-world.ensures ∙ c.shape-shape.ensures) in
    subst (λ (s : Shape). AllByRecursion (InShape s) c.in_ok-roots.roots) shape (subst (λ (fs : List Fact). AllByRecursion (InShape m.shape) fs) (sym c.in_ok-roots.ensures) laws.roots)

pub invariant_of-result-2 : goal.invariant_of-result-2
invariant_of-result-2 g c =
    let m = g.I.Impacts.meaning c.args.impacts.now in
    let laws = g.met.I.Impacts.lawful c.args.impacts.now in
    let e : Inside = record { shape = c.shape-shape.result; roots = c.roots.inside.items.items; world = Rattle.world_state.specs.contracts.world.World.the_view c.world.inside; pending = c.in_ok-pending.pending; settled = c.in_ok-no_impacts.field-0; readers = c.in_ok-no_readers.field-0; marks = c.in_ok-no_marks.field-0; held = c.in_ok-no_members.field-0; history = record { entries = c.new-2.result } } in
    let made : c.add_facts.new.self ≡ roots_of m.shape m.roots =
    c.in_ok-add_facts.ensures.ok
    ∙ ap (λ w. with_facts w c.in_ok-roots.roots) c.in_ok-world.ensures
    ∙ ap (λ fs. with_facts (empty_of c.shape-shape.result) fs) c.in_ok-roots.ensures
    ∙ ap (λ s. with_facts (empty_of s) m.roots) c.shape-shape.ensures in
    desk_of e _
    (started_state (state_of e) m.shape m.roots c.args.workers laws.roots
    (start_event e m.shape m.roots c.args.workers c.add_facts.new.self c.shape-shape.ensures (c.roots.view_is ∙ c.in_ok-roots.ensures) c.world.view_is made c.in_ok-pending.ensures.pending c.in_ok-no_impacts.ensures c.in_ok-no_members.ensures c.new-2.ensures.items))
    c.in_ok-pending.ensures
    (hints_start e.shape e.settled.items e.readers.items e.marks.items c.in_ok-no_impacts.ensures c.in_ok-no_readers.ensures c.in_ok-no_marks.ensures)

pub returns : goal.returns
returns g c =
    let m = g.I.Impacts.meaning c.args.impacts.now in
    let e : Inside = record { shape = c.shape-shape.result; roots = c.roots.inside.items.items; world = Rattle.world_state.specs.contracts.world.World.the_view c.world.inside; pending = c.in_ok-pending.pending; settled = c.in_ok-no_impacts.field-0; readers = c.in_ok-no_readers.field-0; marks = c.in_ok-no_marks.field-0; held = c.in_ok-no_members.field-0; history = record { entries = c.new-2.result } } in
    let made : c.add_facts.new.self ≡ roots_of m.shape m.roots =
    c.in_ok-add_facts.ensures.ok
    ∙ ap (λ w. with_facts w c.in_ok-roots.roots) c.in_ok-world.ensures
    ∙ ap (λ fs. with_facts (empty_of c.shape-shape.result) fs) c.in_ok-roots.ensures
    ∙ ap (λ s. with_facts (empty_of s) m.roots) c.shape-shape.ensures in
    start_event e m.shape m.roots c.args.workers c.add_facts.new.self c.shape-shape.ensures (c.roots.view_is ∙ c.in_ok-roots.ensures) c.world.view_is made c.in_ok-pending.ensures.pending c.in_ok-no_impacts.ensures c.in_ok-no_members.ensures c.new-2.ensures.items
