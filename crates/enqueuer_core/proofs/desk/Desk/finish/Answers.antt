use Rattle.std.proofs.Common.{ap, ◌∙◌, sym, subst, refl, arith}
use Rattle.std.proofs.lemmas.Bool.{true≢false}
use Rattle.std.specs.Prelude.{is_some}
use Rattle.std.specs.List.{list_any}
use Rattle.index_links.specs.Lists.{first_of, nodes_in}
use Rattle.enqueuer_core.specs.Core.{State, IsIdle, IsState}
use Rattle.enqueuer_core.specs.Least.{IsLeast}
use Rattle.enqueuer_core.proofs.DeskLaws.{none_held, idle_none, no_front_some}
use Rattle.enqueuer_core.proofs.Idle.{idle_least}
use Rattle.enqueuer_core.proofs.desk.Desk.finish.Goals as goal
use Rattle.enqueuer_core.proofs.desk.Desk.finish.Goals.{then-is_some-via-then-is_some, then-is_some-via-else-is_some+then-some_held}

pub first-requires : goal.first-requires
first-requires g c = let one = c.self.invariant.lists in omega arith

pub returns-then-is_some-clause-err : goal.returns-then-is_some-clause-err
returns-then-is_some-clause-err g c = (
  refl,
  λ idle.
      elim c.then-is_some.branch [
        | then-is_some-via-then-is_some w ↦
            absurd (true≢false (sym w.if-is_some.true ∙ c.is_some.ensures ∙ ap (λ o. is_some o) (c.first.ensures.first ∙ ap first_of (ap (λ (s : State). s.pending) c.self.view_is ∙ idle.pending))))
        | then-is_some-via-else-is_some+then-some_held w ↦
            absurd (true≢false (w.if-some_held.ensures ∙ ap (λ xs. list_any is_some xs) w.as_slice.ensures.value ∙ ap (λ (s : State). list_any is_some s.held) c.self.view_is ∙ idle_none c.args.self.held idle.held))
      ],
)

pub returns-clause-ok : goal.returns-clause-ok
returns-clause-ok g c = (
  record {
    pending = ap (λ (s : State). s.pending) (sym c.self.view_is) ∙ no_front_some (nodes_in c.self.inside.pending 0) (ap (λ o. is_some o) (sym c.first.ensures.first) ∙ sym c.is_some.ensures ∙ c.if-is_some.false);
    held = none_held c.args.self.held (ap (λ (s : State). list_any is_some s.held) (sym c.self.view_is) ∙ ap (λ xs. list_any is_some xs) (sym c.as_slice.ensures.value) ∙ sym c.if-some_held.ensures);
  },
  ap (λ (s : State). s.world) c.self.view_is,
)

pub returns-clause-least : goal.returns-clause-least
returns-clause-least g c = λ shape roots ours.
    let m = g.I.Impacts.meaning c.args.impacts.now in
    let s = c.args.self in
    let is : IsState s = subst IsState c.self.view_is c.self.invariant.state in
    let idle : IsIdle s = record {
      pending = ap (λ (t : State). t.pending) (sym c.self.view_is) ∙ no_front_some (nodes_in c.self.inside.pending 0) (ap (λ o. is_some o) (sym c.first.ensures.first) ∙ sym c.is_some.ensures ∙ c.if-is_some.false);
      held = none_held s.held (ap (λ (t : State). list_any is_some t.held) (sym c.self.view_is) ∙ ap (λ xs. list_any is_some xs) (sym c.as_slice.ensures.value) ∙ sym c.if-some_held.ensures);
    } in
    let least = idle_least m (g.met.I.Impacts.lawful c.args.impacts.now) s is shape roots ours idle in
    subst (λ w. IsLeast m w) (ap (λ (t : State). t.world) (sym c.self.view_is)) least
