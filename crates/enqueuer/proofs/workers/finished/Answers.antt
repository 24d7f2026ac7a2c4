use Rattle.std.proofs.Common.{◌≡◌, ◌<◌, true, ◌&&◌, nat_eq, length, sym, ◌∙◌, subst}
use Rattle.std.proofs.lemmas.Bool.{eqb-true, true≢false}
use Rattle.type_masks.proofs.Sets.{and_true}
use Rattle.type_masks.specs.declared.shape.Shape.{Shape}
use Rattle.enqueuer_core.specs.Core.{State, IsState, Reclaim, happens}
use Rattle.enqueuer_core.specs.Desks.{AreOf}
use Rattle.enqueuer.specs.Alone.{IsAlone}
use Rattle.enqueuer.proofs.Steps.{reclaimed_alone}
use Rattle.enqueuer.proofs.workers.finished.Goals as goal
use Rattle.enqueuer.proofs.workers.finished.Goals.{then-same_history, else-same_history, then-eq, else-eq}

same_shape : (a b : Shape) → (nat_eq a.members b.members && (nat_eq a.slots b.slots && nat_eq a.kinds b.kinds)) ≡ true → a ≡ b
same_shape a b h =
    let first = and_true (nat_eq a.members b.members) (nat_eq a.slots b.slots && nat_eq a.kinds b.kinds) h in
    let rest = and_true (nat_eq a.slots b.slots) (nat_eq a.kinds b.kinds) first.1 in
    let members = eqb-true a.members b.members first.0 in
    let slots = eqb-true a.slots b.slots rest.0 in
    let kinds = eqb-true a.kinds b.kinds rest.1 in
    λ i. record { members = members i; slots = slots i; kinds = kinds i }

pub go_on_alone-requires : goal.go_on_alone-requires
go_on_alone-requires g c =
    let m = g.I.Impacts.meaning c.args.impacts.now in
    let s = c.args.desk in
    let state : IsState s = subst IsState c.desk.view_is c.desk.invariant.state in
    let held : 0 < length (happens s Reclaim).held = subst (λ (t : State). 0 < length t.held) c.reclaim.ensures (c.idle.ensures.0 c.if-not-idle.false).0 in
    elim c.if-eq.branch [
      | then-eq w ↦
          elim c.if-same_history.branch [
            | then-same_history v ↦
                let roots : s.roots ≡ m.roots = sym w.roots.ensures ∙ sym w.as_slice-then-eq.ensures ∙ w.has_roots-agrees.ensures (sym w.agrees-is ∙ c.if-not-agrees.false) in
                let ours : AreOf m s.history = subst (λ es. AreOf m es) (c.as_slice.ensures ∙ c.history.ensures) (c.in_ok-same_history.ensures v.if-same_history.true) in
                let shape : s.shape ≡ m.shape = sym v.shape.ensures.shape ∙ same_shape v.shape.result v.shape-then-same_history.result (sym v.eq.ensures ∙ sym v.value-is ∙ w.if-eq.true) ∙ v.shape-then-same_history.ensures in
                subst (λ (t : State). IsAlone m t) (sym c.reclaim.ensures) (reclaimed_alone m s state shape roots ours held)
            | else-same_history v ↦ absurd (true≢false (sym w.if-eq.true ∙ v.value-is ∙ v.if-same_history.false))
          ]
      | else-eq w ↦ absurd (true≢false (sym c.if-not-agrees.false ∙ w.agrees-is ∙ w.if-eq.false))
    ]
