use Rattle.std.proofs.Common.{◌<◌, ap, ◌∙◌, sym, subst, refl, arith}
use Rattle.enqueuer_core.specs.Core.{State, times}
use Rattle.enqueuer_core.proofs.Worklists.{unlisted, listed}
use Rattle.enqueuer_core.proofs.desk.Desk.claim.Goals as goal

pub list_of-requires : goal.list_of-requires
list_of-requires c =
    let nodes = c.self.invariant.nodes in
    let member : c.args.member < c.self.inside.shape.members = subst (λ (s : State). c.args.member < s.shape.members) (sym c.self.view_is) c.requires.member in
    omega arith

pub hold-requires-clause-member : goal.hold-requires-clause-member
hold-requires-clause-member c =
    subst (λ (s : State). 0 < times c.args.member s.pending) c.self.view_is (listed c.self.inside.pending c.args.member c.in-Some.field-0 c.self.invariant.lists (sym c.in-Some.ensures.list))

pub returns-in-None-clause-none : goal.returns-in-None-clause-none
returns-in-None-clause-none c = (ap (λ (s : State). times c.args.member s.pending) (sym c.self.view_is) ∙ unlisted c.self.inside.pending c.args.member c.self.invariant.lists (sym c.in-None.ensures.list), refl)
