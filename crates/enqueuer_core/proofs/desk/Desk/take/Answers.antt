use Rattle.std.proofs.Common.{◌<◌, ap, ◌∙◌, sym, subst, refl, arith}
use Rattle.index_links.specs.Lists.{nodes_in}
use Rattle.enqueuer_core.specs.Core.{State, times}
use Rattle.enqueuer_core.proofs.DeskLaws.{front_of, no_front}
use Rattle.enqueuer_core.proofs.desk.Desk.take.Goals as goal

pub first-requires : goal.first-requires
first-requires c = let one = c.self.invariant.lists in omega arith

pub hold-requires-clause-member : goal.hold-requires-clause-member
hold-requires-clause-member c =
    let front = front_of (nodes_in c.self.inside.pending 0) c.in-Some.member (sym c.in-Some.ensures.first) in
    subst (λ (s : State). 0 < times c.in-Some.member s.pending) c.self.view_is front.1

pub returns-in-None-clause-none : goal.returns-in-None-clause-none
returns-in-None-clause-none c = (ap (λ (s : State). s.pending) (sym c.self.view_is) ∙ no_front (nodes_in c.self.inside.pending 0) (sym c.in-None.ensures.first), refl)
