use Rattle.std.proofs.Common.{◌∙◌}
use Rattle.dart_sites.specs.Trees.{catch_in}
use Rattle.dart_sites.specs.Visits.{around}
use Rattle.dart_sites.proofs.Loops.{later_turn}
use Rattle.dart_sites.proofs.walker.Walker.clauses.Goals as goal

pub loop-clause-preserved : goal.loop-clause-preserved
loop-clause-preserved g c = record {
  sites = later_turn g.V.Visitor.step catch_in (λ s y. y (around c.args.place.now s)) _ _ _ _ _ _ _ _ c.clause-item.is c.loop-clause-test.true c.loop-clause.invariant.scopes c.in_ok-clause.ensures.sites c.loop-clause.invariant.sites;
  scopes = c.in_ok-clause.ensures.scopes ∙ c.loop-clause.invariant.scopes;
}
