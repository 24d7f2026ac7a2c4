use Rattle.std.proofs.Common.{◌∙◌}
use Rattle.dart_sites.specs.Scopes.{outer}
use Rattle.dart_sites.specs.Trees.{optional_in}
use Rattle.dart_sites.specs.Visits.{around}
use Rattle.dart_sites.proofs.Loops.{later_turn}
use Rattle.dart_sites.proofs.walker.Walker.optionals.Goals as goal

pub loop-parameter-preserved : goal.loop-parameter-preserved
loop-parameter-preserved g c = record {
  sites = later_turn g.V.Visitor.step optional_in (λ s y. y.sites (around c.args.outside.now (outer s)) (around c.args.inside.now s)) _ _ _ _ _ _ _ _ c.parameter-item.is c.loop-parameter-test.true c.loop-parameter.invariant.scopes c.in_ok-optional.ensures.sites c.loop-parameter.invariant.sites;
  scopes = c.in_ok-optional.ensures.scopes ∙ c.loop-parameter.invariant.scopes;
}
