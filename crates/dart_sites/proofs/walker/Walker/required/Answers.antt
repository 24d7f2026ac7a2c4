use Rattle.std.proofs.Common.{◌∙◌}
use Rattle.dart_sites.specs.Functions.{parameter_sites}
use Rattle.dart_sites.specs.Visits.{around}
use Rattle.dart_sites.proofs.Loops.{later_plain_turn}
use Rattle.dart_sites.proofs.walker.Walker.required.Goals as goal

pub loop-parameter-preserved : goal.loop-parameter-preserved
loop-parameter-preserved g c = record {
  sites = later_plain_turn g.V.Visitor.step (λ s y. parameter_sites y (around c.args.place.now s)) _ _ _ _ _ _ _ _ c.parameter-item.is c.loop-parameter-test.true c.loop-parameter.invariant.scopes c.in_ok-parameter.ensures.sites c.loop-parameter.invariant.sites;
  scopes = c.in_ok-parameter.ensures.scopes ∙ c.loop-parameter.invariant.scopes;
}
