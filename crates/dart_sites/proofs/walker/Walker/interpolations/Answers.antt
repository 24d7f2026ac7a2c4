use Rattle.std.proofs.Common.{◌∙◌}
use Rattle.dart_sites.specs.Trees.{interpolation_in}
use Rattle.dart_sites.specs.Visits.{around}
use Rattle.dart_sites.proofs.Loops.{later_turn}
use Rattle.dart_sites.proofs.walker.Walker.interpolations.Goals as goal

pub loop-part-preserved : goal.loop-part-preserved
loop-part-preserved g c = record {
  sites = later_turn g.V.Visitor.step interpolation_in (λ s y. y (around c.args.place.now s)) _ _ _ _ _ _ _ _ c.part-item.is c.loop-part-test.true c.loop-part.invariant.scopes c.in_ok-interpolation.ensures.sites c.loop-part.invariant.sites;
  scopes = c.in_ok-interpolation.ensures.scopes ∙ c.loop-part.invariant.scopes;
}
