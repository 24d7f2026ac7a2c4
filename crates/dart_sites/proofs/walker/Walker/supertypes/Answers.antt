use Rattle.std.proofs.Common.{◌∙◌}
use Rattle.dart_sites.specs.Files.{supertype}
use Rattle.dart_sites.specs.Visits.{around}
use Rattle.dart_sites.proofs.Loops.{later_plain_turn}
use Rattle.dart_sites.proofs.walker.Walker.supertypes.Goals as goal

pub loop-names-preserved : goal.loop-names-preserved
loop-names-preserved g c = record {
  sites = later_plain_turn g.V.Visitor.step (λ s y. supertype c.args.kind y (around c.args.place.now s)) _ _ _ _ _ _ _ _ c.names-item.is c.loop-names-test.true c.loop-names.invariant.scopes c.in_ok-supertype.ensures.sites c.loop-names.invariant.sites;
  scopes = c.in_ok-supertype.ensures.scopes ∙ c.loop-names.invariant.scopes;
}
