use Rattle.std.proofs.Common.{◌∙◌}
use Rattle.dart_sites.specs.Trees.{entry_in}
use Rattle.dart_sites.specs.Visits.{around}
use Rattle.dart_sites.proofs.Loops.{later_turn}
use Rattle.dart_sites.proofs.walker.Walker.entries.Goals as goal

pub loop-entry-preserved : goal.loop-entry-preserved
loop-entry-preserved g c = record {
  sites = later_turn g.V.Visitor.step entry_in (λ s y. y (around c.args.place.now s)) _ _ _ _ _ _ _ _ c.entry-item.is c.loop-entry-test.true c.loop-entry.invariant.scopes c.in_ok-entry.ensures.sites c.loop-entry.invariant.sites;
  scopes = c.in_ok-entry.ensures.scopes ∙ c.loop-entry.invariant.scopes;
}
