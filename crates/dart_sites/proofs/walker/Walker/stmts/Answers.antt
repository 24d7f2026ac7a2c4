use Rattle.std.proofs.Common.{◌∙◌}
use Rattle.dart_sites.specs.Trees.{stmt_in}
use Rattle.dart_sites.specs.Visits.{around}
use Rattle.dart_sites.proofs.Loops.{later_turn}
use Rattle.dart_sites.proofs.walker.Walker.stmts.Goals as goal

pub loop-stmt-preserved : goal.loop-stmt-preserved
loop-stmt-preserved g c = record {
  sites = later_turn g.V.Visitor.step stmt_in (λ s y. y.sites (around c.args.place.now s)) _ _ _ _ _ _ _ _ c.stmt-item.is c.loop-stmt-test.true c.loop-stmt.invariant.scopes c.in_ok-stmt.ensures.sites c.loop-stmt.invariant.sites;
  scopes = c.in_ok-stmt.ensures.scopes ∙ c.loop-stmt.invariant.scopes;
}
