use Rattle.std.proofs.Common.{◌∙◌}
use Rattle.dart_sites.specs.Trees.{expr_in}
use Rattle.dart_sites.specs.Visits.{around}
use Rattle.dart_sites.proofs.Loops.{later_turn}
use Rattle.dart_sites.proofs.walker.Walker.exprs.Goals as goal

pub loop-expr-preserved : goal.loop-expr-preserved
loop-expr-preserved g c = record {
  sites = later_turn g.V.Visitor.step expr_in (λ s y. y.sites (around c.args.place.now s)) _ _ _ _ _ _ _ _ c.expr-item.is c.loop-expr-test.true c.loop-expr.invariant.scopes c.in_ok-expr.ensures.sites c.loop-expr.invariant.sites;
  scopes = c.in_ok-expr.ensures.scopes ∙ c.loop-expr.invariant.scopes;
}
