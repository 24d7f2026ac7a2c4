use Rattle.std.proofs.Common.{◌≡◌, map, drop}
use Rattle.std.specs.List.{flat_map}
use Rattle.dart_sites.specs.Trees.{expr_in}
use Rattle.dart_sites.specs.Visits.{visited, around}
use Rattle.dart_sites.proofs.walker.Walker.exprs.Given as goal

abbrev pub invariant-loop-expr : goal.invariant-loop-expr
invariant-loop-expr g l = record {
  sites : visited g.V.Visitor.step (flat_map (λ y. y.sites (around l.place l.fn.tour.scopes)) (map expr_in (drop l.expr-index l.exprs))) l.tour.visitor ≡ visited g.V.Visitor.step (flat_map (λ y. y.sites (around l.place l.fn.tour.scopes)) (map expr_in l.exprs)) l.fn.tour.visitor;
  scopes : l.tour.scopes ≡ l.fn.tour.scopes;
}
