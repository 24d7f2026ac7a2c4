use Rattle.std.proofs.Common.{◌≡◌, map, drop}
use Rattle.std.specs.List.{flat_map}
use Rattle.dart_sites.specs.Trees.{stmt_in}
use Rattle.dart_sites.specs.Visits.{visited, around}
use Rattle.dart_sites.proofs.walker.Walker.stmts.Given as goal

abbrev pub invariant-loop-stmt : goal.invariant-loop-stmt
invariant-loop-stmt g l = record {
  sites : visited g.V.Visitor.step (flat_map (λ y. y.sites (around l.place l.fn.tour.scopes)) (map stmt_in (drop l.stmt-index l.stmts))) l.tour.visitor ≡ visited g.V.Visitor.step (flat_map (λ y. y.sites (around l.place l.fn.tour.scopes)) (map stmt_in l.stmts)) l.fn.tour.visitor;
  scopes : l.tour.scopes ≡ l.fn.tour.scopes;
}
