use Rattle.std.proofs.Common.{◌≡◌, map, drop}
use Rattle.std.specs.List.{flat_map}
use Rattle.dart_sites.specs.Trees.{catch_in}
use Rattle.dart_sites.specs.Visits.{visited, around}
use Rattle.dart_sites.proofs.walker.Walker.clauses.Given as goal

abbrev pub invariant-loop-clause : goal.invariant-loop-clause
invariant-loop-clause g l = record {
  sites : visited g.V.Visitor.step (flat_map (λ y. y (around l.place l.fn.tour.scopes)) (map catch_in (drop l.clause-index l.clauses))) l.tour.visitor ≡ visited g.V.Visitor.step (flat_map (λ y. y (around l.place l.fn.tour.scopes)) (map catch_in l.clauses)) l.fn.tour.visitor;
  scopes : l.tour.scopes ≡ l.fn.tour.scopes;
}
