use Rattle.std.proofs.Common.{◌≡◌, drop}
use Rattle.std.specs.List.{flat_map}
use Rattle.dart_sites.specs.Files.{supertype}
use Rattle.dart_sites.specs.Visits.{visited, around}
use Rattle.dart_sites.proofs.walker.Walker.supertypes.Given as goal

abbrev pub invariant-loop-names : goal.invariant-loop-names
invariant-loop-names g l = record {
  sites : visited g.V.Visitor.step (flat_map (λ y. supertype l.kind y (around l.place l.fn.tour.scopes)) (drop l.names-index l.types)) l.tour.visitor ≡ visited g.V.Visitor.step (flat_map (λ y. supertype l.kind y (around l.place l.fn.tour.scopes)) l.types) l.fn.tour.visitor;
  scopes : l.tour.scopes ≡ l.fn.tour.scopes;
}
