use Rattle.std.proofs.Common.{◌≡◌, map, drop}
use Rattle.std.specs.List.{flat_map}
use Rattle.dart_sites.specs.Trees.{interpolation_in}
use Rattle.dart_sites.specs.Visits.{visited, around}
use Rattle.dart_sites.proofs.walker.Walker.interpolations.Given as goal

abbrev pub invariant-loop-part : goal.invariant-loop-part
invariant-loop-part g l = record {
  sites : visited g.V.Visitor.step (flat_map (λ y. y (around l.place l.fn.tour.scopes)) (map interpolation_in (drop l.part-index l.parts))) l.tour.visitor ≡ visited g.V.Visitor.step (flat_map (λ y. y (around l.place l.fn.tour.scopes)) (map interpolation_in l.parts)) l.fn.tour.visitor;
  scopes : l.tour.scopes ≡ l.fn.tour.scopes;
}
