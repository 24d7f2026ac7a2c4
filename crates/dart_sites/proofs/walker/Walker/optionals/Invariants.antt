use Rattle.std.proofs.Common.{◌≡◌, map, drop}
use Rattle.std.specs.List.{flat_map}
use Rattle.dart_sites.specs.Visits.{visited, around}
use Rattle.dart_sites.specs.Scopes.{outer}
use Rattle.dart_sites.specs.Trees.{optional_in}
use Rattle.dart_sites.proofs.walker.Walker.optionals.Given as goal

abbrev pub invariant-loop-parameter : goal.invariant-loop-parameter
invariant-loop-parameter g l = record {
  sites : visited g.V.Visitor.step (flat_map (λ y. y.sites (around l.outside (outer l.fn.tour.scopes)) (around l.inside l.fn.tour.scopes)) (map optional_in (drop l.parameter-index l.optional))) l.tour.visitor ≡ visited g.V.Visitor.step (flat_map (λ y. y.sites (around l.outside (outer l.fn.tour.scopes)) (around l.inside l.fn.tour.scopes)) (map optional_in l.optional)) l.fn.tour.visitor;
  scopes : l.tour.scopes ≡ l.fn.tour.scopes;
}
