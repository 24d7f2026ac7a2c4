use Rattle.std.proofs.Common.{◌≡◌, drop}
use Rattle.std.specs.List.{flat_map}
use Rattle.dart_sites.specs.Functions.{parameter_sites}
use Rattle.dart_sites.specs.Visits.{visited, around}
use Rattle.dart_sites.proofs.walker.Walker.required.Given as goal

abbrev pub invariant-loop-parameter : goal.invariant-loop-parameter
invariant-loop-parameter g l = record {
  sites : visited g.V.Visitor.step (flat_map (λ y. parameter_sites y (around l.place l.fn.tour.scopes)) (drop l.parameter-index l.parameters)) l.tour.visitor ≡ visited g.V.Visitor.step (flat_map (λ y. parameter_sites y (around l.place l.fn.tour.scopes)) l.parameters) l.fn.tour.visitor;
  scopes : l.tour.scopes ≡ l.fn.tour.scopes;
}
