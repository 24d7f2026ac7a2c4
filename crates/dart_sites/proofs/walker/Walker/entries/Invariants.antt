use Rattle.std.proofs.Common.{◌≡◌, map, drop}
use Rattle.std.specs.List.{flat_map}
use Rattle.dart_sites.specs.Trees.{entry_in}
use Rattle.dart_sites.specs.Visits.{visited, around}
use Rattle.dart_sites.proofs.walker.Walker.entries.Given as goal

abbrev pub invariant-loop-entry : goal.invariant-loop-entry
invariant-loop-entry g l = record {
  sites : visited g.V.Visitor.step (flat_map (λ y. y (around l.place l.fn.tour.scopes)) (map entry_in (drop l.entry-index l.entries))) l.tour.visitor ≡ visited g.V.Visitor.step (flat_map (λ y. y (around l.place l.fn.tour.scopes)) (map entry_in l.entries)) l.fn.tour.visitor;
  scopes : l.tour.scopes ≡ l.fn.tour.scopes;
}
