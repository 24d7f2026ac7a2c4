use Rattle.std.proofs.Common.{◌≡◌, drop}
use Rattle.std.specs.List.{flat_map}
use Rattle.dart_sites.specs.Visits.{visited}
use Rattle.dart_sites.specs.Files.{declaration_in}
use Rattle.dart_sites.proofs.walker.Walker.declarations.Given as goal

abbrev pub invariant-loop-declaration : goal.invariant-loop-declaration
invariant-loop-declaration g l = record {
  sites : visited g.V.Visitor.step (flat_map declaration_in (drop l.declaration-index l.declarations)) l.tour.visitor ≡ visited g.V.Visitor.step (flat_map declaration_in l.declarations) l.fn.tour.visitor;
  scopes : l.tour.scopes ≡ l.fn.tour.scopes;
}
