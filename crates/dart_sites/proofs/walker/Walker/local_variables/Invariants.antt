use Rattle.std.proofs.Common.{◌≡◌, map, drop}
use Rattle.std.specs.List.{flat_map}
use Rattle.dart_sites.specs.declared.sites.Site.TheVariants as x
use Rattle.dart_sites.specs.Sites.{here, both}
use Rattle.dart_sites.specs.Visits.{visited, around}
use Rattle.dart_sites.specs.Trees.{variable_in}
use Rattle.dart_sites.proofs.walker.Walker.local_variables.Given as goal

abbrev pub invariant-loop-variable : goal.invariant-loop-variable
invariant-loop-variable g l = record {
  sites : visited g.V.Visitor.step (flat_map (λ v. both (here (x.Local v.name)) v.value (around l.place l.fn.tour.scopes)) (map variable_in (drop l.variable-index l.variable-items))) l.tour.visitor ≡ visited g.V.Visitor.step (flat_map (λ v. both (here (x.Local v.name)) v.value (around l.place l.fn.tour.scopes)) (map variable_in l.variable-items)) l.fn.tour.visitor;
  scopes : l.tour.scopes ≡ l.fn.tour.scopes;
}
