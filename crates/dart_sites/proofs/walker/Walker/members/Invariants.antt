use Rattle.std.proofs.Common.{◌≡◌, drop}
use Rattle.std.specs.List.{flat_map}
use Rattle.dart_sites.specs.Visits.{visited}
use Rattle.dart_sites.specs.Files.{member_in}
use Rattle.dart_sites.proofs.walker.Walker.members.Given as goal

abbrev pub invariant-loop-member : goal.invariant-loop-member
invariant-loop-member g l = record {
  sites : visited g.V.Visitor.step (flat_map (member_in l.class) (drop l.member-index l.members)) l.tour.visitor ≡ visited g.V.Visitor.step (flat_map (member_in l.class) l.members) l.fn.tour.visitor;
  scopes : l.tour.scopes ≡ l.fn.tour.scopes;
}
