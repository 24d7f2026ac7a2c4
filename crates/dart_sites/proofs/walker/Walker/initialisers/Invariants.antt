use Rattle.std.proofs.Common.{◌≡◌, length}
use Rattle.dart_sites.specs.Visits.{visited, around}
use Rattle.dart_sites.specs.Files.{initialisers_in}
use Rattle.dart_sites.proofs.walker.Walker.initialisers.Given as goal

abbrev pub invariant-loop-initialiser : goal.invariant-loop-initialiser
invariant-loop-initialiser g l = record {
  sites : visited g.V.Visitor.step (initialisers_in l.rest (around l.place l.fn.tour.scopes)) l.tour.visitor ≡ visited g.V.Visitor.step (initialisers_in l.fn.initialisers (around l.place l.fn.tour.scopes)) l.fn.tour.visitor;
  scopes : l.tour.scopes ≡ l.fn.tour.scopes;
}

abbrev pub decreases-loop-initialiser : goal.decreases-loop-initialiser
decreases-loop-initialiser g l = length l.rest
