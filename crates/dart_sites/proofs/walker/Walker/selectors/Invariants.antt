use Rattle.std.proofs.Common.{◌≡◌, map, length}
use Rattle.dart_sites.specs.Visits.{visited, around}
use Rattle.dart_sites.specs.Expressions.{selectors_sites, receiver_behind}
use Rattle.dart_sites.specs.Trees.{selector_in}
use Rattle.dart_sites.proofs.walker.Walker.selectors.Given as goal

abbrev pub invariant-loop-selector : goal.invariant-loop-selector
invariant-loop-selector g l = record {
  sites : visited g.V.Visitor.step (selectors_sites l.receiver (map selector_in l.rest) l.last (around l.place l.fn.tour.scopes)) l.tour.visitor ≡ visited g.V.Visitor.step (selectors_sites l.fn.before (map selector_in l.fn.selectors) l.last (around l.place l.fn.tour.scopes)) l.fn.tour.visitor;
  receiver : receiver_behind l.receiver (map selector_in l.rest) ≡ receiver_behind l.fn.before (map selector_in l.fn.selectors);
  scopes : l.tour.scopes ≡ l.fn.tour.scopes;
}

abbrev pub decreases-loop-selector : goal.decreases-loop-selector
decreases-loop-selector g l = length l.rest
