use Rattle.std.proofs.Common.{◌≡◌, ◌≤◌, take, length}
use Rattle.std.specs.Option.{option_map}
use Rattle.dart_sites.specs.Scopes.{found}
use Rattle.dart_sites.proofs.Found.{beyond}
use Rattle.dart_sites.proofs.finding.find.Given as goal

abbrev pub invariant-outward : goal.invariant-outward
invariant-outward l = record {
  inside : l.left ≤ length l.scopes;
  same : found l.name l.scopes ≡ option_map (beyond l.is_captured) (found l.name (take l.left l.scopes));
}

abbrev pub decreases-outward : goal.decreases-outward
decreases-outward l = l.left
