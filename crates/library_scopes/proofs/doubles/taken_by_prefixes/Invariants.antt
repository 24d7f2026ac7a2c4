use Rattle.std.proofs.Common.{◌≡◌, drop}
use Rattle.std.specs.List.{flat_map}
use Rattle.library_scopes.specs.Taken.{with_claims, none_taken, prefix_claims}
use Rattle.library_scopes.proofs.doubles.taken_by_prefixes.Given as goal

abbrev pub invariant-loop-import : goal.invariant-loop-import
invariant-loop-import l = with_claims l.taken (flat_map prefix_claims (drop l.import-index l.imports)) ≡ with_claims none_taken (flat_map prefix_claims l.imports)
