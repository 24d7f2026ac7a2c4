use Rattle.std.proofs.Common.{◌≡◌, ◌+◌, ◌≤◌, false, length}
use Rattle.dart_grammar.specs.Shapes as spec
use Rattle.dart_grammar.specs.Ends.{end_from}
use Rattle.dart_grammar.proofs.defaults.default_end.Given as goal

abbrev pub invariant-tokens : goal.invariant-tokens
invariant-tokens l = record {
  same : end_from l.open l.rest ≡ spec.default_end 0 0 false false l.fn.ts;
  few : l.open.brackets + l.open.angles + length l.rest ≤ l.count;
}

abbrev pub decreases-tokens : goal.decreases-tokens
decreases-tokens l = length l.rest
