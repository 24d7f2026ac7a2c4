use Rattle.std.proofs.Common.{◌≡◌, ◌+◌, ◌≤◌, length}
use Rattle.dart_grammar.specs.Shapes as spec
use Rattle.dart_grammar.proofs.parameters.brackets_end.Given as goal

abbrev pub invariant-tokens : goal.invariant-tokens
invariant-tokens l = record {
  same : spec.brackets_end l.open l.rest ≡ spec.brackets_end 0 l.fn.ts;
  few : l.open + length l.rest ≤ l.count;
}

abbrev pub decreases-tokens : goal.decreases-tokens
decreases-tokens l = length l.rest
