use Rattle.std.proofs.Common.{◌≡◌, ◌≤◌, length}
use Rattle.dart_syntax.specs.Reader.{capped_from}
use Rattle.dart_tokens.proofs.numbers.value_of.Given as goal

abbrev pub invariant-digits : goal.invariant-digits
invariant-digits l = record {
  same : capped_from l.fn.base l.value l.rest ≡ capped_from l.fn.base 0 l.fn.digits;
  small : l.value ≤ 9007199254740992;
}

abbrev pub decreases-digits : goal.decreases-digits
decreases-digits l = length l.rest
