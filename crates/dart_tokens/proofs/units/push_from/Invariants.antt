use Rattle.std.proofs.Common.{◌≡◌, ◌++◌, length}
use Rattle.std.specs.Str.{chars_after}
use Rattle.code_units.specs.Text.{units_of_chars}
use Rattle.dart_tokens.specs.Answers.{IsPartial}
use Rattle.dart_tokens.proofs.units.push_from.Given as goal

abbrev pub invariant-characters : goal.invariant-characters
invariant-characters l = record {
  same : l.units ++ units_of_chars (chars_after l.left l.code l.rest) ≡ l.fn.units ++ units_of_chars (chars_after l.fn.left l.fn.code l.fn.bytes);
  partial : IsPartial l.left l.code;
}

abbrev pub decreases-characters : goal.decreases-characters
decreases-characters l = length l.rest
