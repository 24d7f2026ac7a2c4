use Rattle.std.proofs.Common.{◌≡◌, length}
use Rattle.dart_syntax.specs.Tokens as tokens
use Rattle.dart_tokens.proofs.bytes.has_line_end.Given as goal

abbrev pub invariant-line : goal.invariant-line
invariant-line l = tokens.has_line_end l.rest ≡ tokens.has_line_end l.fn.bytes

abbrev pub decreases-line : goal.decreases-line
decreases-line l = length l.rest
