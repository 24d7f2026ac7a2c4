use Rattle.std.proofs.Common.{◌≡◌, ◌++◌, length}
use Rattle.dart_tokens.proofs.steps.plain_text.Given as goal

abbrev pub invariant-bytes : goal.invariant-bytes
invariant-bytes l = l.text ++ l.rest ≡ l.fn.bytes

abbrev pub decreases-bytes : goal.decreases-bytes
decreases-bytes l = length l.rest
