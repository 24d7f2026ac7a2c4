use Rattle.std.proofs.Common.{◌≡◌, ◌+◌, ◌≤◌, length}
use Rattle.dart_syntax.specs.Reader.{inside}
use Rattle.dart_tokens.proofs.steps.past_comment.Given as goal

abbrev pub invariant-comment : goal.invariant-comment
invariant-comment l = record {
  same : inside l.depth l.rest ≡ inside 0 l.fn.bytes;
  few : l.depth + length l.rest ≤ l.count;
}

abbrev pub decreases-comment : goal.decreases-comment
decreases-comment l = length l.rest
