use Rattle.std.proofs.Common.{length}
use Rattle.dart_syntax.specs.Texts.{IsRun}
use Rattle.dart_tokens.proofs.texts.run.Given as goal

abbrev pub invariant-run : goal.invariant-run
invariant-run l = IsRun l.fn.double l.fn.raw l.fn.bytes l.units l.rest

abbrev pub decreases-run : goal.decreases-run
decreases-run l = length l.rest
