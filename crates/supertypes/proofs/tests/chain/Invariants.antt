use Rattle.std.proofs.Common.{◌≡◌, length}
use Rattle.supertypes.proofs.Rising.{Rises}
use Rattle.supertypes.proofs.tests.chain.Given as goal

abbrev pub invariant-loop-number : goal.invariant-loop-number
invariant-loop-number l = record { long : length l.classes ≡ l.number; rises : Rises l.classes }
