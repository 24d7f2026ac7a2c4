use Rattle.std.proofs.Common.{drop}
use Rattle.enqueuer_core.proofs.Enlisted.{IsEnlisting}
use Rattle.enqueuer_core.proofs.waking.enlist.Given as goal

abbrev pub invariant-loop-read : goal.invariant-loop-read
invariant-loop-read l = IsEnlisting l.fn.readers.items l.readers.items l.impact.reads (drop l.read-index l.impact.reads) l.impact.member
