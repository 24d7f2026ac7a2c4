use Rattle.std.proofs.Common.{◌≡◌, ℕ, Bool, length, drop}
use Rattle.enqueuer_core.specs.Hints.{IsMarking}
use Rattle.enqueuer_core.proofs.waking.mark_all.Given as goal

abbrev pub invariant-loop-fact : goal.invariant-loop-fact
invariant-loop-fact l =
    record {
      slots : length l.readers.items ≡ length l.fn.readers.items;
      marking : (target : ℕ → Bool) → IsMarking target l.fn.readers.items l.fn.marks.items l.settled l.added → IsMarking target l.readers.items l.marks.items l.settled (drop l.fact-index l.added);
    }
