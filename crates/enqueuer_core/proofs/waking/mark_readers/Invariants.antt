use Rattle.std.proofs.Common.{◌≡◌, ℕ, ◌||◌, ◌&&◌, length, drop}
use Rattle.index_links.specs.Lists.{is_in}
use Rattle.enqueuer_core.specs.Hints.{is_marked, reads_at}
use Rattle.enqueuer_core.proofs.waking.mark_readers.Given as goal

abbrev pub invariant-loop-member : goal.invariant-loop-member
invariant-loop-member l =
    record {
      long : length l.marks.items ≡ length l.fn.marks.items;
      marked : length l.fn.marks.items ≡ length l.settled → (n : ℕ)
          → (is_marked l.marks.items n || (is_in n (drop l.member-index l.readers) && reads_at l.settled l.slot n)) ≡ (is_marked l.fn.marks.items n || (is_in n l.readers && reads_at l.settled l.slot n));
    }
