use Rattle.std.proofs.Common.{◌≡◌, ◌<◌, ◌≤◌, ◌++◌, ℕ, false, length}
use Rattle.index_links.specs.Lists.{nodes_in}
use Rattle.enqueuer_core.specs.Core.{numbers_where, without}
use Rattle.enqueuer_core.specs.Hints.{is_marked}
use Rattle.enqueuer_core.specs.Worklists.{IsWorklist}
use Rattle.enqueuer_core.proofs.waking.put_marked.Given as goal

abbrev pub invariant-loop-n : goal.invariant-loop-n
invariant-loop-n l =
    record {
      pending : IsWorklist l.pending l.members (nodes_in l.fn.pending 0 ++ numbers_where (is_marked l.fn.marks.items) l.n);
      settled : l.settled.items ≡ without (is_marked l.fn.marks.items) l.n l.fn.settled.items;
      long : length l.marks.items ≡ l.members;
      below : (k : ℕ) → k < l.n → is_marked l.marks.items k ≡ false;
      past : (k : ℕ) → l.n ≤ k → is_marked l.marks.items k ≡ is_marked l.fn.marks.items k;
    }
