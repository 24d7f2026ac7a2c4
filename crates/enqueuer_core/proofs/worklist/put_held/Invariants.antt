use Rattle.std.proofs.Common.{◌++◌}
use Rattle.index_links.specs.Lists.{nodes_in}
use Rattle.enqueuer_core.specs.Core.{numbers_where, is_held}
use Rattle.enqueuer_core.specs.Worklists.{IsWorklist}
use Rattle.enqueuer_core.proofs.worklist.put_held.Given as goal

abbrev pub invariant-loop-n : goal.invariant-loop-n
invariant-loop-n l = IsWorklist l.pending l.members (nodes_in l.fn.pending 0 ++ numbers_where (is_held l.held) l.n)
