use Rattle.world_state.specs.Worlds.{has_fact}
use Rattle.world_state.specs.declared.fact.Fact.TheVariants.{Live}
use Rattle.enqueuer_core.specs.Core.{numbers_where}
use Rattle.enqueuer_core.specs.Worklists.{IsWorklist}
use Rattle.enqueuer_core.proofs.worklist.live_members.Given as goal

abbrev pub invariant-loop-n : goal.invariant-loop-n
invariant-loop-n l = IsWorklist l.pending l.members (numbers_where (λ n. has_fact l.world (Live n)) l.n)
