use Rattle.std.proofs.Common.{drop}
use Rattle.world_state.proofs.WorldFacts.{IsGrown}
use Rattle.world_state.proofs.world.grow.Given as goal

abbrev pub invariant-loop-fact : goal.invariant-loop-fact
invariant-loop-fact l = IsGrown l.fn.world l.facts l.world l.added (drop l.fact-index l.facts)
