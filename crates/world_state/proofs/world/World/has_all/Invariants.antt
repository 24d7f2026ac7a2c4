use Rattle.std.proofs.Common.{◌≡◌, drop}
use Rattle.std.specs.List.{list_all, AllByRecursion}
use Rattle.world_state.specs.Facts.{InShape}
use Rattle.world_state.specs.Worlds.{has_fact}
use Rattle.world_state.proofs.world.World.has_all.Given as goal

abbrev pub invariant-loop-fact : goal.invariant-loop-fact
invariant-loop-fact l =
    record {
      rest : list_all (has_fact l.self) l.facts ≡ list_all (has_fact l.self) (drop l.fact-index l.facts);
      room : AllByRecursion (InShape l.self.shape) (drop l.fact-index l.facts);
    }
