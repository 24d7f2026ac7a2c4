use Rattle.std.proofs.Common.{◌≡◌, drop, length}
use Rattle.enqueuer_core.specs.Desks.{AreOf}
use Rattle.enqueuer.proofs.compare.is_history_of.Given as goal

abbrev pub invariant-loop-entry : goal.invariant-loop-entry
invariant-loop-entry g l =
    record {
      rest : AreOf (g.I.Impacts.meaning l.impacts) (drop l.entry-index l.history) → AreOf (g.I.Impacts.meaning l.impacts) l.history;
      seen : length l.seen.items ≡ length l.lists;
    }
