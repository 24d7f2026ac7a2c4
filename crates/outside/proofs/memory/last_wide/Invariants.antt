-- None of the spare files that were looked at holds so many bytes.
use Rattle.std.proofs.Common.{◌≤◌, length, drop}
use Rattle.outside.specs.Room.{AreSmall}
use Rattle.outside.proofs.memory.last_wide.Given as goal

abbrev pub invariant-loop-i : goal.invariant-loop-i
invariant-loop-i l = record {
  within : l.i ≤ length l.spares;
  small : AreSmall l.size (drop l.i l.spares);
}

abbrev pub decreases-loop-i : goal.decreases-loop-i
decreases-loop-i l = l.i
