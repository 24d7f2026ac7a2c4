-- The spare files that were made serve, and no more were made than were asked for.
use Rattle.std.proofs.Common.{◌≤◌, ◌-◌, vec_len}
use Rattle.outside.specs.Room.{Serve}
use Rattle.outside.proofs.memory.spare_files.Given as goal

abbrev pub invariant-loop-alloc : goal.invariant-loop-alloc
invariant-loop-alloc l = record {
  len : vec_len l.spares ≤ l.count;
  serve : Serve l.room 0 l.spares.items;
}

abbrev pub decreases-loop-alloc : goal.decreases-loop-alloc
decreases-loop-alloc l = l.count - vec_len l.spares
