use Rattle.std.proofs.Common.{◌≡◌, take}
use Rattle.world_state.proofs.reads.copied.Given as goal

abbrev pub invariant-loop-read : goal.invariant-loop-read
invariant-loop-read l = l.all.items ≡ take l.read-index l.reads
