use Rattle.std.proofs.Common.{◌≡◌, replicate}
use Rattle.world_state.proofs.masks.repeated.Given as goal

abbrev pub invariant-loop : goal.invariant-loop
invariant-loop l = l.tables.items ≡ replicate l.counter l.table
