use Rattle.std.proofs.Common.{◌≡◌, replicate}
use Rattle.world_state.proofs.page_table.repeated.Given as goal

abbrev pub invariant-loop : goal.invariant-loop
invariant-loop l = l.pages.items ≡ replicate l.counter l.page
