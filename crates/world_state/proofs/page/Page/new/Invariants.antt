use Rattle.std.proofs.Common.{◌≡◌, replicate}
use Rattle.world_state.specs.Pages.{nothing_below}
use Rattle.world_state.proofs.page.Page.new.Given as goal

abbrev pub invariant-loop : goal.invariant-loop
invariant-loop l = l.masks.items ≡ replicate l.counter (nothing_below l.bound)
