use Rattle.std.proofs.Common.{◌≡◌, length, drop, ◌++◌}
use Rattle.std.specs.Map.{keys_of}
use Rattle.store_lists.specs.Kept.{kept}
use Rattle.store_lists.proofs.entries.keys_in.Given as goal

abbrev pub invariant-loop-i : goal.invariant-loop-i
invariant-loop-i g l = (l.keys ++ keys_of (kept (drop l.i l.fn.slots)) ≡ keys_of (kept l.fn.slots)) × (length l.fn.slots ≡ l.i-end)
