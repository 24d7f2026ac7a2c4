use Rattle.std.proofs.Common.{◌≡◌, length, drop, ◌++◌}
use Rattle.std.specs.Map.{keys_of}
use Rattle.std.specs.List.{IsDistinct}
use Rattle.store_lists.specs.Kept.{kept}
use Rattle.store_lists.proofs.entries.Entries.tidied.Given as goal

abbrev pub invariant-loop-i : goal.invariant-loop-i
invariant-loop-i g l = (l.done ++ kept (drop l.i l.slots) ≡ l.fn.self) × (length l.slots ≡ l.i-end) × IsDistinct g.K.PartialEq.eq (keys_of l.fn.self)
