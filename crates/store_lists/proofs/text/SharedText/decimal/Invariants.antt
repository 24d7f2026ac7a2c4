use Rattle.std.proofs.Common.{◌≡◌, ◌++◌, drop}
use Rattle.store_lists.proofs.text.SharedText.decimal.Given as goal

abbrev pub invariant-loop-byte : goal.invariant-loop-byte
invariant-loop-byte l = l.units.items ++ drop l.byte-index l.byte-items ≡ l.byte-items
