use Rattle.std.proofs.Common.{◌≡◌, ◌++◌, drop}
use Rattle.store_lists.proofs.parts.with_part.Given as goal

abbrev pub invariant-loop-part : goal.invariant-loop-part
invariant-loop-part l = l.parts.items ++ drop l.part-index l.front ≡ l.front
