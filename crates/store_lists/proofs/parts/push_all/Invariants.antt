use Rattle.std.proofs.Common.{◌≡◌, ◌++◌, drop}
use Rattle.store_lists.specs.Parts.{flat}
use Rattle.store_lists.proofs.parts.push_all.Given as goal

abbrev pub invariant-loop-part : goal.invariant-loop-part
invariant-loop-part l = l.units.items ++ flat (drop l.part-index l.front) ≡ l.fn.units.items ++ flat l.front
