use Rattle.std.proofs.Common.{◌≡◌, ◌++◌, ◌-◌, drop, take}
use Rattle.store_lists.specs.Parts.{flat}
use Rattle.store_lists.proofs.parts.push_range.Given as goal

abbrev pub invariant-loop-part : goal.invariant-loop-part
invariant-loop-part l = l.units.items ++ take (l.to - l.from) (drop l.from (flat (drop l.part-index l.front) ++ l.last)) ≡ l.fn.units.items ++ take (l.fn.to - l.fn.from) (drop l.fn.from (flat l.front ++ l.last))
