use Rattle.std.proofs.Common.{◌≡◌, ◌++◌, map, drop}
use Rattle.js_tree.specs.Text.{joined, unit_text}
use Rattle.js_tree.proofs.print.push_units.Given as goal

abbrev pub invariant-loop-unit : goal.invariant-loop-unit
invariant-loop-unit l = l.out ++ joined (map unit_text (drop l.unit-index l.units)) ≡ l.fn.out ++ joined (map unit_text l.units)
