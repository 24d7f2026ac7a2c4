use Rattle.std.proofs.Common.{◌≡◌, ◌≤◌, drop, length}
use Rattle.std.specs.Ordering.{nat_cmp}
use Rattle.std.specs.Cmp.Lexicographic.{slice_cmp}
use Rattle.store_lists.proofs.text.SharedText.compare_units.Given as goal

abbrev pub invariant-loop-at : goal.invariant-loop-at
invariant-loop-at l = (slice_cmp nat_cmp (drop l.at l.self) (drop l.at l.other) ≡ slice_cmp nat_cmp l.self l.other) × (l.at ≤ length l.other)
