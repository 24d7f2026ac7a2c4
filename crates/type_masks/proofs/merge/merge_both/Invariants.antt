use Rattle.std.proofs.Common.{◌≡◌, ◌≤◌, ◌+◌, ◌-◌, ◌++◌, length, drop}
use Rattle.type_masks.specs.Merge.{merge}
use Rattle.type_masks.proofs.merge.merge_both.Given as goal

abbrev pub invariant-loop-i : goal.invariant-loop-i
invariant-loop-i l =
    record {
      a_within : l.i ≤ length l.a;
      b_within : l.j ≤ length l.b;
      left : l.all.items ++ merge (drop l.i l.a) (drop l.j l.b) ≡ l.initial.all.items ++ merge l.a l.b;
    }

abbrev pub decreases-loop-i : goal.decreases-loop-i
decreases-loop-i l = (length l.a - l.i) + (length l.b - l.j)
