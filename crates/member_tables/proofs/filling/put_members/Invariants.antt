use Rattle.std.proofs.Common.{length}
use Rattle.member_tables.proofs.Filled.{IsFilling}
use Rattle.member_tables.proofs.filling.put_members.Given as goal

abbrev pub invariant-left : goal.invariant-left
invariant-left l = IsFilling l.program l.fn.maps l.maps l.fn.table l.made l.numbers l.left

abbrev pub decreases-left : goal.decreases-left
decreases-left l = length l.left
