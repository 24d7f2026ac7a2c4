use Rattle.std.proofs.Common.{◌≡◌, replicate, false}
use Rattle.enqueuer_core.proofs.desk.no_marks.Given as goal

abbrev pub invariant-loop : goal.invariant-loop
invariant-loop l = l.none.items ≡ replicate l.counter false
