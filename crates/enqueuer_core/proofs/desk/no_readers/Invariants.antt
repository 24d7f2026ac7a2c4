use Rattle.std.proofs.Common.{◌≡◌, replicate, []}
use Rattle.enqueuer_core.proofs.desk.no_readers.Given as goal

abbrev pub invariant-loop : goal.invariant-loop
invariant-loop l = l.none.items ≡ replicate l.counter []
