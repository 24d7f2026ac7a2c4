use Rattle.std.proofs.Common.{◌≡◌, length}
use Rattle.enqueuer.proofs.compare.none_seen.Given as goal

abbrev pub invariant-loop : goal.invariant-loop
invariant-loop l = length l.seen.items ≡ l.counter
