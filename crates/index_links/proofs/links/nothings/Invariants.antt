use Rattle.std.proofs.Common.{◌≡◌, replicate, None}
use Rattle.index_links.proofs.links.nothings.Given as goal

abbrev pub invariant-loop : goal.invariant-loop
invariant-loop l = l.nothings.items ≡ replicate l.counter None
