use Rattle.std.proofs.Common.{◌+◌, ◌-◌, length}
use Rattle.class_heads.proofs.Searches.{IsSearch, unseen}
use Rattle.class_heads.proofs.search.is_above_itself.Given as goal

abbrev pub invariant-search : goal.invariant-search
invariant-search l = IsSearch l.classes l.class l.done l.search

abbrev pub decreases-search : goal.decreases-search
decreases-search l = unseen l.search + length l.search.seen - l.done
