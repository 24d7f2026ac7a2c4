use Rattle.enqueuer.specs.Lists.{AllOneOf}
use Rattle.enqueuer.proofs.workers.work.Given as goal

abbrev pub invariant-loop-turn : goal.invariant-loop-turn
invariant-loop-turn g l = AllOneOf (g.I.Impacts.meaning l.impacts) l.joined.items
