use Rattle.enqueuer.specs.Alone.{IsAlone, work_left}
use Rattle.enqueuer.proofs.alone.worked_off.Given as goal

abbrev pub invariant-steps : goal.invariant-steps
invariant-steps g l = IsAlone (g.I.Impacts.meaning l.impacts) l.desk

abbrev pub decreases-steps : goal.decreases-steps
decreases-steps g l = work_left l.desk
