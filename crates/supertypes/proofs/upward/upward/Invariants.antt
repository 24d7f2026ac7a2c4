use Rattle.supertypes.specs.Climb.{HasClimbed}
use Rattle.supertypes.proofs.upward.upward.Given as goal

abbrev pub invariant-loop-class : goal.invariant-loop-class
invariant-loop-class l = HasClimbed l.classes l.class l.climb
