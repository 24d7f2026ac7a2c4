use Rattle.std.proofs.Common.{arith}
use Rattle.supertypes.proofs.Climbing.{all_climbed}
use Rattle.supertypes.proofs.upward.upward.Goals as goal

pub returns : goal.returns
returns c = all_climbed c.args.classes.now c.loop-class.class c.loop-class.climb c.loop-class.invariant (omega (arith, c.loop-class-test.false, c.in_ok-count.ensures))
