use Rattle.std.proofs.Common.{◌+◌}
use Rattle.supertypes.proofs.Climbing.{climb_begins, look_climbs, look_shrinks}
use Rattle.supertypes.proofs.climb.Climb.climb_from.Goals as goal

pub way-init : goal.way-init
way-init c = climb_begins c.args.classes.now c.args.class c.args.self.now c.begin.new.self c.requires.climbed c.in_ok-begin.ensures

pub way-smaller : goal.way-smaller
way-smaller c = look_shrinks c.args.classes.now c.requires.no_cycles (c.args.class + 1) c.way.self c.pop.new.self c.in-Some.step c.in-Some.ensures c.way.invariant c.look.new.self c.in_ok-look.ensures

pub way-preserved : goal.way-preserved
way-preserved c = look_climbs c.args.classes.now c.requires.no_cycles (c.args.class + 1) c.way.self c.pop.new.self c.in-Some.step c.in-Some.ensures c.way.invariant c.look.new.self c.in_ok-look.ensures
