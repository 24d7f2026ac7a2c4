use Rattle.std.proofs.Common.{◌+◌}
use Rattle.std.specs.List.{sum_by}
use Rattle.supertypes.specs.Climb.{IsClimbing}
use Rattle.supertypes.proofs.Climbing.{waiting, left}
use Rattle.supertypes.proofs.climb.Climb.climb_from.Given as goal

abbrev pub invariant-way : goal.invariant-way
invariant-way l = IsClimbing l.classes (l.class + 1) l.self

abbrev pub decreases-way : goal.decreases-way
decreases-way l = waiting l.classes l.self.is_begun + sum_by (left l.classes) l.self.way
