use Rattle.supertypes.specs.Joined.{IsTableTo}
use Rattle.supertypes.proofs.supertypes.Supertypes.new.Given as goal

abbrev pub invariant-loop-class : goal.invariant-loop-class
invariant-loop-class l = IsTableTo l.classes l.order l.class-index l.table
