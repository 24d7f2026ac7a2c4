use Rattle.std.proofs.Common.{take}
use Rattle.supertypes.specs.Joined.{KeepsSets, HasAlso}
use Rattle.supertypes.proofs.supertypes.Supertypes.add_all.Given as goal

abbrev pub invariant-loop-class : goal.invariant-loop-class
invariant-loop-class l = record { keeps : KeepsSets l.fn.self l.self; adds : HasAlso l.fn.self l.self l.fn.set l.made (take l.class-index l.classes) }
