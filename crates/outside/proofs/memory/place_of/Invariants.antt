use Rattle.outside.specs.Places.{IsPassed}
use Rattle.outside.proofs.memory.place_of.Given as goal

abbrev pub invariant-loop-i : goal.invariant-loop-i
invariant-loop-i l = IsPassed l.files l.name l.i
