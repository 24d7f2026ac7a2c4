use Rattle.std.proofs.Common.{◌≡◌}
use Rattle.class_heads.proofs.Falling.{AreCyclesTo}
use Rattle.class_heads.proofs.cycles.search_all.Given as goal

abbrev pub invariant-loop-class : goal.invariant-loop-class
invariant-loop-class l = (l.number ≡ l._class-index) × AreCyclesTo l.classes l.number l.flags
