use Rattle.std.proofs.Common.{◌≡◌, length, drop}
use Rattle.class_members.specs.Constructions.{base_to}
use Rattle.class_members.proofs.constructions.base.Given as goal

abbrev pub invariant-loop-class : goal.invariant-loop-class
invariant-loop-class l = base_to (length (drop l._class-index l.classes)) l.classes l.class ≡ base_to (length l.classes) l.classes l.fn.class
