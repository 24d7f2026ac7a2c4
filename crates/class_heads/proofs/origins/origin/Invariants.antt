use Rattle.std.proofs.Common.{◌≡◌, length, drop}
use Rattle.class_heads.specs.Origins.{origin_to}
use Rattle.class_heads.proofs.origins.origin.Given as goal

abbrev pub invariant-loop-class : goal.invariant-loop-class
invariant-loop-class l = origin_to (length (drop l._class-index l.classes)) l.classes l.class ≡ origin_to (length l.classes) l.classes l.fn.class
