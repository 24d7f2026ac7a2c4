use Rattle.std.proofs.Common.{◌≡◌, length, drop}
use Rattle.std.specs.List.{list_any}
use Rattle.class_heads.specs.Origins.{superclasses_to}
use Rattle.class_heads.specs.Faults.{has_origin}
use Rattle.class_heads.proofs.origins.is_above_with.Given as goal

abbrev pub invariant-loop-class : goal.invariant-loop-class
invariant-loop-class l = list_any (has_origin l.classes l.body) (superclasses_to (length (drop l._class-index l.classes)) l.classes l.class) ≡ list_any (has_origin l.classes l.body) (superclasses_to (length l.classes) l.classes l.fn.class)
