use Rattle.std.proofs.Common.{◌≡◌, drop}
use Rattle.class_heads.specs.Ranks.{falls_from}
use Rattle.class_heads.proofs.ranks.fall.Given as goal

abbrev pub invariant-loop-class : goal.invariant-loop-class
invariant-loop-class l = falls_from l.ranks l.number (drop l.class-index l.classes) ≡ falls_from l.ranks 0 l.classes
