use Rattle.std.proofs.Common.{◌≡◌, drop}
use Rattle.class_heads.specs.Classes.{with_heads}
use Rattle.class_heads.proofs.nodes.push_heads.Given as goal

abbrev pub invariant-loop-class : goal.invariant-loop-class
invariant-loop-class l = with_heads l.naming l.classes (drop l.class-index l.written) ≡ with_heads l.naming l.fn.classes l.written
