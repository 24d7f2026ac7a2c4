use Rattle.std.proofs.Common.{◌≡◌, drop}
use Rattle.class_heads.specs.Classes.{with_body}
use Rattle.class_heads.proofs.nodes.push_with_body.Given as goal

abbrev pub invariant-loop-mixin : goal.invariant-loop-mixin
invariant-loop-mixin l = with_body l.naming l.written l.classes l.superclass (drop l.mixin-index l.mixins) ≡ with_body l.naming l.written l.fn.classes l.fn.superclass l.mixins
