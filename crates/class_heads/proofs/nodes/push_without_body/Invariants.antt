use Rattle.std.proofs.Common.{◌≡◌, length}
use Rattle.class_heads.specs.Classes.{without_body}
use Rattle.class_heads.proofs.nodes.push_without_body.Given as goal

abbrev pub invariant-mixins : goal.invariant-mixins
invariant-mixins l = without_body l.naming l.written l.classes l.superclass l.rest ≡ without_body l.naming l.written l.fn.classes l.fn.superclass l.mixins

abbrev pub decreases-mixins : goal.decreases-mixins
decreases-mixins l = length l.rest
