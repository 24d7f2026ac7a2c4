use Rattle.std.proofs.Common.{subst, refl}
use Rattle.type_masks.specs.declared.shape.Shape.{Shape}
use Rattle.enqueuer_core.specs.Least.{IsInShape}
use Rattle.enqueuer_core.proofs.tests.joined.Goals as goal

pub join-requires-clause-shape : goal.join-requires-clause-shape
join-requires-clause-shape c = subst (λ (s : Shape). IsInShape s c.args.work.impact) (c.if-not-holds.ensures.0 refl).1 c.requires
