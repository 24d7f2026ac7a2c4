use Rattle.std.proofs.Common.{ap, ◌∙◌}
use Rattle.dart_program.specs.Sooner.{first_with}
use Rattle.class_heads.specs.Faults.{supertype_faults}
use Rattle.class_heads.proofs.FaultParts.{over_more}
use Rattle.class_heads.proofs.known.Known.look_at_supertypes.Goals as goal

pub loop-names-preserved : goal.loop-names-preserved
loop-names-preserved c =
    over_more (supertype_faults c.args.self.now c.args.class.now) c.loop-names.found c.look_at_supertype-found.result c.args.supertypes.now c.loop-names.names-index c.names-item.result c.loop-names-test.true c.names-item.is (c.look_at_supertype-found.ensures ∙ ap (λ y. first_with c.loop-names.found (supertype_faults c.args.self.now c.args.class.now y)) c.as_slice.ensures) ∙ c.loop-names.invariant
