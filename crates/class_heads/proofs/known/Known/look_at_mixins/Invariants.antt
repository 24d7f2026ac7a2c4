use Rattle.std.proofs.Common.{◌≡◌, drop}
use Rattle.dart_program.specs.Sooner.{first_with}
use Rattle.class_heads.specs.Written.{mixin_names}
use Rattle.class_heads.specs.Faults.{mixin_faults}
use Rattle.class_heads.proofs.known.Known.look_at_mixins.Given as goal

abbrev pub invariant-loop-names : goal.invariant-loop-names
invariant-loop-names l = first_with l.found (mixin_faults l.self l.class l.number (drop l.names-index (mixin_names l.class.class))) ≡ first_with l.fn.found (mixin_faults l.self l.class l.first (mixin_names l.class.class))
