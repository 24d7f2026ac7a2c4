use Rattle.std.proofs.Common.{◌≡◌, drop}
use Rattle.std.specs.List.{flat_map}
use Rattle.dart_program.specs.Sooner.{first_with}
use Rattle.class_heads.specs.Faults.{supertype_faults}
use Rattle.class_heads.proofs.known.Known.look_at_supertypes.Given as goal

abbrev pub invariant-loop-names : goal.invariant-loop-names
invariant-loop-names l = first_with l.found (flat_map (supertype_faults l.self l.class) (drop l.names-index l.supertypes)) ≡ first_with l.fn.found (flat_map (supertype_faults l.self l.class) l.supertypes)
