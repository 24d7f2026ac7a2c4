use Rattle.std.proofs.Common.{◌≡◌, drop}
use Rattle.std.specs.List.{flat_map}
use Rattle.dart_program.specs.Sooner.{first_with}
use Rattle.field_rules.specs.Rules.{set_faults}
use Rattle.field_rules.proofs.search.with_declarations.Given as goal

abbrev pub invariant-loop-declaration : goal.invariant-loop-declaration
invariant-loop-declaration l = first_with l.first (flat_map (set_faults l.file) (drop l.declaration-index l.declarations)) ≡ first_with l.fn.found (flat_map (set_faults l.file) l.declarations)
