use Rattle.std.proofs.Common.{◌≡◌, drop}
use Rattle.std.specs.List.{flat_map}
use Rattle.field_rules.specs.Fields.{set_by_initialiser}
use Rattle.field_rules.specs.Steps.{set_all}
use Rattle.field_rules.proofs.settings.Constructing.initialise_all.Given as goal

abbrev pub invariant-loop-initialiser : goal.invariant-loop-initialiser
invariant-loop-initialiser l = set_all l.fields l.self (flat_map set_by_initialiser (drop l.initialiser-index l.initialisers)) ≡ set_all l.fields l.fn.self (flat_map set_by_initialiser l.initialisers)
