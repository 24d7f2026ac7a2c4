use Rattle.std.proofs.Common.{◌≡◌, drop}
use Rattle.std.specs.List.{flat_map}
use Rattle.field_rules.specs.Fields.{set_by_optional}
use Rattle.field_rules.specs.Steps.{set_all}
use Rattle.field_rules.proofs.settings.Constructing.set_optional.Given as goal

abbrev pub invariant-loop-parameter : goal.invariant-loop-parameter
invariant-loop-parameter l = set_all l.fields l.self (flat_map set_by_optional (drop l.parameter-index l.parameters)) ≡ set_all l.fields l.fn.self (flat_map set_by_optional l.parameters)
