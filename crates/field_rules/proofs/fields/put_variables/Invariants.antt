use Rattle.std.proofs.Common.{◌≡◌, drop, map}
use Rattle.field_rules.specs.Fields.{name_of}
use Rattle.field_rules.specs.Steps.{with_all}
use Rattle.field_rules.proofs.fields.put_variables.Given as goal

abbrev pub invariant-loop-variable : goal.invariant-loop-variable
invariant-loop-variable l = with_all l.names (map name_of (drop l.variable-index l.variables)) ≡ with_all l.fn.names (map name_of l.variables)
