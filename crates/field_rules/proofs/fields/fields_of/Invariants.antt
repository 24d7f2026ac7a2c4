use Rattle.std.proofs.Common.{◌≡◌, [], drop}
use Rattle.std.specs.List.{flat_map}
use Rattle.field_rules.specs.Fields.{fields_by, fields_of}
use Rattle.field_rules.specs.Steps.{with_all}
use Rattle.field_rules.proofs.fields.fields_of.Given as goal

abbrev pub invariant-loop-member : goal.invariant-loop-member
invariant-loop-member l = with_all l.names (flat_map fields_by (drop l.member-index l.member-items)) ≡ with_all [] (fields_of l.class)
