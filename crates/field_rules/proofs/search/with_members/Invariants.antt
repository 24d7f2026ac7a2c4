use Rattle.std.proofs.Common.{◌≡◌, drop}
use Rattle.std.specs.List.{flat_map}
use Rattle.dart_program.specs.Sooner.{first_with}
use Rattle.field_rules.specs.Fields.{wrong_in_member}
use Rattle.field_rules.specs.Rules.{faults}
use Rattle.field_rules.proofs.search.with_members.Given as goal

abbrev pub invariant-loop-member : goal.invariant-loop-member
invariant-loop-member l = first_with l.first (flat_map (λ x. faults l.file (wrong_in_member l.fields x)) (drop l.member-index l.members)) ≡ first_with l.fn.found (flat_map (λ x. faults l.file (wrong_in_member l.fields x)) l.members)
