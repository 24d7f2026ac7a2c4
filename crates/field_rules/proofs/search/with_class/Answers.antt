use Rattle.std.proofs.Common.{◌≡◌}
use Rattle.std.specs.List.{flat_map}
use Rattle.std.proofs.lemmas.Result.{IfOk-weaker}
use Rattle.dart_program.specs.Sooner.{first_with}
use Rattle.field_rules.specs.Fields.{wrong_in_member}
use Rattle.field_rules.specs.Rules.{faults, class_faults}
use Rattle.field_rules.proofs.Sets.{by_set}
use Rattle.field_rules.proofs.search.with_class.Goals as goal

pub returns : goal.returns
returns c =
    IfOk-weaker c.with_members.result
    (λ first. first ≡ first_with c.args.found (flat_map (λ x. faults c.args.file (wrong_in_member c.in_ok-fields.fields x)) c.as_slice.result.now))
    (λ first. first ≡ first_with c.args.found (class_faults c.args.file c.args.class.now))
    (λ first e. by_set c.args.file c.args.class.now c.in_ok-fields.fields c.as_slice.result.now first c.args.found c.in_ok-fields.ensures c.as_slice.ensures e)
    c.with_members.ensures
