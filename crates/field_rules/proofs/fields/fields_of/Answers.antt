use Rattle.body_rules.proofs.Laws.{flat_step}
use Rattle.field_rules.specs.Fields.{fields_by}
use Rattle.field_rules.specs.Steps.{with_all}
use Rattle.field_rules.proofs.Sets.{all_behind}
use Rattle.field_rules.proofs.fields.fields_of.Goals as goal

pub loop-member-preserved : goal.loop-member-preserved
loop-member-preserved c = flat_step with_all all_behind fields_by c.as_slice-member-items.result.now c.loop-member.member-index c.member-item.result c.loop-member.names c.put_fields.new.names _ c.loop-member-test.true c.member-item.is c.in_ok-put_fields.ensures c.loop-member.invariant
