use Rattle.dart_program.specs.Sooner.{first_with}
use Rattle.body_rules.proofs.Laws.{first_with_append, flat_step}
use Rattle.field_rules.specs.Fields.{wrong_in_member}
use Rattle.field_rules.specs.Rules.{faults}
use Rattle.field_rules.proofs.search.with_members.Goals as goal

pub loop-member-preserved : goal.loop-member-preserved
loop-member-preserved c = flat_step first_with first_with_append (λ x. faults c.args.file (wrong_in_member c.args.fields.now x)) c.args.members.now c.loop-member.member-index c.member-item.result c.loop-member.first c.in_ok-first.first _ c.loop-member-test.true c.member-item.is c.in_ok-first.ensures c.loop-member.invariant
