use Rattle.std.proofs.Common.{arith}
use Rattle.body_rules.proofs.Laws.{flat_step}
use Rattle.field_rules.specs.Fields.{set_by_parameter}
use Rattle.field_rules.specs.Steps.{set_all}
use Rattle.field_rules.proofs.Sets.{set_behind, none_left}
use Rattle.field_rules.proofs.settings.Constructing.set_required.Goals as goal

pub loop-parameter-preserved : goal.loop-parameter-preserved
loop-parameter-preserved c = flat_step (set_all c.args.fields.now) (set_behind c.args.fields.now) set_by_parameter c.args.parameters.now c.loop-parameter.parameter-index c.parameter-item.result c.loop-parameter.self c.set_at.new.self _ c.loop-parameter-test.true c.parameter-item.is c.in_ok-set_at.ensures c.loop-parameter.invariant

pub returns : goal.returns
returns c = none_left c.args.fields.now set_by_parameter c.args.parameters.now c.loop-parameter.parameter-index c.loop-parameter.self _ (omega (arith, c.loop-parameter-test.false)) c.loop-parameter.invariant
