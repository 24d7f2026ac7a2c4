use Rattle.std.proofs.Common.{arith}
use Rattle.body_rules.proofs.Laws.{flat_step}
use Rattle.field_rules.specs.Fields.{set_by_initialiser}
use Rattle.field_rules.specs.Steps.{set_all}
use Rattle.field_rules.proofs.Sets.{set_behind, none_left}
use Rattle.field_rules.proofs.settings.Constructing.initialise_all.Goals as goal

pub loop-initialiser-preserved : goal.loop-initialiser-preserved
loop-initialiser-preserved c = flat_step (set_all c.args.fields.now) (set_behind c.args.fields.now) set_by_initialiser c.args.initialisers.now c.loop-initialiser.initialiser-index c.initialiser-item.result c.loop-initialiser.self c.initialise.new.self _ c.loop-initialiser-test.true c.initialiser-item.is c.in_ok-initialise.ensures c.loop-initialiser.invariant

pub returns : goal.returns
returns c = none_left c.args.fields.now set_by_initialiser c.args.initialisers.now c.loop-initialiser.initialiser-index c.loop-initialiser.self _ (omega (arith, c.loop-initialiser-test.false)) c.loop-initialiser.invariant
