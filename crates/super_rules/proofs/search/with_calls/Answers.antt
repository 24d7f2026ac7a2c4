use Rattle.dart_program.specs.Sooner.{first_with}
use Rattle.body_rules.proofs.Laws.{first_with_append, flat_step}
use Rattle.super_rules.specs.Tables.{call_faults_by}
use Rattle.super_rules.proofs.search.with_calls.Goals as goal

pub loop-call-preserved : goal.loop-call-preserved
loop-call-preserved c = flat_step first_with first_with_append (call_faults_by c.args.file c.args.above.now) c.args.calls.now c.loop-call.call-index c.call-item.result c.loop-call.first c.with_call-first.result _ c.loop-call-test.true c.call-item.is c.with_call-first.ensures c.loop-call.invariant
