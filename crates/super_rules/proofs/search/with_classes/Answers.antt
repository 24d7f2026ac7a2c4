use Rattle.dart_program.specs.Sooner.{first_with}
use Rattle.body_rules.proofs.Laws.{first_with_append, flat_step}
use Rattle.super_rules.specs.Tables.{class_faults_by}
use Rattle.super_rules.proofs.search.with_classes.Goals as goal

pub loop-written-preserved : goal.loop-written-preserved
loop-written-preserved c = flat_step first_with first_with_append (class_faults_by c.args.program.now c.args.tables.now c.args.numbers.now) c.args.classes.now c.loop-written.written-index c.written-item.result c.loop-written.first c.in_ok-first.first _ c.loop-written-test.true c.written-item.is c.in_ok-first.ensures c.loop-written.invariant
