use Rattle.dart_program.specs.Sooner.{first_with}
use Rattle.body_rules.proofs.Laws.{first_with_append, flat_step}
use Rattle.field_rules.specs.Rules.{set_faults}
use Rattle.field_rules.proofs.search.with_declarations.Goals as goal

pub loop-declaration-preserved : goal.loop-declaration-preserved
loop-declaration-preserved c = flat_step first_with first_with_append (set_faults c.args.file) c.args.declarations.now c.loop-declaration.declaration-index c.declaration-item.result c.loop-declaration.first c.in_ok-first.first _ c.loop-declaration-test.true c.declaration-item.is c.in_ok-first.ensures c.loop-declaration.invariant
