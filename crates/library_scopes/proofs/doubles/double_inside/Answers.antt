use Rattle.library_scopes.proofs.Steps.{flat_step, least_behind}
use Rattle.library_scopes.specs.Taken.{doubles_inside}
use Rattle.library_scopes.specs.Least.{least_with}
use Rattle.library_scopes.proofs.doubles.double_inside.Goals as goal

pub loop-declaration-preserved : goal.loop-declaration-preserved
loop-declaration-preserved c = flat_step least_with least_behind doubles_inside c.args.declarations.now c.loop-declaration.declaration-index c.declaration-item.result c.loop-declaration.first c.in_ok-first.first _ c.loop-declaration-test.true c.declaration-item.is c.in_ok-first.ensures c.loop-declaration.invariant
