use Rattle.std.proofs.Common.{map}
use Rattle.library_scopes.proofs.Steps.{flat_step, declared_behind}
use Rattle.dart_program.specs.Declares.{declared_by}
use Rattle.library_scopes.specs.Reading.{declared_all}
use Rattle.library_scopes.proofs.reading.Declaring.declare_all.Goals as goal

pub loop-declaration-preserved : goal.loop-declaration-preserved
loop-declaration-preserved c = flat_step declared_all declared_behind declared_by c.args.declarations.now c.loop-declaration.declaration-index c.declaration-item.result c.loop-declaration.self c.declare_one.new.self _ c.loop-declaration-test.true c.declaration-item.is c.in_ok-declare_one.ensures c.loop-declaration.invariant
