use Rattle.library_scopes.proofs.Steps.{flat_step, taken_behind}
use Rattle.library_scopes.specs.Taken.{with_claims, prefix_claims}
use Rattle.library_scopes.proofs.doubles.taken_by_prefixes.Goals as goal

pub loop-import-preserved : goal.loop-import-preserved
loop-import-preserved c = flat_step with_claims taken_behind prefix_claims c.args.imports.now c.loop-import.import-index c.import-item.result c.loop-import.taken c.take_prefix.new.taken _ c.loop-import-test.true c.import-item.is c.in_ok-take_prefix.ensures c.loop-import.invariant
