use Rattle.std.proofs.Common.{map}
use Rattle.library_scopes.proofs.Steps.{flat_step, claims_behind}
use Rattle.dart_program.specs.Declares.{declared_by}
use Rattle.library_scopes.specs.Taken.{declared_claim}
use Rattle.library_scopes.specs.Doubling.{claimed_all}
use Rattle.library_scopes.proofs.doubles.Doubling.claim_declarations.Goals as goal

pub loop-declaration-preserved : goal.loop-declaration-preserved
loop-declaration-preserved c = flat_step (λ s ds. claimed_all s (map declared_claim ds)) (claims_behind declared_claim) declared_by c.args.declarations.now c.loop-declaration.declaration-index c.declaration-item.result c.loop-declaration.self c.claim_declaration.new.self _ c.loop-declaration-test.true c.declaration-item.is c.in_ok-claim_declaration.ensures c.loop-declaration.invariant
