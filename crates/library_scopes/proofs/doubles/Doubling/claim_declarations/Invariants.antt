use Rattle.std.proofs.Common.{◌≡◌, drop, map}
use Rattle.std.specs.List.{flat_map}
use Rattle.dart_program.specs.Declares.{declared_by}
use Rattle.library_scopes.specs.Taken.{declared_claim}
use Rattle.library_scopes.specs.Doubling.{claimed_all}
use Rattle.library_scopes.proofs.doubles.Doubling.claim_declarations.Given as goal

abbrev pub invariant-loop-declaration : goal.invariant-loop-declaration
invariant-loop-declaration l = claimed_all l.self (map declared_claim (flat_map declared_by (drop l.declaration-index l.declarations))) ≡ claimed_all l.fn.self (map declared_claim (flat_map declared_by l.declarations))
