use Rattle.std.proofs.Common.{◌≡◌, drop, map}
use Rattle.library_scopes.specs.Doubling.{claimed_all, variable_claim}
use Rattle.library_scopes.proofs.doubles.Doubling.claim_variables.Given as goal

abbrev pub invariant-loop-variable : goal.invariant-loop-variable
invariant-loop-variable l = claimed_all l.self (map variable_claim (drop l.variable-index l.variables)) ≡ claimed_all l.fn.self (map variable_claim l.variables)
