use Rattle.std.proofs.Common.{map, sym, ap, ◌∙◌}
use Rattle.dart_program.specs.Declares.{declared_by}
use Rattle.library_scopes.specs.Taken.{declared_claim}
use Rattle.library_scopes.specs.Doubling.{claimed_all, variable_claim}
use Rattle.library_scopes.proofs.Steps.{variables_claimed}
use Rattle.library_scopes.proofs.doubles.Doubling.claim_declaration.Goals as goal

pub returns-in_ok-claim_variables-in-Variables : goal.returns-in_ok-claim_variables-in-Variables
returns-in_ok-claim_variables-in-Variables c = c.in_ok-claim_variables-in-Variables.ensures ∙ ap (claimed_all c.args.self.now) (ap (map variable_claim) c.as_slice.ensures ∙ sym (variables_claimed c.in-Variables.variables.is_final c.in-Variables.variables.items) ∙ ap (λ x. map declared_claim (declared_by x)) (sym c.in-Variables.is))
