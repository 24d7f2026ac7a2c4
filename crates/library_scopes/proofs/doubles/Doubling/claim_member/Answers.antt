use Rattle.std.proofs.Common.{map, sym, ap, ◌∙◌}
use Rattle.dart_program.specs.Declares.{declared_by_member}
use Rattle.library_scopes.specs.Taken.{member_claim}
use Rattle.library_scopes.specs.Doubling.{claimed_all, variable_claim}
use Rattle.library_scopes.proofs.Steps.{fields_claimed}
use Rattle.library_scopes.proofs.doubles.Doubling.claim_member.Goals as goal

pub returns-in_ok-claim_variables-in-Fields : goal.returns-in_ok-claim_variables-in-Fields
returns-in_ok-claim_variables-in-Fields c = c.in_ok-claim_variables-in-Fields.ensures ∙ ap (claimed_all c.args.self.now) (ap (map variable_claim) c.as_slice.ensures ∙ sym (fields_claimed c.args.class.now c.in-Fields.field-0 c.in-Fields.variables.is_final c.in-Fields.variables.items) ∙ ap (λ x. map (member_claim c.args.class.now) (declared_by_member x)) (sym c.in-Fields.is))
