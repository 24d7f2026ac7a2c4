use Rattle.std.proofs.Common.{sym, ap, ◌∙◌}
use Rattle.std.specs.List.{list_any}
use Rattle.dart_program.specs.Declares.{declared_by_member, variable_name}
use Rattle.library_scopes.specs.Uses.{is_member, has_text}
use Rattle.library_scopes.proofs.Steps.{fields_named}
use Rattle.library_scopes.proofs.nearer.member_has.Goals as goal

pub returns-in-Fields : goal.returns-in-Fields
returns-in-Fields c =
    c.variables_have.ensures
    ∙ ap (list_any (λ v. has_text c.args.text.now (variable_name v))) c.as_slice.ensures
    ∙ sym (fields_named c.args.text.now c.args.class.now c.in-Fields.field-0 c.in-Fields.variables.is_final c.in-Fields.variables.items)
    ∙ ap (λ m. list_any (is_member c.args.text.now c.args.class.now) (declared_by_member m)) (sym c.in-Fields.is)
