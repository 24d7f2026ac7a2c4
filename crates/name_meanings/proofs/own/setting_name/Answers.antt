use Rattle.std.proofs.Common.{sym, ap, ◌∙◌}
use Rattle.std.specs.Prelude.{option_and_then, slice_get}
use Rattle.dart_program.specs.Declares.{declared_by_member}
use Rattle.library_scopes.specs.declared.named.Side.TheVariants as side
use Rattle.name_meanings.specs.Own.{name_on}
use Rattle.name_meanings.proofs.Fields.{set_by_none, set_by_field}
use Rattle.name_meanings.proofs.own.setting_name.Goals as goal

pub returns-then-fields : goal.returns-then-fields
returns-then-fields c =
    set_by_none c.in-Fields.field-0 c.in-Fields.fields.is_final c.in-Fields.fields.items c.args.number c.if-fields.true
    ∙ ap (λ x. option_and_then (name_on side.Setting) (slice_get (declared_by_member x) c.args.number)) (sym c.in-Fields.is)

pub returns-else-fields : goal.returns-else-fields
returns-else-fields c =
    c.field_name.ensures
    ∙ set_by_field c.in-Fields.field-0 c.in-Fields.fields.is_final c.in-Fields.fields.items c.args.number c.if-fields.false
    ∙ ap (λ x. option_and_then (name_on side.Setting) (slice_get (declared_by_member x) c.args.number)) (sym c.in-Fields.is)
