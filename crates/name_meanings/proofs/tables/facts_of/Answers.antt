use Rattle.std.proofs.Common.{false, cond, sym, ap, ◌∙◌}
use Rattle.std.specs.Prelude.{nat_lt, slice_get}
use Rattle.dart_program.specs.Declares.{declared_by_member}
use Rattle.name_meanings.specs.Tables.{no_facts, facts_of}
use Rattle.name_meanings.proofs.Fields.{field_told}
use Rattle.name_meanings.proofs.tables.facts_of.Goals as goal

pub returns-in-Fields : goal.returns-in-Fields
returns-in-Fields c =
    c.facts_if-in-Fields.ensures
    ∙ ap (λ k. cond (nat_lt c.args.number k) (record { is_static = c.in-Fields.is_static; lacks_body = false }) no_facts) c.len.ensures
    ∙ field_told c.in-Fields.is_static c.in-Fields.fields.is_final c.in-Fields.fields.items c.args.number
    ∙ ap (λ x. facts_of (slice_get (declared_by_member x) c.args.number)) (sym c.in-Fields.is)
