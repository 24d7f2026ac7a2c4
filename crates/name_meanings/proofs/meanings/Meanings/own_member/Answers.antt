use Rattle.std.proofs.Common.{sym, ap, ◌∙◌}
use Rattle.std.specs.Prelude.{slice_get}
use Rattle.std.specs.Option.{option_copied}
use Rattle.name_meanings.specs.Own.{own_member}
use Rattle.name_meanings.specs.Tables.{own_by_class}
use Rattle.name_meanings.proofs.Named.{own_member_is}
use Rattle.name_meanings.proofs.meanings.Meanings.own_member.Goals as goal

pub returns-then-is_seen : goal.returns-then-is_seen
returns-then-is_seen c =
    c.own_by_class.ensures
    ∙ ap (λ names. own_by_class names c.as_slice-then-is_seen.result.now c.args.class c.args.side c.args.name.now) c.as_slice.ensures
    ∙ ap (λ facts. own_by_class c.self.inside.names facts c.args.class c.args.side c.args.name.now) c.as_slice-then-is_seen.ensures
    ∙ own_member_is c.self.inside.program c.self.inside.class_numbers c.self.inside.names c.self.inside.facts c.args.file c.args.class c.args.side c.args.name.now c.in_ok-node.node.now c.self.invariant
    (sym (ap option_copied c.in_ok-node.was) ∙ c.at.ensures ∙ ap (λ classes. slice_get classes c.args.class) c.classes.ensures)
    (sym c.if-is_seen.true ∙ c.is_seen.ensures)
    ∙ ap (λ p. own_member p c.args.file c.args.class c.args.side c.args.name.now) c.self.view_is
