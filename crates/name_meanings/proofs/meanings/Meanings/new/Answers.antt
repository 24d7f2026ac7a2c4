use Rattle.std.proofs.Common.{map, ap, ◌∙◌}
use Rattle.class_heads.specs.Written.{numbers_from}
use Rattle.name_meanings.specs.Tables.{node_facts}
use Rattle.name_meanings.proofs.Named.{are_names, numbers_are}
use Rattle.name_meanings.proofs.meanings.Meanings.new.Goals as goal

pub invariant_of-result : goal.invariant_of-result
invariant_of-result c =
    are_names c.args.program c.args.owners.now c.in_ok-class_numbers.class_numbers c.in_ok-names.names c.in_ok-facts.facts c.requires.owners
    (c.in_ok-class_numbers.ensures ∙ ap (numbers_from 0) c.written.ensures ∙ numbers_are c.args.program)
    c.in_ok-names.ensures
    (c.in_ok-facts.ensures ∙ ap (map (node_facts c.args.program)) c.requires.members)
