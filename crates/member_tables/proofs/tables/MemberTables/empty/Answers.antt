use Rattle.std.proofs.Common.{length, ap, ◌∙◌}
use Rattle.member_tables.proofs.Joined.{empty_tables}
use Rattle.member_tables.proofs.tables.MemberTables.empty.Goals as goal

pub returns : goal.returns
returns c =
    empty_tables c.args.program.now c.args.selectors.now c.for_keys.result c.from_vec.result c.in_ok-count.count (length c.classes.result.now) c.empty.result c.empty.ensures
    (c.from_vec.ensures ∙ c.in_ok-tables.ensures.items_if_clones_equal (λ y e. e)) (ap length c.classes.ensures) c.in_ok-count.ensures c.requires.selectors c.for_keys.ensures.enough
