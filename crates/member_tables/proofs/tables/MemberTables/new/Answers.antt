use Rattle.std.proofs.Common.{get_or, refl, ap, ◌∙◌, arith}
use Rattle.std.specs.Prelude.{slice_get}
use Rattle.member_tables.specs.Filling.{listed_for}
use Rattle.member_tables.proofs.Joined.{room_for_keys, table_inside, one_table_more, all_tables}
use Rattle.member_tables.proofs.tables.MemberTables.new.Goals as goal

pub table_of-requires-clause-enough : goal.table_of-requires-clause-enough
table_of-requires-clause-enough c = room_for_keys c.args.program.now c.args.selectors.now c.loop-class.made c.requires.selectors c.loop-class.invariant.tables

pub set-requires : goal.set-requires
set-requires c =
    table_inside c.args.program.now c.args.owners.now c.in_ok-origins.origins c.requires.owners c.in_ok-origins.ensures c.args.order.now c.requires.upward c.loop-class.class-index (get_or c.args.order.now c.loop-class.class-index 0) c.loop-class.made
    c.table_of.new.self c.in_ok-table.table c.loop-class-test.true refl c.members_of-own.result.now c.loop-class.invariant
    (c.members_of-own.ensures ∙ ap (listed_for c.args.owners.now) (c.copied-body.ensures ∙ c.at.ensures ∙ ap (λ xs. slice_get xs (get_or c.args.order.now c.loop-class.class-index 0)) c.as_slice.ensures))
    c.in_ok-table.ensures.keeps c.in_ok-table.ensures.made

pub loop-class-preserved : goal.loop-class-preserved
loop-class-preserved c =
    one_table_more c.args.program.now c.args.owners.now c.in_ok-origins.origins c.requires.owners c.in_ok-origins.ensures c.args.order.now c.requires.upward c.loop-class.class-index (get_or c.args.order.now c.loop-class.class-index 0) c.loop-class.made
    c.table_of.new.self c.in_ok-table.table c.loop-class-test.true refl c.members_of-own.result.now c.loop-class.invariant
    (c.members_of-own.ensures ∙ ap (listed_for c.args.owners.now) (c.copied-body.ensures ∙ c.at.ensures ∙ ap (λ xs. slice_get xs (get_or c.args.order.now c.loop-class.class-index 0)) c.as_slice.ensures))
    c.in_ok-table.ensures.keeps c.in_ok-table.ensures.made c.set.new.self c.set.ensures

pub returns : goal.returns
returns c =
    all_tables c.args.program.now c.args.owners.now c.in_ok-origins.origins c.requires.owners c.in_ok-origins.ensures c.args.order.now c.requires.upward c.loop-class.class-index c.loop-class.made (omega (arith, c.loop-class-test.false)) c.loop-class.invariant
