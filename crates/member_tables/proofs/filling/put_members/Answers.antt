use Rattle.member_tables.proofs.Filled.{fill_goes_on}
use Rattle.member_tables.proofs.filling.put_members.Goals as goal

pub left-preserved : goal.left-preserved
left-preserved c =
    fill_goes_on c.args.program.now c.args.maps.now c.args.table c.args.numbers.now c.left.maps c.put_member.new.maps c.left.made c.in_ok-made.made c.left.left.now c.in-Some.before.now c.in-Some.last.now c.left.invariant
    c.in-Some.ensures.cases.0 c.in_ok-made.ensures.keeps c.in_ok-made.ensures.made
