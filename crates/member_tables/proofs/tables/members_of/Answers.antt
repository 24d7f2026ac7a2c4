use Rattle.member_tables.proofs.Walks.{no_list}
use Rattle.member_tables.proofs.tables.members_of.Goals as goal

pub returns-in-None : goal.returns-in-None
returns-in-None c = no_list c.args.owners.now c.args.class c.in-Some.class c.in-Some.is c.in-None.ensures.value
