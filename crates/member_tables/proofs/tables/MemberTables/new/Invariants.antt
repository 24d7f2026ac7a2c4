use Rattle.member_tables.specs.Filling.{AreTablesTo}
use Rattle.member_tables.proofs.tables.MemberTables.new.Given as goal

abbrev pub invariant-loop-class : goal.invariant-loop-class
invariant-loop-class l = AreTablesTo l.program l.order l.class-index l.made
