use Rattle.std.proofs.lemmas.Result.{IfOk-weaker}
use Rattle.persistent_maps.specs.Gives.{Gives}
use Rattle.persistent_maps.specs.Maps.{value_of}
use Rattle.member_tables.specs.Filling.{with_members, IsTableOf}
use Rattle.member_tables.proofs.Joined.{table_made}
use Rattle.member_tables.proofs.tables.MemberTables.table_of.Goals as goal

pub returns-clause-made : goal.returns-clause-made
returns-clause-made c =
    IfOk-weaker c.put_members.result (λ made. Gives c.put_members.new.maps made (with_members c.args.program.now c.args.own.now (value_of c.args.self.now.maps c.above-above.result)))
    (IsTableOf c.args.program.now c.args.own.now c.args.self.now (record { maps = c.put_members.new.maps; tables = c.args.self.now.tables }) c.args.class)
    (λ made gives. table_made c.args.program.now c.args.own.now c.args.self.now c.put_members.new.maps c.args.class c.above-above.result made c.above-above.ensures gives)
    c.put_members.ensures.made
