use Rattle.std.proofs.Common.{◌≡◌, [], drop}
use Rattle.name_meanings.specs.Tables.{put_all}
use Rattle.name_meanings.proofs.tables.names_of.Given as goal

abbrev pub invariant-loop-member : goal.invariant-loop-member
invariant-loop-member l = put_all l.program l.names (drop l.member-index l.own) ≡ put_all l.program (record { values = []; settings = [] }) l.own
