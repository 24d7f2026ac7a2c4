use Rattle.std.proofs.Common.{◌≡◌, map, take}
use Rattle.name_meanings.specs.Tables.{node_facts}
use Rattle.name_meanings.proofs.tables.all_facts.Given as goal

abbrev pub invariant-loop-member : goal.invariant-loop-member
invariant-loop-member l = l.facts ≡ map (node_facts l.program) (take l.member-index l.members)
