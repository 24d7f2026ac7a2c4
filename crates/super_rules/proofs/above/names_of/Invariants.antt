use Rattle.std.proofs.Common.{◌≡◌, [], drop}
use Rattle.super_rules.specs.Tables.{with_members}
use Rattle.super_rules.proofs.above.names_of.Given as goal

abbrev pub invariant-loop-member : goal.invariant-loop-member
invariant-loop-member l = with_members l.names l.number (drop l.member-index l.members) ≡ with_members [] 0 l.members
