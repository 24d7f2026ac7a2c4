use Rattle.std.proofs.Common.{◌≡◌, ◌++◌, drop}
use Rattle.class_members.specs.Constructions.{written_from}
use Rattle.class_members.proofs.constructions.written_constructions.Given as goal

abbrev pub invariant-loop-member : goal.invariant-loop-member
invariant-loop-member l = l.constructions ++ written_from l.class l.number (drop l.member-index l.members) ≡ written_from l.class 0 l.members
