use Rattle.std.proofs.Common.{◌≡◌, ◌++◌, drop}
use Rattle.class_members.specs.Owners.{numbers_from, is_outside}
use Rattle.class_members.proofs.owners.outside_members.Given as goal

abbrev pub invariant-loop-member : goal.invariant-loop-member
invariant-loop-member l = l.numbers ++ numbers_from l.number is_outside (drop l.member-index l.members) ≡ numbers_from 0 is_outside l.members
