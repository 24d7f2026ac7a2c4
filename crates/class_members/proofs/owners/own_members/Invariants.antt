use Rattle.std.proofs.Common.{◌≡◌, [], drop}
use Rattle.std.specs.Prelude.{replicate}
use Rattle.class_members.specs.Steps.{with_numbers}
use Rattle.class_members.proofs.owners.own_members.Given as goal

abbrev pub invariant-loop-member : goal.invariant-loop-member
invariant-loop-member l = with_numbers l.number l.lists.items (drop l.member-index l.members) ≡ with_numbers 0 (replicate l.fn.classes []) l.members
