use Rattle.std.proofs.Common.{◌≡◌, drop}
use Rattle.class_members.specs.Steps.{with_members}
use Rattle.class_members.proofs.members.push_members.Given as goal

abbrev pub invariant-loop-member : goal.invariant-loop-member
invariant-loop-member l = with_members l.file l.class l.declaration l.number l.members (drop l.member-index l.body) ≡ with_members l.file l.class l.declaration 0 l.fn.members l.body
