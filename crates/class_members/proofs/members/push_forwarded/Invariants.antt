use Rattle.std.proofs.Common.{◌≡◌, drop}
use Rattle.class_members.specs.Steps.{with_forwarded}
use Rattle.class_members.proofs.members.push_forwarded.Given as goal

abbrev pub invariant-loop-construction : goal.invariant-loop-construction
invariant-loop-construction l = with_forwarded l.file l.class l.members (drop l.construction-index l.constructions) ≡ with_forwarded l.file l.class l.fn.members l.constructions
