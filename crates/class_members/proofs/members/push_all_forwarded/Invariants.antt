use Rattle.std.proofs.Common.{◌≡◌, ◌-◌}
use Rattle.class_members.specs.Steps.{with_all_forwarded}
use Rattle.class_members.proofs.members.push_all_forwarded.Given as goal

abbrev pub invariant-loop-done : goal.invariant-loop-done
invariant-loop-done l = with_all_forwarded l.program l.file l.members l.class (l.count - l._done) ≡ with_all_forwarded l.program l.file l.fn.members l.first l.count
