use Rattle.std.proofs.Common.{◌≡◌, drop}
use Rattle.class_members.specs.Steps.{with_variables}
use Rattle.class_members.proofs.members.push_variables.Given as goal

abbrev pub invariant-loop-variable : goal.invariant-loop-variable
invariant-loop-variable l = with_variables l.file l.class l.declaration l.member l.members l.number (drop l._variable-index l.variables) ≡ with_variables l.file l.class l.declaration l.member l.fn.members 0 l.variables
