use Rattle.std.proofs.Common.{◌≡◌, ◌+◌, drop}
use Rattle.class_members.specs.Members.{all_made}
use Rattle.class_members.specs.Steps.{with_declarations}
use Rattle.class_members.proofs.members.push_declarations.Given as goal

abbrev pub invariant-loop-declaration : goal.invariant-loop-declaration
invariant-loop-declaration l = (with_declarations l.program l.file l.next l.number l.members (drop l.declaration-index l.declarations) ≡ with_declarations l.program l.file l.first 0 l.fn.members l.declarations) × (l.next + all_made (drop l.declaration-index l.declarations) ≡ l.first + all_made l.declarations)
