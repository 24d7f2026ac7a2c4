use Rattle.std.proofs.Common.{◌≡◌, [], drop}
use Rattle.class_members.specs.Steps.{with_files}
use Rattle.class_members.proofs.members.members.Given as goal

abbrev pub invariant-loop-file : goal.invariant-loop-file
invariant-loop-file l = with_files l.program l.number l.next l.members (drop l.file-index l.file-items) ≡ with_files l.program 0 0 [] l.program.files
