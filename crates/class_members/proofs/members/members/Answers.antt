use Rattle.std.proofs.Common.{sym, ap, ◌∙◌, arith}
use Rattle.std.proofs.lemmas.List.{drop_all}
use Rattle.class_members.specs.Steps.{with_files}
use Rattle.class_members.proofs.Gathered.{members_are}
use Rattle.class_members.proofs.members.members.Goals as goal

pub returns : goal.returns
returns c =
    members_are c.args.program.now c.loop-file.members
    (sym (ap (with_files c.args.program.now c.loop-file.number c.loop-file.next c.loop-file.members) (drop_all c.loop-file.file-index c.files-file-items.result.now (omega (arith, c.loop-file-test.false)))) ∙ c.loop-file.invariant)
