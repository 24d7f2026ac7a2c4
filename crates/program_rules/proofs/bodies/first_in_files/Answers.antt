use Rattle.std.proofs.Common.{◌+◌, sym, ap, ◌∙◌, subst, take}
use Rattle.std.proofs.lemmas.List.{take_all}
use Rattle.dart_program.specs.First.{IsFirstOrNone}
use Rattle.program_rules.specs.Bodies.{InFile}
use Rattle.program_rules.specs.Files.{InFiles}
use Rattle.program_rules.proofs.Files.{one_more_file}
use Rattle.program_rules.proofs.bodies.first_in_files.Goals as goal

pub loop-file-preserved : goal.loop-file-preserved
loop-file-preserved c = (
  c.in_ok-number.ensures ∙ ap (λ n. n + 1) c.loop-file.invariant.0,
  subst (IsFirstOrNone (InFiles (InFile c.args.meanings.now) 0 (take (c.loop-file.file-index + 1) c.args.files.now))) (sym c.first_of-found.ensures)
      (one_more_file (InFile c.args.meanings.now) c.loop-file.number c.loop-file.file-index c.args.files.now c.file-item.result c.loop-file.found c.in_ok-one.one c.loop-file-test.true c.file-item.is c.loop-file.invariant.0 c.loop-file.invariant.1 c.in_ok-one.ensures),
)

pub returns : goal.returns
returns c =
    subst (λ files. IsFirstOrNone (InFiles (InFile c.args.meanings.now) 0 files) c.loop-file.found) (take_all c.loop-file.file-index c.args.files.now c.loop-file-test.false) c.loop-file.invariant.1
