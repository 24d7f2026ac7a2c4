use Rattle.std.proofs.Common.{◌≡◌, take}
use Rattle.dart_program.specs.First.{IsFirstOrNone}
use Rattle.program_rules.specs.Bodies.{InFile}
use Rattle.program_rules.specs.Files.{InFiles}
use Rattle.program_rules.proofs.bodies.first_in_files.Given as goal

abbrev pub invariant-loop-file : goal.invariant-loop-file
invariant-loop-file l = (l.number ≡ l.file-index) × IsFirstOrNone (InFiles (InFile l.meanings) 0 (take l.file-index l.files)) l.found
