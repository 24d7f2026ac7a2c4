use Rattle.std.proofs.Common.{◌≡◌, [], drop}
use Rattle.class_heads.specs.Written.{with_files}
use Rattle.class_heads.proofs.written.written.Given as goal

abbrev pub invariant-loop-file : goal.invariant-loop-file
invariant-loop-file l = with_files l.number l.written (drop l.file-index l.files) ≡ with_files 0 [] l.files
