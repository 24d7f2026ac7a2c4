use Rattle.std.proofs.Common.{◌≡◌, drop}
use Rattle.library_scopes.specs.Libraries.{with_files, no_files}
use Rattle.library_scopes.proofs.reading.read.Given as goal

abbrev pub invariant-loop-file : goal.invariant-loop-file
invariant-loop-file l = with_files l.reading (drop l.file-index l.files) ≡ with_files no_files l.files
