use Rattle.std.proofs.Common.{◌≡◌, drop}
use Rattle.selectors.specs.Collecting.{no_tables, with_files}
use Rattle.selectors.proofs.reading.read.Given as goal

abbrev pub invariant-loop-file : goal.invariant-loop-file
invariant-loop-file l = with_files l.tables (drop l.file-index l.files) ≡ with_files no_tables l.files
