use Rattle.std.proofs.Common.{◌≡◌, [], drop}
use Rattle.js_meaning.specs.Files as spec
use Rattle.js_meaning.proofs.run.with_files.Given as goal

abbrev pub invariant-loop-named : goal.invariant-loop-named
invariant-loop-named l = spec.with_files l.made (drop l.named-index l.files) ≡ spec.with_files [] l.files
