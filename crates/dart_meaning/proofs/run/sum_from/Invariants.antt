use Rattle.std.proofs.Common.{◌≡◌, drop}
use Rattle.std.specs.Prelude.{map}
use Rattle.dart_meaning.specs.Meaning.{sum_from}
use Rattle.dart_meaning.specs.Runner.{datum_of}
use Rattle.dart_meaning.proofs.run.sum_from.Given as goal

abbrev pub invariant-loop-addend : goal.invariant-loop-addend
invariant-loop-addend l = sum_from (map datum_of l.values) l.total (drop l.addend-index l.addends) ≡ sum_from (map datum_of l.values) l.fn.first l.addends
