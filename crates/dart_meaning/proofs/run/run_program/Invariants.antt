use Rattle.std.proofs.Common.{◌≡◌, ◌-◌, [], drop}
use Rattle.std.specs.Prelude.{map}
use Rattle.meanings.specs.Act.{means}
use Rattle.dart_meaning.specs.Meaning.{First, statements}
use Rattle.dart_meaning.specs.Runner.{datum_of}
use Rattle.dart_meaning.proofs.run.run_program.Given as goal

abbrev pub invariant-loop-item : goal.invariant-loop-item
invariant-loop-item l = means First (statements (drop l.item-index l.program) (map datum_of l.values.items)) l.left l.output ≡ means First (statements l.program []) (l.fn.steps - 1) []
