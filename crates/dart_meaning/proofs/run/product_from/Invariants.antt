use Rattle.std.proofs.Common.{◌≡◌, drop}
use Rattle.std.specs.Prelude.{map}
use Rattle.dart_meaning.specs.Meaning.{product_from}
use Rattle.dart_meaning.specs.Runner.{datum_of}
use Rattle.dart_meaning.proofs.run.product_from.Given as goal

abbrev pub invariant-loop-operand : goal.invariant-loop-operand
invariant-loop-operand l = product_from (map datum_of l.values) l.total (drop l.operand-index l.operands) ≡ product_from (map datum_of l.values) l.fn.first l.operands
