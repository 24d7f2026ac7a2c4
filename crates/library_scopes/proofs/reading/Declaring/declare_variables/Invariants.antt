use Rattle.std.proofs.Common.{◌≡◌, drop, map}
use Rattle.dart_program.specs.Declares.{AVariable}
use Rattle.library_scopes.specs.Reading.{declared_all}
use Rattle.library_scopes.proofs.reading.Declaring.declare_variables.Given as goal

abbrev pub invariant-loop-variable : goal.invariant-loop-variable
invariant-loop-variable l = declared_all l.self (map (AVariable l.is_final) (drop l.variable-index l.variables)) ≡ declared_all l.fn.self (map (AVariable l.is_final) l.variables)
