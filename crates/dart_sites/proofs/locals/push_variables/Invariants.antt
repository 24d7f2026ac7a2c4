use Rattle.std.proofs.Common.{◌≡◌, ◌++◌, map, drop}
use Rattle.dart_sites.specs.Statements.{variable_local}
use Rattle.dart_sites.specs.Trees.{variable_in}
use Rattle.dart_sites.proofs.locals.push_variables.Given as goal

abbrev pub invariant-loop-variable : goal.invariant-loop-variable
invariant-loop-variable l = l.locals ++ map (variable_local l.kind l.variables.is_final) (map variable_in (drop l.variable-index l.variable-items)) ≡ l.fn.locals ++ map (variable_local l.kind l.variables.is_final) (map variable_in l.variable-items)
