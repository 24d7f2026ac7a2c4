use Rattle.std.proofs.Common.{◌≡◌, drop}
use Rattle.std.specs.List.{list_any}
use Rattle.dart_program.specs.Declares.{variable_name}
use Rattle.library_scopes.specs.Uses.{has_text}
use Rattle.library_scopes.proofs.nearer.variables_have.Given as goal

abbrev pub invariant-loop-variable : goal.invariant-loop-variable
invariant-loop-variable l = list_any (λ v. has_text l.text (variable_name v)) l.variables ≡ list_any (λ v. has_text l.text (variable_name v)) (drop l.variable-index l.variables)
