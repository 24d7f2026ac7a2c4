use Rattle.std.proofs.Common.{sym, ap, ◌∙◌}
use Rattle.library_scopes.proofs.Variables.{name_unset, name_initialised}
use Rattle.dart_program.specs.Declares.{variable_name}
use Rattle.library_scopes.proofs.reading.name_of_variable.Goals as goal

pub returns-in-Unset : goal.returns-in-Unset
returns-in-Unset c = sym (ap variable_name c.in-Unset.is ∙ name_unset c.in-Unset.name)

pub returns-in-Initialised : goal.returns-in-Initialised
returns-in-Initialised c = sym (ap variable_name c.in-Initialised.is ∙ name_initialised c.in-Initialised.name c.in-Initialised.field-1)
