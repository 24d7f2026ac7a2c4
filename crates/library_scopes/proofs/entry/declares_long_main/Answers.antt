use Rattle.std.proofs.Common.{sym, ap, ◌∙◌}
use Rattle.std.specs.List.{list_any}
use Rattle.dart_program.specs.Declares.{declared_by, AFunction}
use Rattle.library_scopes.specs.Rules.{is_long_main}
use Rattle.library_scopes.proofs.Steps.{or_false, no_long_main}
use Rattle.library_scopes.proofs.entry.declares_long_main.Goals as goal

pub returns-in-Function : goal.returns-in-Function
returns-in-Function c = c.is_long_main.ensures ∙ sym (or_false (is_long_main (AFunction c.in-Function.function))) ∙ ap (λ x. list_any is_long_main (declared_by x)) (sym c.in-Function.is)

pub returns-in-Variables : goal.returns-in-Variables
returns-in-Variables c = sym (ap (λ x. list_any is_long_main (declared_by x)) c.in-Variables.is ∙ no_long_main c.in-Variables.field-1.is_final c.in-Variables.field-1.items)
