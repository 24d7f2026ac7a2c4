-- The name of a variable.
use Rattle.std.proofs.Common.{◌≡◌, sym, ap, ◌∙◌}
use Rattle.dart_grammar.specs.declared.trees.Name.{Name}
use Rattle.dart_grammar.specs.declared.trees.Expr.{Expr}
use Rattle.dart_grammar.specs.declared.trees.Body.TheOpen.{Variable-F}
use Rattle.dart_grammar.specs.declared.trees.Variable.{Variable, out-roll-Variable}
use Rattle.dart_grammar.specs.declared.trees.Variable.TheVariants as v
use Rattle.dart_program.specs.Declares.{variable_name, variable_name_at}

pub name_unset : (x : Name) → variable_name (v.Unset x) ≡ x
unfolding variable_name
name_unset x = ap variable_name (sym (v.rolls-Unset x)) ∙ ap variable_name_at (out-roll-Variable (Variable-F.Unset x))

pub name_initialised : (x : Name) (a : Expr) → variable_name (v.Initialised x a) ≡ x
unfolding variable_name
name_initialised x a = ap variable_name (sym (v.rolls-Initialised x a)) ∙ ap variable_name_at (out-roll-Variable (Variable-F.Initialised x a))
