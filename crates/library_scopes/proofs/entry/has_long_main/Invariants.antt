use Rattle.std.proofs.Common.{◌≡◌, drop}
use Rattle.std.specs.List.{list_any, flat_map}
use Rattle.dart_program.specs.Declares.{declared_by}
use Rattle.library_scopes.specs.Rules.{is_long_main}
use Rattle.library_scopes.proofs.entry.has_long_main.Given as goal

abbrev pub invariant-loop-declaration : goal.invariant-loop-declaration
invariant-loop-declaration l = list_any is_long_main (flat_map declared_by l.declarations) ≡ list_any is_long_main (flat_map declared_by (drop l.declaration-index l.declarations))
