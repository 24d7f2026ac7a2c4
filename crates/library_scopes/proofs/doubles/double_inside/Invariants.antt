use Rattle.std.proofs.Common.{◌≡◌, drop}
use Rattle.std.specs.List.{flat_map}
use Rattle.library_scopes.specs.Taken.{doubles_inside}
use Rattle.library_scopes.specs.Least.{least_with}
use Rattle.library_scopes.proofs.doubles.double_inside.Given as goal

abbrev pub invariant-loop-declaration : goal.invariant-loop-declaration
invariant-loop-declaration l = least_with l.first (flat_map doubles_inside (drop l.declaration-index l.declarations)) ≡ least_with l.fn.first (flat_map doubles_inside l.declarations)
