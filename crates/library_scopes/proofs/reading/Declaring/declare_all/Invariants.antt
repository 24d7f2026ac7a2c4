use Rattle.std.proofs.Common.{◌≡◌, drop}
use Rattle.std.specs.List.{flat_map}
use Rattle.dart_program.specs.Declares.{declared_by}
use Rattle.library_scopes.specs.Reading.{declared_all}
use Rattle.library_scopes.proofs.reading.Declaring.declare_all.Given as goal

abbrev pub invariant-loop-declaration : goal.invariant-loop-declaration
invariant-loop-declaration l = declared_all l.self (flat_map declared_by (drop l.declaration-index l.declarations)) ≡ declared_all l.fn.self (flat_map declared_by l.declarations)
