use Rattle.std.proofs.Common.{◌≡◌, drop}
use Rattle.dart_program.specs.Declares.{last_name}
use Rattle.library_scopes.proofs.doubles.last_name.Given as goal

abbrev pub invariant-loop-name : goal.invariant-loop-name
invariant-loop-name l = last_name l.last (drop l.name-index l.names) ≡ last_name l.class l.names
