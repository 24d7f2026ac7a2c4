use Rattle.std.proofs.Common.{◌≡◌, drop}
use Rattle.library_scopes.specs.First.{first_from}
use Rattle.library_scopes.proofs.resolving.first_fault.Given as goal

abbrev pub invariant-loop-library : goal.invariant-loop-library
invariant-loop-library l = first_from l.scopes l.number (drop l.library-index l.scopes.libraries) l.rest ≡ first_from l.scopes 0 l.scopes.libraries l.files
