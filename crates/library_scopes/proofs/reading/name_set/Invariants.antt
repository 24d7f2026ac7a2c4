use Rattle.std.proofs.Common.{◌≡◌, [], drop}
use Rattle.library_scopes.specs.Libraries.{with_all}
use Rattle.library_scopes.proofs.reading.name_set.Given as goal

abbrev pub invariant-loop-name : goal.invariant-loop-name
invariant-loop-name l = with_all (drop l.name-index l.names) l.set ≡ with_all l.names []
