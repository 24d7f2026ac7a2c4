use Rattle.std.proofs.Common.{◌≡◌, ◌++◌, drop}
use Rattle.library_scopes.specs.Taken.{dotted_text, behind_dots}
use Rattle.library_scopes.proofs.doubles.dotted_text.Given as goal

abbrev pub invariant-loop-name : goal.invariant-loop-name
invariant-loop-name l = l.text.items ++ behind_dots (drop l.name-index l.rest) ≡ dotted_text l.names
