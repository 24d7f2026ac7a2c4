use Rattle.std.proofs.Common.{◌≡◌, ◌-◌, [], length}
use Rattle.dart_meaning.specs.Program.{forms_of}
use Rattle.dart_meaning.specs.Reader as spec
use Rattle.dart_meaning.proofs.read.addends.Given as goal

abbrev pub invariant-loop-turn : goal.invariant-loop-turn
invariant-loop-turn l = spec.addends (length l.tokens) l.names [] (forms_of l.tokens) ≡ spec.addends (length l.tokens - l._turn) l.names l.addends (forms_of l.rest)
