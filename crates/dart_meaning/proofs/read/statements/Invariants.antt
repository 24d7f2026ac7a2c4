use Rattle.std.proofs.Common.{◌≡◌, ◌-◌, [], length}
use Rattle.dart_meaning.specs.Scope.{no_names}
use Rattle.dart_meaning.specs.Program.{forms_of}
use Rattle.dart_meaning.specs.Reader as spec
use Rattle.dart_meaning.proofs.read.statements.Given as goal

abbrev pub invariant-loop-turn : goal.invariant-loop-turn
invariant-loop-turn l = spec.statements (length l.tokens) no_names [] (forms_of l.tokens) ≡ spec.statements (length l.tokens - l._turn) l.names l.program (forms_of l.rest)
