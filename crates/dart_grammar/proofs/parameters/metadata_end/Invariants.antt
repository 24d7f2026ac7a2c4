use Rattle.std.proofs.Common.{◌≡◌, ◌-◌, length}
use Rattle.dart_grammar.specs.Shapes as spec
use Rattle.dart_grammar.proofs.parameters.metadata_end.Given as goal

abbrev pub invariant-loop-turn : goal.invariant-loop-turn
invariant-loop-turn l = spec.metadata_end (length l.fn.ts) l.fn.ts ≡ spec.metadata_end (l._turn-end - l._turn) l.rest
