use Rattle.std.proofs.Common.{◌≡◌, ◌-◌}
use Rattle.dart_grammar.specs.Declarations as spec
use Rattle.dart_grammar.proofs.begins.path_end.Given as goal

abbrev pub invariant-loop-turn : goal.invariant-loop-turn
invariant-loop-turn l = spec.path_end l.fn.turns l.fn.ts ≡ spec.path_end (l.fn.turns - l._turn) l.rest
