use Rattle.std.proofs.Common.{◌≡◌, ◌-◌}
use Rattle.dart_grammar.specs.Shapes as spec
use Rattle.dart_grammar.proofs.parameters.+parameters.Given as goal

abbrev pub decreases-parameters_end : goal.decreases-parameters_end
decreases-parameters_end l = l.turns

abbrev pub decreases-required_end : goal.decreases-required_end
decreases-required_end l = l.turns

abbrev pub decreases-nested_end : goal.decreases-nested_end
decreases-nested_end l = l.turns

abbrev pub decreases-optional_end : goal.decreases-optional_end
decreases-optional_end l = l.turns

abbrev pub invariant-required_end-loop-turn : goal.invariant-required_end-loop-turn
invariant-required_end-loop-turn l = spec.required_end l.fn.turns l.fn.ts ≡ spec.required_end (l.turns - l.turn) l.rest

abbrev pub invariant-optional_end-loop-turn : goal.invariant-optional_end-loop-turn
invariant-optional_end-loop-turn l = spec.optional_end l.fn.turns l.fn.ts ≡ spec.optional_end (l.turns - l.turn) l.rest
