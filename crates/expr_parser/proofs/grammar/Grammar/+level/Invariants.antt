use Rattle.std.proofs.Common.{◌≡◌, ◌-◌}
use Rattle.expr_parser.specs.Knot.{inner_at}
use Rattle.expr_parser.specs.Operators.{level, operated_from}
use Rattle.expr_parser.proofs.grammar.Grammar.+level.Given as goal

abbrev pub invariant-loop-turn : goal.invariant-loop-turn
invariant-loop-turn g l = level (inner_at l.self.depth) l.fn.level l.fn.ts
    ≡ operated_from (level (inner_at l.self.depth) (l.level - 1)) l.level (l._turn-end - l._turn) l.left l.rest

abbrev pub decreases-level : goal.decreases-level
decreases-level g l = l.level
