use Rattle.std.proofs.Common.{◌≡◌, ◌-◌, [], length}
use Rattle.expr_parser.specs.Knot.{inner_at}
use Rattle.expr_parser.specs.Lists.{entries, entries_from}
use Rattle.expr_parser.proofs.grammar.Grammar.entries.Given as goal

abbrev pub invariant-loop-turn : goal.invariant-loop-turn
invariant-loop-turn g l = entries (inner_at l.self.depth) l.fn.ts ≡ entries_from (inner_at l.self.depth) (l._turn-end - l._turn) l.found l.rest
