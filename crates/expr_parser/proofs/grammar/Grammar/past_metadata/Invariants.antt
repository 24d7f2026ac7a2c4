use Rattle.std.proofs.Common.{◌≡◌, ◌-◌, [], length}
use Rattle.expr_parser.specs.Knot.{inner_at}
use Rattle.expr_parser.specs.Parameters.{past_metadata, metadata_from}
use Rattle.expr_parser.proofs.grammar.Grammar.past_metadata.Given as goal

abbrev pub invariant-loop-turn : goal.invariant-loop-turn
invariant-loop-turn g l = past_metadata (inner_at l.self.depth) l.fn.ts ≡ metadata_from (inner_at l.self.depth) (l._turn-end - l._turn) l.rest
