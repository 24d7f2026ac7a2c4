use Rattle.std.proofs.Common.{◌≡◌, ◌-◌}
use Rattle.expr_parser.specs.Knot.{inner_at}
use Rattle.expr_parser.specs.Texts.{texts, texts_from}
use Rattle.expr_parser.proofs.grammar.Grammar.texts.Given as goal

abbrev pub invariant-loop-turn : goal.invariant-loop-turn
invariant-loop-turn g l = texts (inner_at l.self.depth) l.fn.ts ≡ texts_from (inner_at l.self.depth) (l._turn-end - l._turn) l.found l.rest
