use Rattle.std.proofs.Common.{◌≡◌, ◌-◌, []}
use Rattle.js_reader.specs.Scanning.{tokens_of}
use Rattle.js_reader.specs.Parsing.{expr_at, stmt_at, items_from}
use Rattle.js_reader.proofs.grammar.Grammar.items.Given as goal

abbrev pub invariant-loop-turn : goal.invariant-loop-turn
invariant-loop-turn g l = items_from l.self.source.size l.self.turns (expr_at l.self.source.size l.self.depth) (stmt_at l.self.source.size l.self.depth) l.self.turns [] [] (tokens_of l.self.source.size l.fn.bytes) ≡ items_from l.self.source.size l.self.turns (expr_at l.self.source.size l.self.depth) (stmt_at l.self.source.size l.self.depth) (l._turn-end - l._turn) l.names l.found (tokens_of l.self.source.size l.rest)
