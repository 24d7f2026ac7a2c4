use Rattle.std.proofs.Common.{◌≡◌, ◌-◌, []}
use Rattle.js_reader.specs.Scanning.{tokens_of}
use Rattle.js_reader.specs.Parsing.{expr_at, stmt_at, entries_from}
use Rattle.js_reader.proofs.grammar.Grammar.entries.Given as goal

abbrev pub invariant-loop-turn : goal.invariant-loop-turn
invariant-loop-turn g l = entries_from l.self.source.size l.self.turns (expr_at l.self.source.size l.self.depth) (stmt_at l.self.source.size l.self.depth) l.self.turns [] (tokens_of l.self.source.size l.fn.bytes) ≡ entries_from l.self.source.size l.self.turns (expr_at l.self.source.size l.self.depth) (stmt_at l.self.source.size l.self.depth) (l._turn-end - l._turn) l.found (tokens_of l.self.source.size l.rest)
