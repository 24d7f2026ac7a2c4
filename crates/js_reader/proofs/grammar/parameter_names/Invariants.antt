use Rattle.std.proofs.Common.{◌≡◌, ◌-◌, []}
use Rattle.js_reader.specs.Scanning.{tokens_of}
use Rattle.js_reader.specs.Parsing.{names_from}
use Rattle.js_reader.proofs.grammar.parameter_names.Given as goal

abbrev pub invariant-loop-turn : goal.invariant-loop-turn
invariant-loop-turn l = names_from l.source.size l.turns [] [] (tokens_of l.source.size l.fn.bytes) ≡ names_from l.source.size (l.turns - l._turn) l.names l.found (tokens_of l.source.size l.rest)
