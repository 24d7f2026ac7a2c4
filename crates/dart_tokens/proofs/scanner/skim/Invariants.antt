use Rattle.std.proofs.Common.{◌≡◌, ◌-◌, length}
use Rattle.dart_syntax.specs.Reader as reader
use Rattle.dart_tokens.proofs.scanner.skim.Given as goal

abbrev pub invariant-loop-turn : goal.invariant-loop-turn
invariant-loop-turn l = reader.skim l.fn.count (length l.fn.bytes) l.fn.held l.fn.bytes ≡ reader.skim l.fn.count (length l.fn.bytes - l._turn) l.held l.rest
