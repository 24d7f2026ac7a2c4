use Rattle.std.proofs.Common.{◌≡◌, ◌-◌, length}
use Rattle.dart_syntax.specs.Reader.{scan, scan_from, with_front}
use Rattle.dart_tokens.proofs.scanner.scanned.Given as goal

abbrev pub invariant-loop-turn : goal.invariant-loop-turn
invariant-loop-turn l = scan l.fn.bytes ≡ with_front l.found.items (scan_from (length l.fn.bytes) (length l.fn.bytes - l._turn) l.held l.rest)
