use Rattle.std.proofs.Common.{◌≡◌, length}
use Rattle.dart_syntax.specs.Table.{back}
use Rattle.dart_tokens.specs.Classes.{is_of}
use Rattle.dart_tokens.proofs.bytes.Class.past.Given as goal

abbrev pub invariant-front : goal.invariant-front
invariant-front l = back (is_of l.fn.self) l.rest ≡ back (is_of l.fn.self) l.fn.bytes

abbrev pub decreases-front : goal.decreases-front
decreases-front l = length l.rest
