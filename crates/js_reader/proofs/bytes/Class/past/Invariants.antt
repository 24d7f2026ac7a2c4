use Rattle.std.proofs.Common.{◌≡◌, length}
use Rattle.js_reader.specs.Scanning.{back}
use Rattle.js_reader.specs.Classes.{is_of}
use Rattle.js_reader.proofs.bytes.Class.past.Given as goal

abbrev pub invariant-front : goal.invariant-front
invariant-front l = back (is_of l.fn.self) l.rest ≡ back (is_of l.fn.self) l.fn.bytes

abbrev pub decreases-front : goal.decreases-front
decreases-front l = length l.rest
