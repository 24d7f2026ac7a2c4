use Rattle.std.proofs.Common.{◌≡◌, length, false}
use Rattle.js_reader.specs.Scanning.{line_ends}
use Rattle.js_reader.proofs.bytes.line_ends.Given as goal

abbrev pub invariant-gap : goal.invariant-gap
invariant-gap l = line_ends false l.rest ≡ line_ends false l.fn.bytes

abbrev pub decreases-gap : goal.decreases-gap
decreases-gap l = length l.rest
