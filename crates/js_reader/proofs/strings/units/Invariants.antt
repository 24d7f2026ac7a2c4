use Rattle.std.proofs.Common.{◌≡◌, ◌-◌, [], length}
use Rattle.js_reader.specs.Scanning.{units_from}
use Rattle.js_reader.proofs.strings.units.Given as goal

abbrev pub invariant-loop-turn : goal.invariant-loop-turn
invariant-loop-turn l = units_from (length l.bytes) [] l.bytes ≡ units_from (l._turn-end - l._turn) l.found l.rest
