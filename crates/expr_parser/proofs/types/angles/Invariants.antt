use Rattle.std.proofs.Common.{◌≡◌, ◌-◌, ◌≤◌, false, length}
use Rattle.expr_parser.specs.Types.{angles_from}
use Rattle.expr_parser.proofs.types.angles.Given as goal

abbrev pub invariant-loop-turn : goal.invariant-loop-turn
invariant-loop-turn l = record {
  same : angles_from (length l.fn.ts) 0 false l.fn.ts ≡ angles_from (l._turn-end - l._turn) l.more l.is_behind l.rest;
  few : l.more ≤ l._turn;
}
