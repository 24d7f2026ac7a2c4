use Rattle.std.proofs.Common.{◌≡◌, ◌++◌, drop}
use Rattle.std.specs.List.{flat_map}
use Rattle.super_rules.specs.Calls.{calls_in}
use Rattle.super_rules.proofs.calls.push_all_calls_in.Given as goal

abbrev pub invariant-loop-member : goal.invariant-loop-member
invariant-loop-member l = l.calls ++ flat_map calls_in (drop l.member-index l.members) ≡ l.fn.calls ++ flat_map calls_in l.members
