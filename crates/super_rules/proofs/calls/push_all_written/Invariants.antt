use Rattle.std.proofs.Common.{◌≡◌, ◌++◌, drop}
use Rattle.std.specs.List.{flat_map}
use Rattle.super_rules.specs.Calls.{written_by}
use Rattle.super_rules.proofs.calls.push_all_written.Given as goal

abbrev pub invariant-loop-initialiser : goal.invariant-loop-initialiser
invariant-loop-initialiser l = l.calls ++ flat_map written_by (drop l.initialiser-index l.initialisers) ≡ l.fn.calls ++ flat_map written_by l.initialisers
