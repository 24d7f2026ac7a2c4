use Rattle.std.proofs.Common.{◌≡◌, ◌++◌}
use Rattle.copy_rules.specs.Copying.{kinds_in}
use Rattle.copy_rules.proofs.impacts.give.Given as goal

abbrev pub invariant-loop-kind : goal.invariant-loop-kind
invariant-loop-kind l = l.facts ≡ l.fn.facts ++ kinds_in l.mask l.slot l.kind
