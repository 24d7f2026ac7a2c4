use Rattle.std.proofs.Common.{◌≡◌, ◌++◌, drop}
use Rattle.copy_rules.specs.Copying.{facts_inside}
use Rattle.copy_rules.proofs.impacts.inside_of.Given as goal

abbrev pub invariant-loop-fact : goal.invariant-loop-fact
invariant-loop-fact l = l.inside ++ facts_inside l.shape (drop l.fact-index l.facts) ≡ facts_inside l.shape l.facts
