use Rattle.std.proofs.Common.{◌≡◌, ◌+◌, drop, length}
use Rattle.std.specs.Prelude.{filter, nat_lt, if◌then◌else◌}
use Rattle.body_rules.specs.Constructors.{is_super_call}
use Rattle.body_rules.proofs.constructors.are_several.Given as goal

abbrev pub invariant-loop-initialiser : goal.invariant-loop-initialiser
invariant-loop-initialiser l = nat_lt 1 ((if l.has_one then 1 else 0) + length (filter is_super_call (drop l.initialiser-index l.initialisers))) ≡ nat_lt 1 (length (filter is_super_call l.initialisers))
