use Rattle.std.proofs.Common.{◌≡◌, map, drop}
use Rattle.dart_program.specs.Paths as spec
use Rattle.dart_program.specs.Folders.{inward}
use Rattle.dart_program.proofs.paths.walk.Given as goal

-- where what is left leads to from here, all leads to
abbrev pub invariant-loop-part : goal.invariant-loop-part
invariant-loop-part l = spec.walk (inward l.at.items) (map (λ p. p.now) (drop l.part-index l.parts)) ≡ spec.walk (inward l.fn.at.items) (map (λ p. p.now) l.parts)
