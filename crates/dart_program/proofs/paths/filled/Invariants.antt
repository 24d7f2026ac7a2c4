use Rattle.std.proofs.Common.{◌≡◌, ◌++◌, map, filter, not, drop}
use Rattle.dart_program.specs.Paths as spec
use Rattle.dart_program.proofs.paths.filled.Given as goal

-- what is kept so far, and what is kept of what is left
abbrev pub invariant-loop-part : goal.invariant-loop-part
invariant-loop-part l = map (λ p. p.now) l.filled.items ++ filter (λ p. not (spec.is_empty p)) (map (λ p. p.now) (drop l.part-index l.parts))
    ≡ filter (λ p. not (spec.is_empty p)) (map (λ p. p.now) l.parts)
