use Rattle.std.proofs.Common.{◌≡◌, ◌++◌, ◌∷◌, map, drop}
use Rattle.std.specs.Prelude.{flat_map}
use Rattle.dart_program.specs.Paths as spec
use Rattle.dart_program.proofs.paths.push_behind.Given as goal

-- what is added so far, and what is left
abbrev pub invariant-loop-part : goal.invariant-loop-part
invariant-loop-part l = l.name.items ++ flat_map (λ q. spec.slash ∷ q) (map (λ p. p.now) (drop l.part-index l.parts))
    ≡ l.fn.name.items ++ flat_map (λ q. spec.slash ∷ q) (map (λ p. p.now) l.parts)
