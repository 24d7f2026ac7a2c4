-- How the code keeps a folder: its parts with the outermost first.
use Rattle.std.specs.Prelude.{ℕ, Bool, List, map, reverse, Option, Some, None, if◌then◌else◌}
use denote.Ref.{Bor}

-- the parts with the innermost first
abbrev pub inward : List (Bor (List ℕ)) → List (List ℕ)
inward at = reverse (map (λ p. p.now) at)

-- the folder, where it was reached
abbrev pub settled : Bool → List (Bor (List ℕ)) → Option (List (List ℕ))
settled goes at = if goes then Some (inward at) else None
