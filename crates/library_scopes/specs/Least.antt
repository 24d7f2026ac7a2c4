-- The least of places.
use Rattle.std.specs.Prelude.{ℕ, List, [], ◌∷◌, Option, Some, None, if◌then◌else◌, nat_lt}

abbrev pub lesser : Option ℕ → ℕ → Option ℕ
lesser None p = Some p
lesser (Some q) p = if nat_lt p q then Some p else Some q

-- the least of one, where there is one, and of others
abbrev pub least_with : Option ℕ → List ℕ → Option ℕ
least_with one [] = one
least_with one (p ∷ ps) = least_with (lesser one p) ps

abbrev pub least : List ℕ → Option ℕ
least ps = least_with None ps
