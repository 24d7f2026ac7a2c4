-- Texts with commas between: what is left of them.
use Rattle.std.proofs.Common.{◌≡◌, Bool, true, false, if◌then◌else◌, List, [], ◌∷◌, ◌++◌, refl, sym, ap}
use Rattle.std.specs.Prelude.{codes}
use Rattle.std.proofs.lemmas.List.{append-nil}
use Rattle.js_tree.specs.Tokens.{Bytes}
use Rattle.js_tree.specs.Text.{separated}

-- these texts, of which the first stands behind nothing or behind others
abbrev pub listed : Bool → List Bytes → Bytes
listed is_first [] = []
listed is_first (x ∷ xs) = (if is_first then [] else codes ", ") ++ (x ++ listed false xs)

pub separated_listed : (xs : List Bytes) → separated xs ≡ listed true xs
separated_listed [] = refl
separated_listed (x ∷ []) = sym (append-nil x)
separated_listed (x ∷ y ∷ xs) = ap (λ text. x ++ (codes ", " ++ text)) (separated_listed (y ∷ xs))
