-- The list of runs has the innermost first, the vector of the code has it last.
use Rattle.std.proofs.Common.{◌≡◌, List, ℕ, [], ◌∷◌, ◌++◌, ap, ◌∙◌}
use Rattle.std.specs.Prelude.{reverse}
use Rattle.std.proofs.lemmas.List.{reverse-append}

pub pushed : (whole held : List ℕ) (n : ℕ) → whole ≡ held ++ n ∷ [] → reverse whole ≡ n ∷ reverse held
pushed whole held n e = ap reverse e ∙ reverse-append held (n ∷ [])
