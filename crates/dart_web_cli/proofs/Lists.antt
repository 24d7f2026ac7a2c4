-- A list of three.
use Rattle.std.proofs.Common.{◌≡◌, List, [], ◌∷◌, length, Some, arith}
use Rattle.std.specs.Prelude.{slice_get}

pub three : {X : Type 0} → (ws : List X) (a b c : X) → length ws ≡ 3 → slice_get ws 0 ≡ Some a → slice_get ws 1 ≡ Some b → slice_get ws 2 ≡ Some c → ws ≡ a ∷ b ∷ c ∷ []
three [] a b c n x y z = absurd (omega arith)
three (p ∷ []) a b c n x y z = absurd (omega arith)
three (p ∷ q ∷ []) a b c n x y z = absurd (omega arith)
three (p ∷ q ∷ r ∷ []) a b c n x y z = cc
three (p ∷ q ∷ r ∷ s ∷ ws) a b c n x y z = absurd (omega arith)
