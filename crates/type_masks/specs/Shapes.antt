-- How shapes are told apart.
use Rattle.std.specs.Prelude.{ℕ, refl}
use Rattle.std.specs.Coded.{Coded, code_by, coded×, coded_ℕ}
use Rattle.type_masks.specs.declared.shape.Shape.{Shape}

abbrev pub coded_Shape : Coded Shape
coded_Shape = code_by (ℕ × (ℕ × ℕ)) (coded× coded_ℕ (coded× coded_ℕ coded_ℕ)) (λ s. (s.members, (s.slots, s.kinds))) (λ p. record { members = p.0; slots = p.1.0; kinds = p.1.1 }) (λ _. refl)
