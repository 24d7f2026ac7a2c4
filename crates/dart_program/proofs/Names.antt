-- The names that mean the prelude.
use Rattle.std.proofs.Common.{◌≡◌, ℕ, Bool, true, false, List, IsTrue, ◌↔◌, refl, sym, ap, ◌∙◌, arith}
use Rattle.std.specs.Prelude.{codes, ◌||◌}
use Rattle.std.specs.Str.{bytes_eq, chars}
use Rattle.std.proofs.lemmas.Slice.Eq.{bytes_eq-Decides}
use Rattle.code_units.specs.Text.{units_of}
use Rattle.dart_program.specs.Paths.{is_core}

core_units : units_of (codes "dart:core") ≡ codes "dart:core"
unfolding chars
core_units = refl

async_units : units_of (codes "dart:async") ≡ codes "dart:async"
unfolding chars
async_units = refl

tells : (u t : List ℕ) (b : Bool) → IsTrue b ↔ (u ≡ t) → b ≡ bytes_eq u t
tells u t true h = grind (arith, bytes_eq-Decides)
tells u t false h = grind (arith, bytes_eq-Decides)

is_core_by : (u : List ℕ) (a : Bool) → IsTrue a ↔ (u ≡ units_of (codes "dart:core")) → a ≡ bytes_eq u (codes "dart:core")
is_core_by u a h = tells u (codes "dart:core") a (rw core_units at h)

is_async_by : (u : List ℕ) (a : Bool) → IsTrue a ↔ (u ≡ units_of (codes "dart:async")) → a ≡ bytes_eq u (codes "dart:async")
is_async_by u a h = tells u (codes "dart:async") a (rw async_units at h)

pub is_first : (u : List ℕ) (a : Bool) → IsTrue a ↔ (u ≡ units_of (codes "dart:core")) → a ≡ true → a ≡ is_core u
is_first u a h t = t ∙ ap (λ b. b || bytes_eq u (codes "dart:async")) (sym t ∙ is_core_by u a h)

pub is_second : (u : List ℕ) (a b : Bool) → IsTrue a ↔ (u ≡ units_of (codes "dart:core")) → a ≡ false → IsTrue b ↔ (u ≡ units_of (codes "dart:async")) → b ≡ is_core u
is_second u a b h f k = is_async_by u b k ∙ ap (λ c. c || bytes_eq u (codes "dart:async")) (sym f ∙ is_core_by u a h)
