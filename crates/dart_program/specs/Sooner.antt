-- The first of some refusals, found by comparing them one after another.
use Rattle.std.specs.Prelude.{ℕ, ◌==◌, Bool, not, ◌&&◌, ◌||◌, if◌then◌else◌, nat_lt, List, [], ◌∷◌, Option, Some, None}
use Rattle.dart_syntax.specs.declared.rules.Refusal.{Refusal}
use Rattle.dart_program.specs.First.{phase_of, number_of}

-- whether m is below n, or they are equal and this holds
abbrev pub is_below_or : ℕ → ℕ → Bool → Bool
is_below_or m n holds = nat_lt m n || (m == n && holds)

abbrev pub comes_first : Refusal → Refusal → Bool
comes_first x y =
    is_below_or (phase_of x.rule) (phase_of y.rule) (is_below_or x.file y.file (is_below_or x.at y.at (not (nat_lt (number_of y.rule) (number_of x.rule)))))

abbrev pub sooner : Option Refusal → Refusal → Option Refusal
sooner None x = Some x
sooner (Some y) x = if comes_first y x then Some y else Some x

abbrev pub first_of : Option Refusal → Option Refusal → Option Refusal
first_of one None = one
first_of one (Some x) = sooner one x

-- the first one of these and of one that was found before
abbrev pub first_with : Option Refusal → List Refusal → Option Refusal
first_with found [] = found
first_with found (x ∷ xs) = first_with (sooner found x) xs
