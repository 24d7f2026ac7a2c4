-- Values of few digits, and digits that are all of a kind.
use Rattle.std.proofs.Common.{◌≡◌, ℕ, suc, ◌≤◌, Bool, true, false, [], ◌∷◌, length, None, refl, inl, inr, arith}
use Rattle.std.specs.Prelude.{min, ◌==◌}
use Rattle.std.specs.List.{list_all}
use Rattle.std.proofs.lemmas.Bool.Decides.{nat_tests}
use denote.Enum.Bare.{sameb}
use Rattle.dart_syntax.specs.contracts.words.Word as word
use Rattle.dart_syntax.specs.declared.words.Word.{Word}
use Rattle.dart_syntax.specs.declared.words.Word.TheVariants as w
use Rattle.dart_syntax.specs.Table.{Bytes, is_hex, digit_of, back, value_from}
use Rattle.dart_syntax.specs.Texts.{this_alone}
use Rattle.dart_syntax.specs.Reader.{capped_from}
use Rattle.dart_syntax.proofs.Fronts.{tells, and_left, and_right}
use Rattle.dart_syntax.proofs.Numbers.{capped}

some_left : (n : ℕ) → (suc n == 0) ≡ false
some_left n = grind (arith, nat_tests)

pub all_is : (p : ℕ → Bool) (t : Bytes) → (length (back p t) == 0) ≡ list_all p t
all_is p [] = refl
all_is p (b ∷ t) = elim (tells (p b)) [ inl e ↦ rw e (all_is p t) | inr e ↦ rw e (some_left (length t)) ]

pub capped_value : (t : Bytes) → capped_from 16 0 t ≡ min (value_from 16 0 t) 9007199254740992
capped_value t = capped 16 0 0 t (inr refl) (omega arith)

hex_small : (b : ℕ) → is_hex b ≡ true → digit_of b ≤ 15
hex_small b h = grind (arith, nat_tests)

first_small : (b : ℕ) (t : Bytes) → list_all is_hex (b ∷ t) ≡ true → digit_of b ≤ 15
first_small b t h = hex_small b (and_left (is_hex b) (list_all is_hex t) h)

others : (b : ℕ) (t : Bytes) → list_all is_hex (b ∷ t) ≡ true → list_all is_hex t ≡ true
others b t h = and_right (is_hex b) (list_all is_hex t) h

small_value : (t : Bytes) → length t ≤ 4 → list_all is_hex t ≡ true → value_from 16 0 t ≤ 65535
small_value [] l h = omega arith
small_value (a ∷ []) l h = let x = first_small a [] h in omega arith
small_value (a ∷ b ∷ []) l h = let x = first_small a (b ∷ []) h in let y = first_small b [] (others a (b ∷ []) h) in omega arith
small_value (a ∷ b ∷ c ∷ []) l h =
    let more = others a (b ∷ c ∷ []) h in
    let x = first_small a (b ∷ c ∷ []) h in let y = first_small b (c ∷ []) more in let z = first_small c [] (others b (c ∷ []) more) in omega arith
small_value (a ∷ b ∷ c ∷ d ∷ []) l h =
    let more = others a (b ∷ c ∷ d ∷ []) h in
    let last = others b (c ∷ d ∷ []) more in
    let x = first_small a (b ∷ c ∷ d ∷ []) h in let y = first_small b (c ∷ d ∷ []) more in let z = first_small c (d ∷ []) last in let v = first_small d [] (others c (d ∷ []) last) in omega arith
small_value (a ∷ b ∷ c ∷ d ∷ e ∷ t) l h = absurd (omega arith)

-- up to four digits write a unit
pub short_value : (t : Bytes) → length t ≤ 4 → list_all is_hex t ≡ true → min (capped_from 16 0 t) 65535 ≡ value_from 16 0 t
short_value t l h = let s = small_value t l h in let c = capped_value t in omega arith

pub other_word : (x : Word) → sameb word.the_type x w.This ≡ false → this_alone x ≡ None
other_word w.This h = absurd cc
other_word _ h = refl
