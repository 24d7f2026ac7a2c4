-- The units of characters, and the characters of these units.
use Rattle.std.proofs.Common.{◌≡◌, ◌↔◌, ◌==◌, Bool, IsTrue, eqb-true, ◌⊎◌, ℕ, ◌+◌, ◌-◌, ◌/◌, ◌%◌, ◌<◌, ◌≤◌, true, List, [], ◌∷◌, ◌++◌, length, get_or, map, Some, sym, ap, ◌∙◌, ⊎_elim, arith, append_assoc, length-append, le-ltb, lit≤}
use Rattle.std.specs.Char.{IsScalar, encode_utf8}
use Rattle.std.specs.Char.Escape.{encode_utf16}
use Rattle.std.specs.Char.Utf16.{utf16_chars, lone_unit_char, surrogate_pair_char, utf16_lossy_chars}
use Rattle.std.specs.Option.{unwrap_or}
use Rattle.std.specs.Str.{IsUtf8, all_scalars}
use Rattle.std.proofs.lemmas.Bool.{cases_lt}
use Rattle.std.proofs.lemmas.List.{append-nil, append_cancel_left, nil_from_length}
use Rattle.std.proofs.lemmas.Str.{length-encode, len_utf8_bounds, chars-nil, chars_past_char, utf16_chars-nil, utf16_chars_lone, utf16_chars_pair}
use Rattle.std.proofs.str.Utf16.{IsPair, one_unit, two_units, lone_unit_char_low, lone_unit_char_high}
use Rattle.std.proofs.str.Laws.{both}
use Rattle.std.proofs.Math.Utf8.{scalar_cases}
use Rattle.code_units.specs.Text.{units_of_chars, units_of}

pub units_of-nil : (bytes : List ℕ) → length bytes ≡ 0 → units_of bytes ≡ []
units_of-nil [] empty = ap units_of_chars chars-nil
units_of-nil (b ∷ bytes) empty = absurd (omega arith)

pub units_of_past_char : (bytes rest : List ℕ) (c : ℕ) → IsUtf8 bytes → bytes ≡ encode_utf8 c ++ rest → units_of bytes ≡ encode_utf16 c ++ units_of rest
units_of_past_char bytes rest c utf8 is = ap units_of_chars (chars_past_char bytes rest c utf8 is)

module _ (c : ℕ) (units : List ℕ) where
  one_back : (c < 0xD800) ⊎ ((0xE000 ≤ c) × (c < 0x11_0000)) → c < 0x1_0000 → utf16_chars (c ∷ units) ≡ Some c ∷ utf16_chars units
  one_back ranges small =
      let alone : ¬ (IsPair c (get_or units 0 0)) = λ pair. ⊎_elim (λ (low : c < 0xD800). absurd (omega arith)) (λ (high : (0xE000 ≤ c) × (c < 0x11_0000)). absurd (omega arith)) ranges in
      let itself : lone_unit_char c ≡ Some c = ⊎_elim (λ (low : c < 0xD800). lone_unit_char_low c low) (λ (high : (0xE000 ≤ c) × (c < 0x11_0000)). lone_unit_char_high c high.0) ranges in
      utf16_chars_lone c units alone ∙ ap (λ o. o ∷ utf16_chars units) itself

  two_back : 0x1_0000 ≤ c → c < 0x11_0000 → utf16_chars ((0xD800 + (c - 0x1_0000) / 0x400) ∷ (0xDC00 + (c - 0x1_0000) % 0x400) ∷ units) ≡ Some c ∷ utf16_chars units
  two_back from below =
      let pair : IsPair (0xD800 + (c - 0x1_0000) / 0x400) (0xDC00 + (c - 0x1_0000) % 0x400) = (omega arith, omega arith, omega arith, omega arith) in
      let again : surrogate_pair_char (0xD800 + (c - 0x1_0000) / 0x400) (0xDC00 + (c - 0x1_0000) % 0x400) ≡ c = omega arith in
      utf16_chars_pair _ _ units pair ∙ ap (λ d. Some d ∷ utf16_chars units) again

  -- the units of a character spell it again
  pub char_back : IsScalar c → utf16_chars (encode_utf16 c ++ units) ≡ Some c ∷ utf16_chars units
  char_back scalar =
      let ranges = scalar_cases c scalar in
      ⊎_elim
      (λ (small : c < 0x1_0000). ap (λ front. utf16_chars (front ++ units)) (one_unit c small) ∙ one_back ranges small)
      (λ (large : 0x1_0000 ≤ c).
      let below : c < 0x11_0000 = ⊎_elim (λ (low : c < 0xD800). omega arith) (λ (high : (0xE000 ≤ c) × (c < 0x11_0000)). high.1) ranges in
      ap (λ front. utf16_chars (front ++ units)) (two_units c large) ∙ two_back large below)
      (cases_lt c 0x1_0000)

-- the units of characters spell them again
pub chars_back : (cs : List ℕ) → all_scalars cs ≡ true → utf16_lossy_chars (units_of_chars cs) ≡ cs
chars_back [] all = ap (λ os. map (λ o. unwrap_or o 0xFFFD) os) utf16_chars-nil
chars_back (c ∷ cs) all =
    let parts = both _ _ all in
    ap (λ os. map (λ o. unwrap_or o 0xFFFD) os) (char_back c (units_of_chars cs) parts.0) ∙ ap (λ ds. c ∷ ds) (chars_back cs parts.1)

-- a character has no more units than bytes
pub length-units_le : (c : ℕ) → length (encode_utf16 c) ≤ length (encode_utf8 c)
length-units_le c =
    ⊎_elim
    (λ (small : c < 0x1_0000). rw (one_unit c small, length-encode c) (len_utf8_bounds c).0)
    (λ (large : 0x1_0000 ≤ c).
    let a : 0x80 ≤ c = omega arith in
    let b : 0x800 ≤ c = omega arith in
    rw (two_units c large, length-encode c, le-ltb c 0x80 a, le-ltb c 0x800 b, le-ltb c 0x1_0000 large) (lit≤ tt))
    (cases_lt c 0x1_0000)

-- one more character is read: what was made, with the units of what is left, is still the whole
pub whole_more : (whole made next before after : List ℕ) (c : ℕ) → IsUtf8 before → before ≡ encode_utf8 c ++ after
    → whole ≡ made ++ units_of before → next ≡ made ++ encode_utf16 c → whole ≡ next ++ units_of after
whole_more whole made next before after c utf8 is so_far more =
    so_far ∙ ap (λ units. made ++ units) (units_of_past_char before after c utf8 is) ∙ sym (append_assoc made (encode_utf16 c) (units_of after))
    ∙ ap (λ units. units ++ units_of after) (sym more)

-- no text is left
pub whole_made : (whole made before : List ℕ) → length before ≡ 0 → whole ≡ made ++ units_of before → made ≡ whole
whole_made whole made before empty so_far = sym (so_far ∙ ap (λ units. made ++ units) (units_of-nil before empty) ∙ append-nil made)

-- and one character less is left: the units still fit
pub fits_more : (len capacity : ℕ) (before after : List ℕ) (c : ℕ) → before ≡ encode_utf8 c ++ after → len + length before ≤ capacity
    → len + length (encode_utf16 c) + length after ≤ capacity
fits_more len capacity before after c is fits = omega (arith, length-units_le c, ap length is, length-append (encode_utf8 c) after)

-- Both have the same front; behind it stand the rest of the units, and a character of the text. Where the rest does
-- not begin with its units, the two differ.
pub differs_here : (self text front rest before after : List ℕ) (c : ℕ) → IsUtf8 before → before ≡ encode_utf8 c ++ after
    → self ≡ front ++ rest → units_of text ≡ front ++ units_of before → ((more : List ℕ) → ¬ (rest ≡ encode_utf16 c ++ more)) → ¬ (self ≡ units_of text)
differs_here self text front rest before after c utf8 is own whole other same =
    other (units_of after) (append_cancel_left front _ _ (sym own ∙ same ∙ whole) ∙ units_of_past_char before after c utf8 is)

-- no text is left: the two are the same where no unit is left
pub same_at_end : (self text front rest before : List ℕ) (none : Bool) → length before ≡ 0 → none ≡ (length rest == 0)
    → self ≡ front ++ rest → units_of text ≡ front ++ units_of before → IsTrue none ↔ (self ≡ units_of text)
same_at_end self text front rest before none empty is own whole =
    let whole' : front ≡ units_of text = whole_made (units_of text) front before empty whole in (
      λ yes.
          let nil : rest ≡ [] = nil_from_length rest (eqb-true (length rest) 0 (sym is ∙ yes)) in
          own ∙ ap (λ units. front ++ units) nil ∙ append-nil front ∙ whole',
      λ same.
          let nil : rest ≡ [] = append_cancel_left front _ _ (sym own ∙ same ∙ sym whole' ∙ sym (append-nil front)) in
          is ∙ ap (λ (units : List ℕ). length units == 0) nil,
    )
