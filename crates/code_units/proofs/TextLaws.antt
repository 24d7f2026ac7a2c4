-- The laws between UTF-8 bytes and units.
use Rattle.std.proofs.Common.{IsUtf8, get_or, ◌≡◌, ◌↔◌, Fits, w16, ◌⊎◌, ℕ, suc, ◌+◌, ◌-◌, ◌*◌, ◌^◌, ◌<◌, ◌≤◌, true, false, not, List, [], ◌∷◌, ◌++◌, map, Option, Some, None, refl, sym, ap, ◌∙◌, subst, inl, inr, le-ltb, le-leb, lt-ltb, ⊎_elim, arith, append_assoc}
use Rattle.std.specs.Char.{IsScalar}
use Rattle.std.specs.Char.Escape.{encode_utf16}
use Rattle.std.specs.Char.Utf16.{utf16_chars, utf16_lossy_chars, has_unpaired_surrogate, lone_unit_char, surrogate_pair_char}
use Rattle.std.specs.List.{All, list_any}
use Rattle.std.specs.Option.{unwrap_or, is_some}
use Rattle.std.specs.Str.{IsAscii, all_scalars, chars, encode_utf8_all}
use Rattle.std.proofs.lemmas.Bool.{cases_lt, or_parts}
use Rattle.std.proofs.lemmas.Str.{chars-encodes, chars-append, chars-IsAscii, encodes-chars, scalars-chars, utf16_chars-nil, utf16_chars_lone, utf16_chars_pair}
use Rattle.std.proofs.str.Utf16.{IsPair, one_unit, pair_units, lone_unit_char_low, lone_unit_char_high, lone_unit_char_surrogate}
use Rattle.std.proofs.str.Laws.{both}
use Rattle.std.specs.Cmp.Derive.{both_true}
use Rattle.std.proofs.lemmas.List.Elements.{All-nil, All-head, All-tail, All-from_get_or}
use Rattle.std.proofs.Math.Utf8.{low_scalar}
use Rattle.code_units.specs.Text.{units_of_chars, utf8_of, units_of}
use Rattle.code_units.specs.TextLaws.{Utf8ComesBack, PairedUnitsComeBack, WritesUtf8, ReadsPairs, UnitsTellApart, UnitsJoin, AsciiIsItsUnits}
use Rattle.code_units.proofs.Units.{char_back, chars_back}

pub utf8_comes_back : Utf8ComesBack
utf8_comes_back bytes utf8 = ap encode_utf8_all (chars_back (chars bytes) (scalars-chars bytes utf8)) ∙ encodes-chars bytes utf8

pub units_tell_apart : UnitsTellApart
units_tell_apart a b utf8_a utf8_b same = sym (utf8_comes_back a utf8_a) ∙ ap utf8_of same ∙ utf8_comes_back b utf8_b

units_of_chars-append : (cs ds : List ℕ) → units_of_chars (cs ++ ds) ≡ units_of_chars cs ++ units_of_chars ds
units_of_chars-append [] ds = refl
units_of_chars-append (c ∷ cs) ds = ap (λ units. encode_utf16 c ++ units) (units_of_chars-append cs ds) ∙ sym (append_assoc (encode_utf16 c) (units_of_chars cs) (units_of_chars ds))

pub units_join : UnitsJoin
units_join a b utf8 = ap units_of_chars (chars-append a b utf8) ∙ units_of_chars-append (chars a) (chars b)

units_of_chars-ascii : (cs : List ℕ) → IsAscii cs → units_of_chars cs ≡ cs
units_of_chars-ascii [] ascii = refl
units_of_chars-ascii (c ∷ cs) ascii =
    let first : c < 128 = ascii 0 in
    let small : c < 0x1_0000 = omega arith in
    ap (λ front. front ++ units_of_chars cs) (one_unit c small) ∙ ap (λ rest. c ∷ rest) (units_of_chars-ascii cs (λ i. ascii (suc i)))

pub ascii_is_its_units : AsciiIsItsUnits
ascii_is_its_units bytes ascii = ap units_of_chars (chars-IsAscii bytes ascii) ∙ units_of_chars-ascii bytes ascii

-- no character of the units is missing, where the units are those of characters
chars_paired : (cs : List ℕ) → all_scalars cs ≡ true → has_unpaired_surrogate (units_of_chars cs) ≡ false
chars_paired [] all = ap (list_any (λ o. not (is_some o))) utf16_chars-nil
chars_paired (c ∷ cs) all =
    let parts = both _ _ all in
    ap (list_any (λ o. not (is_some o))) (char_back c (units_of_chars cs) parts.0) ∙ chars_paired cs parts.1

pub reads_pairs : ReadsPairs
reads_pairs bytes utf8 = chars_paired (chars bytes) (scalars-chars bytes utf8)

abbrev IsUnit : ℕ → Type 0
IsUnit u = u < 2 ^ 16

pair_or_not : (u v : ℕ) → IsPair u v ⊎ (¬ (IsPair u v))
pair_or_not u v =
    ⊎_elim (λ (a : u < 0xD800). inr (λ pair. absurd (omega arith))) (λ (from : 0xD800 ≤ u).
    ⊎_elim (λ (below : u < 0xDC00).
    ⊎_elim (λ (b : v < 0xDC00). inr (λ pair. absurd (omega arith))) (λ (from' : 0xDC00 ≤ v).
    ⊎_elim (λ (below' : v < 0xE000). inl (from, below, from', below')) (λ (d : 0xE000 ≤ v). inr (λ pair. absurd (omega arith))) (cases_lt v 0xE000))
    (cases_lt v 0xDC00))
    (λ (c : 0xDC00 ≤ u). inr (λ pair. absurd (omega arith))) (cases_lt u 0xDC00))
    (cases_lt u 0xD800)

-- a unit that is no surrogate, or a surrogate
kind_of : (u : ℕ) → (lone_unit_char u ≡ Some u × ((u < 0xD800) ⊎ (0xE000 ≤ u))) ⊎ (lone_unit_char u ≡ None)
kind_of u =
    ⊎_elim (λ (low : u < 0xD800). inl (lone_unit_char_low u low, inl low)) (λ (from : 0xD800 ≤ u).
    ⊎_elim (λ (below : u < 0xE000). inr (lone_unit_char_surrogate u from below)) (λ (high : 0xE000 ≤ u). inl (lone_unit_char_high u high, inr high)) (cases_lt u 0xE000))
    (cases_lt u 0xD800)

scalar_range : (c : ℕ) → (c < 0xD800) ⊎ (0xE000 ≤ c) → c < 0x11_0000 → IsScalar c
scalar_range c range below =
    ⊎_elim
    (λ (low : c < 0xD800). low_scalar c low)
    (λ (high : 0xE000 ≤ c). let past : 55296 ≤ c = omega arith in rw (le-ltb c 55296 past, le-leb 57344 c high, lt-ltb c 1114112 below) refl)
    range

lone_scalar : (u : ℕ) → IsUnit u → IsScalar (unwrap_or (lone_unit_char u) 0xFFFD)
lone_scalar u small =
    ⊎_elim
    (λ (itself : lone_unit_char u ≡ Some u × ((u < 0xD800) ⊎ (0xE000 ≤ u))).
    let below : u < 0x11_0000 = omega arith in
    subst (λ (o : Option ℕ). IsScalar (unwrap_or o 0xFFFD)) (sym itself.0) (scalar_range u itself.1 below))
    (λ (none : lone_unit_char u ≡ None). subst (λ (o : Option ℕ). IsScalar (unwrap_or o 0xFFFD)) (sym none) refl)
    (kind_of u)

pair_scalar : (u v : ℕ) → IsPair u v → IsScalar (surrogate_pair_char u v)
pair_scalar u v pair =
    let high : 0xE000 ≤ surrogate_pair_char u v = omega arith in
    let below : surrogate_pair_char u v < 0x11_0000 = omega arith in
    scalar_range _ (inr high) below

more_scalars : (os rest : List (Option ℕ)) (o : Option ℕ) → os ≡ o ∷ rest → IsScalar (unwrap_or o 0xFFFD)
    → all_scalars (map (λ o. unwrap_or o 0xFFFD) rest) ≡ true → all_scalars (map (λ o. unwrap_or o 0xFFFD) os) ≡ true
more_scalars os rest o is first all = ap (λ os. all_scalars (map (λ o. unwrap_or o 0xFFFD) os)) is ∙ both_true first all

lossy_scalars : (units : List ℕ) → All IsUnit units → all_scalars (utf16_lossy_chars units) ≡ true
lossy_scalars [] all = ap (λ os. all_scalars (map (λ o. unwrap_or o 0xFFFD) os)) utf16_chars-nil
lossy_scalars (u ∷ []) all =
    let alone : ¬ (IsPair u 0) = λ pair. absurd (omega arith) in
    more_scalars _ _ _ (utf16_chars_lone u [] alone) (lone_scalar u (All-head IsUnit u [] all)) (lossy_scalars [] (All-nil IsUnit))
lossy_scalars (u ∷ v ∷ us) all =
    let rest = All-tail IsUnit u (v ∷ us) all in
    go (lossy_scalars us (All-tail IsUnit v us rest)) (lossy_scalars (v ∷ us) rest) where
      go : all_scalars (utf16_lossy_chars us) ≡ true → all_scalars (utf16_lossy_chars (v ∷ us)) ≡ true → all_scalars (utf16_lossy_chars (u ∷ v ∷ us)) ≡ true
      go after_two after_one =
          ⊎_elim
          (λ (pair : IsPair u v). more_scalars _ _ _ (utf16_chars_pair u v us pair) (pair_scalar u v pair) after_two)
          (λ (alone : ¬ (IsPair u v)). more_scalars _ _ _ (utf16_chars_lone u (v ∷ us) alone) (lone_scalar u (All-head IsUnit u (v ∷ us) all)) after_one)
          (pair_or_not u v)

pub writes_utf8 : WritesUtf8
writes_utf8 units all = (utf16_lossy_chars units, (lossy_scalars units all, refl))

lone_back : (u : ℕ) (units : List ℕ) → IsUnit u → utf16_chars (u ∷ units) ≡ lone_unit_char u ∷ utf16_chars units
    → (has_unpaired_surrogate units ≡ false → units_of_chars (utf16_lossy_chars units) ≡ units)
    → has_unpaired_surrogate (u ∷ units) ≡ false → units_of_chars (utf16_lossy_chars (u ∷ units)) ≡ u ∷ units
lone_back u units small is rest paired =
    let parts = or_parts _ _ (sym (ap (list_any (λ o. not (is_some o))) is) ∙ paired) in
    ⊎_elim
    (λ (itself : lone_unit_char u ≡ Some u × ((u < 0xD800) ⊎ (0xE000 ≤ u))).
    ap (λ os. units_of_chars (map (λ o. unwrap_or o 0xFFFD) os)) (is ∙ ap (λ o. o ∷ utf16_chars units) itself.0)
    ∙ ap (λ front. front ++ units_of_chars (utf16_lossy_chars units)) (one_unit u small) ∙ ap (λ more. u ∷ more) (rest parts.1))
    (λ (none : lone_unit_char u ≡ None). let missing = sym (ap (λ o. not (is_some o)) none) ∙ parts.0 in absurd (cc missing))
    (kind_of u)

two_back : (u v : ℕ) (units : List ℕ) → IsPair u v → (has_unpaired_surrogate units ≡ false → units_of_chars (utf16_lossy_chars units) ≡ units)
    → has_unpaired_surrogate (u ∷ v ∷ units) ≡ false → units_of_chars (utf16_lossy_chars (u ∷ v ∷ units)) ≡ u ∷ v ∷ units
two_back u v units pair rest paired =
    let is = utf16_chars_pair u v units pair in
    let regroup : surrogate_pair_char u v ≡ 0x1_0000 + ((u - 0xD800) * 0x400 + (v - 0xDC00)) = omega arith in
    let after : has_unpaired_surrogate units ≡ false = sym (ap (list_any (λ o. not (is_some o))) is) ∙ paired in
    ap (λ os. units_of_chars (map (λ o. unwrap_or o 0xFFFD) os)) is
    ∙ ap (λ front. front ++ units_of_chars (utf16_lossy_chars units)) (ap encode_utf16 regroup ∙ pair_units u v pair.0 pair.2 pair.3)
    ∙ ap (λ more. u ∷ v ∷ more) (rest after)

units_back : (units : List ℕ) → All IsUnit units → has_unpaired_surrogate units ≡ false → units_of_chars (utf16_lossy_chars units) ≡ units
units_back [] all paired = ap (λ os. units_of_chars (map (λ o. unwrap_or o 0xFFFD) os)) utf16_chars-nil
units_back (u ∷ []) all paired =
    let alone : ¬ (IsPair u 0) = λ pair. absurd (omega arith) in
    lone_back u [] (All-head IsUnit u [] all) (utf16_chars_lone u [] alone) (λ none. units_back [] (All-nil IsUnit) none) paired
units_back (u ∷ v ∷ us) all paired =
    let rest = All-tail IsUnit u (v ∷ us) all in
    go (units_back us (All-tail IsUnit v us rest)) (units_back (v ∷ us) rest) where
      go : (has_unpaired_surrogate us ≡ false → units_of_chars (utf16_lossy_chars us) ≡ us)
          → (has_unpaired_surrogate (v ∷ us) ≡ false → units_of_chars (utf16_lossy_chars (v ∷ us)) ≡ v ∷ us)
          → units_of_chars (utf16_lossy_chars (u ∷ v ∷ us)) ≡ u ∷ v ∷ us
      go after_two after_one =
          ⊎_elim
          (λ (pair : IsPair u v). two_back u v us pair after_two paired)
          (λ (alone : ¬ (IsPair u v)). lone_back u (v ∷ us) (All-head IsUnit u (v ∷ us) all) (utf16_chars_lone u (v ∷ us) alone) after_one paired)
          (pair_or_not u v)

pub paired_units_come_back : PairedUnitsComeBack
paired_units_come_back units all paired =
    ap units_of_chars (chars-encodes (utf16_lossy_chars units) (lossy_scalars units all)) ∙ units_back units all paired

-- Units are those of a text exactly where none of them is a lone surrogate and their UTF-8 is the text.
pub same_units_same_utf8 : (units text : List ℕ) → ((i : ℕ) → Fits w16 (get_or units i 0)) → IsUtf8 text
    → (units ≡ units_of text) ↔ ((has_unpaired_surrogate units ≡ false) × (utf8_of units ≡ text))
same_units_same_utf8 units text fit utf8 = (
  λ same. (ap has_unpaired_surrogate same ∙ reads_pairs text utf8, ap utf8_of same ∙ utf8_comes_back text utf8),
  λ spelled. sym (paired_units_come_back units (All-from_get_or IsUnit units 0 (λ i lt. let fits = fit i in omega (arith, fits))) spelled.0) ∙ ap units_of spelled.1,
)
