-- Numbers: the longest that is spelled is what is read.
use Rattle.std.proofs.Common.{◌≡◌, ℕ, ◌+◌, ◌*◌, ◌<◌, ◌≤◌, true, false, [], ◌∷◌, ◌++◌, drop, refl, sym, ap, ◌∙◌, subst, ◌⊎◌, inl, inr, arith}
use Rattle.std.specs.Prelude.{min, ◌&&◌, ◌==◌}
use Rattle.std.specs.List.{list_all}
use Rattle.std.proofs.lemmas.Bool.{le-leb}
use Rattle.std.proofs.lemmas.Bool.Decides.{nat_tests}
use Rattle.dart_syntax.specs.declared.tokens.Form.{Form}
use Rattle.dart_syntax.specs.declared.tokens.Form.TheVariants.{Name, Word as Reserved, Number, Sign as Signed}
use Rattle.dart_syntax.specs.declared.rules.Rule.TheVariants as r
use Rattle.dart_syntax.specs.Table.{Bytes, is_digit, is_start, is_hex, is_blank, front, back, is_identifier, is_digits, is_x, is_hexadecimal, digit_of, value_from, IsDecimal, IsHexadecimal, Spells, IsLongest, limit, goes_on_as_double}
use Rattle.dart_syntax.specs.Reader.{Found, Broken, capped_from, numbered, begins_hex, decimal_step, hexadecimal_step, number_step, step}
use Rattle.dart_syntax.proofs.Fronts.{tells, clash, and_left, and_right, both_true, front-back, front_all, Stops, back_stops, front_is, back_is, all_more, all_behind, no_more}
use Rattle.dart_syntax.proofs.Lookups.{word_shape, begins_plain, sign_shape, plain_of}

-- ---- bytes

pub digit_no_blank : (b : ℕ) → is_digit b ≡ true → is_blank b ≡ false
digit_no_blank b h = grind (arith, nat_tests)

pub digit_no_start : (b : ℕ) → is_digit b ≡ true → is_start b ≡ false
digit_no_start b h = grind (arith, nat_tests)

digit_no_x : (b : ℕ) → is_digit b ≡ true → is_x b ≡ false
digit_no_x b h = grind (arith, nat_tests)

zero_digit : (b : ℕ) → (b == 48) ≡ true → is_digit b ≡ true
zero_digit b h = grind (arith, nat_tests)

-- ---- what is spelled and begins with a digit is a number

abbrev pub IsNumber : Bytes → ℕ → Type 0
IsNumber t v = IsDecimal t v ⊎ IsHexadecimal t v

hex_second : (a x : ℕ) (u : Bytes) → is_hexadecimal (a ∷ x ∷ u) ≡ true → is_x x ≡ true
hex_second a x [] h = absurd cc
hex_second a x (d ∷ u) h = and_right _ _ (and_left _ _ h)

hex_first : (a : ℕ) (u : Bytes) → is_hexadecimal (a ∷ u) ≡ true → is_digit a ≡ true
hex_first a [] h = absurd cc
hex_first a (x ∷ []) h = absurd cc
hex_first a (x ∷ d ∷ u) h = zero_digit a (and_left _ _ (and_left _ _ h))

pub number_some : (v : ℕ) → IsNumber [] v → ⊥
number_some v (inl d) = cc d.0
number_some v (inr x) = cc x.0

pub number_head : (b : ℕ) (u : Bytes) (v : ℕ) → IsNumber (b ∷ u) v → is_digit b ≡ true
number_head b u v (inl d) = and_left _ _ d.0
number_head b u v (inr x) = hex_first b u x.0

pub digit_like : (b : ℕ) (u : Bytes) (form : Form) → is_digit b ≡ true → Spells (b ∷ u) form → (v : ℕ) × (form ≡ Number v) × IsNumber (b ∷ u) v
digit_like b u (Name x) h s = absurd (clash (and_left _ _ s.1) (digit_no_start b h))
digit_like b u (Number v) h s = (v, refl, s)
digit_like b u (Reserved x) h s = absurd (let i : is_identifier (b ∷ u) ≡ true = subst (λ (t : Bytes). is_identifier t ≡ true) (sym s) (word_shape x) in clash (and_left _ _ i) (digit_no_start b h))
digit_like b u (Signed x) h s = absurd (let p = plain_of b (subst (λ (t : Bytes). begins_plain t ≡ true) (sym s) (sign_shape x)) in clash h p.no_digit)
digit_like b u _ h s = absurd s

-- ---- decimal numbers

decimal_stops : (b : ℕ) (u rest : Bytes) → is_digits (b ∷ u) ≡ true → IsLongest (b ∷ u) rest → Stops is_digit rest
decimal_stops b u rest i l c more e = elim (tells (is_digit c)) [
  | inr n ↦ n
  | inl p ↦ absurd (
      let longer : is_digits (b ∷ (u ++ c ∷ [])) ≡ true = both_true (and_left _ _ i) (all_more is_digit u (c ∷ []) (and_right _ _ i) (rw p refl)) in
      let no : c ∷ [] ≡ [] = l (c ∷ []) more (Number (value_from 10 0 (b ∷ (u ++ c ∷ [])))) e (inl (longer, refl)) in
      cc)
]

hex_begins : (a x d : ℕ) (u rest : Bytes) → is_hexadecimal (a ∷ x ∷ d ∷ u) ≡ true → begins_hex (a ∷ x ∷ d ∷ rest) ≡ true
hex_begins a x d u rest h =
    let digits : (is_hex d && list_all is_hex u) ≡ true = and_right (a == 48 && is_x x) (is_hex d && list_all is_hex u) h in
    let first : (a == 48 && is_x x) ≡ true = and_left (a == 48 && is_x x) (is_hex d && list_all is_hex u) h in
    both_true first (and_left (is_hex d) (list_all is_hex u) digits)

begins_second : (a x : ℕ) (u : Bytes) → begins_hex (a ∷ x ∷ u) ≡ true → is_x x ≡ true
begins_second a x [] h = absurd cc
begins_second a x (d ∷ u) h = and_right _ _ (and_left _ _ h)

decimal_no_hex : (b : ℕ) (u rest : Bytes) → is_digits (b ∷ u) ≡ true → IsLongest (b ∷ u) rest → begins_hex (b ∷ (u ++ rest)) ≡ false
decimal_no_hex b (c ∷ u) rest i l = elim (tells (begins_hex (b ∷ c ∷ (u ++ rest)))) [
  | inr n ↦ n
  | inl h ↦ absurd (clash (begins_second b c (u ++ rest) h) (digit_no_x c (and_left _ _ (and_right _ _ i))))
]
decimal_no_hex b [] [] i l = refl
decimal_no_hex b [] (x ∷ []) i l = refl
decimal_no_hex b [] (x ∷ d ∷ rest) i l = elim (tells (begins_hex (b ∷ x ∷ d ∷ rest))) [
  | inr n ↦ n
  | inl h ↦ absurd (
      let longer : is_hexadecimal (b ∷ x ∷ d ∷ []) ≡ true = both_true (and_left _ _ h) (both_true (and_right _ _ h) refl) in
      let no : x ∷ d ∷ [] ≡ [] = l (x ∷ d ∷ []) rest (Number (value_from 16 0 (d ∷ []))) refl (inr (longer, refl)) in
      cc)
]

no_longer_hex : (b : ℕ) (u rest more after : Bytes) → is_digits (b ∷ u) ≡ true → begins_hex (b ∷ (u ++ rest)) ≡ false → rest ≡ more ++ after → is_hexadecimal (b ∷ (u ++ more)) ≡ true → more ≡ []
no_longer_hex b u rest [] after i n e h = refl
no_longer_hex b (c ∷ u) rest (m ∷ more) after i n e h = absurd (clash (hex_second b c (u ++ m ∷ more) h) (digit_no_x c (and_left _ _ (and_right _ _ i))))
no_longer_hex b [] rest (x ∷ []) after i n e h = absurd cc
no_longer_hex b [] rest (x ∷ d ∷ more) after i n e h =
    absurd (clash (subst (λ (xs : Bytes). begins_hex (b ∷ xs) ≡ true) (sym e) (hex_begins b x d more (more ++ after) h)) n)

decimal_longest : (b : ℕ) (u rest : Bytes) → is_digits (b ∷ u) ≡ true → Stops is_digit rest → begins_hex (b ∷ (u ++ rest)) ≡ false → IsLongest (b ∷ u) rest
decimal_longest b u rest i s n more after form e h = go (digit_like b (u ++ more) form (and_left _ _ i) h).2
  where
    go : {v : ℕ} → IsNumber (b ∷ (u ++ more)) v → more ≡ []
    go (inl d) = no_more is_digit rest more after s e (all_behind is_digit u more (and_right _ _ d.0))
    go (inr x) = no_longer_hex b u rest more after i n e x.0

-- ---- hexadecimal numbers

hex_stops : (a x d : ℕ) (u rest : Bytes) → is_hexadecimal (a ∷ x ∷ d ∷ u) ≡ true → IsLongest (a ∷ x ∷ d ∷ u) rest → Stops is_hex rest
hex_stops a x d u rest i l c more e = elim (tells (is_hex c)) [
  | inr n ↦ n
  | inl p ↦ absurd (
      let digits : list_all is_hex (u ++ c ∷ []) ≡ true = all_more is_hex u (c ∷ []) (and_right _ _ (and_right _ _ i)) (rw p refl) in
      let longer : is_hexadecimal (a ∷ x ∷ d ∷ (u ++ c ∷ [])) ≡ true = both_true (and_left _ _ i) (both_true (and_left _ _ (and_right _ _ i)) digits) in
      let no : c ∷ [] ≡ [] = l (c ∷ []) more (Number (value_from 16 0 (d ∷ (u ++ c ∷ [])))) e (inr (longer, refl)) in
      cc)
]

hex_longest : (a x d : ℕ) (u rest : Bytes) → is_hexadecimal (a ∷ x ∷ d ∷ u) ≡ true → Stops is_hex rest → IsLongest (a ∷ x ∷ d ∷ u) rest
hex_longest a x d u rest i s more after form e h = go (digit_like a (x ∷ d ∷ (u ++ more)) form (hex_first a (x ∷ d ∷ u) i) h).2
  where
    go : {v : ℕ} → IsNumber (a ∷ x ∷ d ∷ (u ++ more)) v → more ≡ []
    go (inl k) = absurd (clash (and_right _ _ (and_left _ _ i)) (digit_no_x x (and_left _ _ (and_right _ _ k.0))))
    go (inr k) = no_more is_hex rest more after s e (all_behind is_hex u more (and_right _ _ (and_right _ _ k.0)))

-- ---- values

abbrev IsBase : ℕ → Type 0
IsBase base = (base ≡ 10) ⊎ (base ≡ 16)

one_digit : (base m n d : ℕ) → IsBase base → m ≡ min n (limit + 1) → min (base * m + d) (limit + 1) ≡ min (base * n + d) (limit + 1)
one_digit base m n d (inl is) e = subst (λ (k : ℕ). min (k * m + d) (limit + 1) ≡ min (k * n + d) (limit + 1)) (sym is) (omega arith)
one_digit base m n d (inr is) e = subst (λ (k : ℕ). min (k * m + d) (limit + 1) ≡ min (k * n + d) (limit + 1)) (sym is) (omega arith)

pub capped : (base m n : ℕ) (bs : Bytes) → IsBase base → m ≡ min n (limit + 1) → capped_from base m bs ≡ min (value_from base n bs) (limit + 1)
capped base m n [] is e = e
capped base m n (b ∷ bs) is e = capped base (min (base * m + digit_of b) (limit + 1)) (base * n + digit_of b) bs is (one_digit base m n (digit_of b) is e)

-- ---- steps

decimal_at : (bs t rest : Bytes) → begins_hex bs ≡ false → front is_digit bs ≡ t → back is_digit bs ≡ rest → number_step bs ≡ numbered (min (value_from 10 0 t) (limit + 1)) rest
unfolding number_step decimal_step
decimal_at bs t rest n e g = rw n (ap (λ (x : Bytes). numbered (capped_from 10 0 x) (back is_digit bs)) e ∙ ap (λ (y : Bytes). numbered (capped_from 10 0 t) y) g ∙ ap (λ (v : ℕ). numbered v rest) (capped 10 0 0 t (inl refl) (omega arith)))

hex_at : (bs t rest : Bytes) → begins_hex bs ≡ true → front is_hex (drop 2 bs) ≡ t → back is_hex (drop 2 bs) ≡ rest → number_step bs ≡ numbered (min (value_from 16 0 t) (limit + 1)) rest
unfolding number_step hexadecimal_step
hex_at bs t rest n e g = rw n (ap (λ (x : Bytes). numbered (capped_from 16 0 x) (back is_hex (drop 2 bs))) e ∙ ap (λ (y : Bytes). numbered (capped_from 16 0 t) y) g ∙ ap (λ (v : ℕ). numbered v rest) (capped 16 0 0 t (inr refl) (omega arith)))

digit_step : (b : ℕ) (bs : Bytes) → is_digit b ≡ true → step (b ∷ bs) ≡ number_step (b ∷ bs)
unfolding step
digit_step b bs h = rw (digit_no_blank b h, digit_no_start b h, h) refl

-- the number that stands here
pub number_read : (t rest : Bytes) (v : ℕ) → IsNumber t v → IsLongest t rest → step (t ++ rest) ≡ numbered (min v (limit + 1)) rest
number_read [] rest v s l = absurd (number_some v s)
number_read (b ∷ u) rest v (inl d) l =
    let stops = decimal_stops b u rest d.0 l in
    digit_step b (u ++ rest) (and_left _ _ d.0)
    ∙ decimal_at (b ∷ (u ++ rest)) (b ∷ u) rest (decimal_no_hex b u rest d.0 l) (front_is is_digit (b ∷ u) rest d.0 stops) (back_is is_digit (b ∷ u) rest d.0 stops)
    ∙ ap (λ (k : ℕ). numbered (min k (limit + 1)) rest) (sym d.1)
number_read (a ∷ []) rest v (inr k) l = absurd (let no = k.0 in cc)
number_read (a ∷ x ∷ []) rest v (inr k) l = absurd (let no = k.0 in cc)
number_read (a ∷ x ∷ d ∷ u) rest v (inr k) l =
    let stops = hex_stops a x d u rest k.0 l in
    digit_step a (x ∷ d ∷ (u ++ rest)) (hex_first a (x ∷ d ∷ u) k.0)
    ∙ hex_at (a ∷ x ∷ d ∷ (u ++ rest)) (d ∷ u) rest (hex_begins a x d u (u ++ rest) k.0) (front_is is_hex (d ∷ u) rest (and_right _ _ k.0) stops) (back_is is_hex (d ∷ u) rest (and_right _ _ k.0) stops)
    ∙ ap (λ (k : ℕ). numbered (min k (limit + 1)) rest) (sym k.1)

-- what is read is the longest number here
pub record Reads (bs : Bytes) : Type 0 where
  pub text : Bytes
  pub rest : Bytes
  pub value : ℕ
  pub whole : bs ≡ text ++ rest
  pub spelled : IsNumber text value
  pub longest : IsLongest text rest
  pub is : number_step bs ≡ numbered (min value (limit + 1)) rest

decimal_reads : (b : ℕ) (bs : Bytes) → is_digit b ≡ true → begins_hex (b ∷ bs) ≡ false → Reads (b ∷ bs)
decimal_reads b bs h n =
    let t : Bytes = b ∷ front is_digit bs in
    let i : is_digits t ≡ true = both_true h (front_all is_digit bs) in
    let parts : b ∷ bs ≡ t ++ back is_digit bs = ap (λ (xs : Bytes). b ∷ xs) (front-back is_digit bs) in
    let same : begins_hex (b ∷ (front is_digit bs ++ back is_digit bs)) ≡ false = subst (λ (xs : Bytes). begins_hex xs ≡ false) parts n in
    record {
      text = t;
      rest = back is_digit bs;
      value = value_from 10 0 t;
      whole = parts;
      spelled = inl (i, refl);
      longest = decimal_longest b (front is_digit bs) (back is_digit bs) i (back_stops is_digit bs) same;
      is = decimal_at (b ∷ bs) t (back is_digit bs) n (rw h refl) (rw h refl);
    }

hex_reads : (b : ℕ) (bs : Bytes) → begins_hex (b ∷ bs) ≡ true → Reads (b ∷ bs)
hex_reads a [] h = absurd cc
hex_reads a (x ∷ []) h = absurd cc
hex_reads a (x ∷ d ∷ bs) h =
    let t : Bytes = a ∷ x ∷ d ∷ front is_hex bs in
    let first : is_hex d ≡ true = and_right _ _ h in
    let i : is_hexadecimal t ≡ true = both_true (and_left _ _ h) (both_true first (front_all is_hex bs)) in
    record {
      text = t;
      rest = back is_hex bs;
      value = value_from 16 0 (d ∷ front is_hex bs);
      whole = ap (λ (xs : Bytes). a ∷ x ∷ d ∷ xs) (front-back is_hex bs);
      spelled = inr (i, refl);
      longest = hex_longest a x d (front is_hex bs) (back is_hex bs) i (back_stops is_hex bs);
      is = hex_at (a ∷ x ∷ d ∷ bs) (d ∷ front is_hex bs) (back is_hex bs) h (rw first refl) (rw first refl);
    }

pub number_reads : (b : ℕ) (bs : Bytes) → is_digit b ≡ true → Reads (b ∷ bs)
number_reads b bs h = elim (tells (begins_hex (b ∷ bs))) [ inl e ↦ hex_reads b bs e | inr e ↦ decimal_reads b bs h e ]

-- ---- what is said of a number that was read

pub numbered_fine : (v : ℕ) (rest : Bytes) → v ≤ limit → goes_on_as_double rest ≡ false → numbered (min v (limit + 1)) rest ≡ Found (Number v) rest
numbered_fine v rest l d = let same : min v (limit + 1) ≡ v = omega arith in rw (same, le-leb v limit l, d) refl

pub numbered_double : (v : ℕ) (rest : Bytes) → v ≤ limit → goes_on_as_double rest ≡ true → numbered (min v (limit + 1)) rest ≡ Broken r.S7 rest
numbered_double v rest l d = let same : min v (limit + 1) ≡ v = omega arith in rw (same, le-leb v limit l, d) refl

pub numbered_large : (v : ℕ) (rest : Bytes) → limit < v → numbered (min v (limit + 1)) rest ≡ Broken r.S6 rest
numbered_large v rest l = let same : min v (limit + 1) ≡ limit + 1 = omega arith in rw same refl
