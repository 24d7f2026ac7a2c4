-- The tokens that are read are those of the bytes, and no others are.
use Rattle.std.proofs.Common.{◌≡◌, ◌⊎◌, ℕ, zero, suc, ◌-◌, ◌<◌, ◌≤◌, Bool, true, false, cond, List, [], ◌∷◌, ◌++◌, length, take, drop, Option, Some, None, refl, sym, ap, ◌∙◌, subst, inl, inr, arith, append_assoc}
use Rattle.std.specs.Prelude.{◌&&◌, ◌||◌, ◌==◌, codes}
use Rattle.std.specs.List.{list_all, list_any}
use Rattle.std.specs.Str.{bytes_eq}
use Rattle.std.proofs.lemmas.Bool.{eqb-true, eq-eqb, and_parts}
use Rattle.std.proofs.lemmas.List.{append-nil, take-append-drop, length-take-le, take_at, drop_at}
use Rattle.js_tree.specs.Tokens.{Bytes, is_part, is_blank, is_plain, is_hex, ends_line, signs, is_sign, BeginsWith, IsQuoted, close, plain, escape, unicode, Form, Run, Sign, Unreadable, Tokens, EndsRun, is_run, IsToken, run, quoted as quoted_token, sign', unreadable, AreTokens, end, blank, token'}
use Rattle.js_reader.specs.Scanning.{front, back, line_ends, begins, begins_twice, is_single, length_from, sign_length, unit_of, hexadecimal, escaped, unit_at, and_then, units_from, string_form, sign_form, form_at, first, tokens_of}
use Rattle.js_reader.proofs.Fronts.{tells, clash, front-back, sign_fits}
use Rattle.js_reader.proofs.Scanned.{some_is, not_first, not_second, form_shorter, form_run, form_string, form_sign, tokens_step}
use Rattle.js_reader.proofs.Digits.{bytes_same}

-- ---- strings

abbrev IsRead : List ℕ → Bytes → List ℕ × Bytes → Type 0
IsRead found bs x = (us : List ℕ) × (found ++ us ≡ x.0) × IsQuoted bs us x.1

one_more : (found : List ℕ) (u : ℕ) (us : List ℕ) (to : List ℕ) → (found ++ u ∷ []) ++ us ≡ to → found ++ u ∷ us ≡ to
one_more found u us to e = sym (append_assoc found (u ∷ []) us) ∙ e

unicode_sound : (bs : Bytes) (u : ℕ × Bytes) (us : List ℕ) (rest : Bytes) → hexadecimal bs ≡ Some u → IsQuoted u.1 us rest → IsQuoted (92 ∷ 117 ∷ bs) (u.0 ∷ us) rest
unicode_sound [] u us rest h d = absurd cc
unicode_sound (a ∷ []) u us rest h d = absurd cc
unicode_sound (a ∷ b ∷ []) u us rest h d = absurd cc
unicode_sound (a ∷ b ∷ c ∷ []) u us rest h d = absurd cc
unicode_sound (a ∷ b ∷ c ∷ x ∷ bs) u us rest h d = by (is_hex a && is_hex b && is_hex c && is_hex x) refl h where
  by : (t : Bool) → (is_hex a && is_hex b && is_hex c && is_hex x) ≡ t → cond t (Some (unit_of a b c x, bs)) None ≡ Some u → IsQuoted (92 ∷ 117 ∷ a ∷ b ∷ c ∷ x ∷ bs) (u.0 ∷ us) rest
  by true t e =
      let is = some_is (unit_of a b c x, bs) u e in
      subst (λ (v : ℕ × Bytes). IsQuoted v.1 us rest → IsQuoted (92 ∷ 117 ∷ a ∷ b ∷ c ∷ x ∷ bs) (v.0 ∷ us) rest) is (λ q. unicode t q) d
  by false t e = absurd cc

escape_sound : (bs : Bytes) (u : ℕ × Bytes) (us : List ℕ) (rest : Bytes) → escaped bs ≡ Some u → IsQuoted u.1 us rest → IsQuoted (92 ∷ bs) (u.0 ∷ us) rest
unfolding escaped
escape_sound [] u us rest h d = absurd cc
escape_sound (b ∷ bs) u us rest h d = by (b == 34 || b == 92) (b == 117) refl refl h where
  by : (t v : Bool) → (b == 34 || b == 92) ≡ t → (b == 117) ≡ v → cond t (Some (b, bs)) (cond v (hexadecimal bs) None) ≡ Some u → IsQuoted (92 ∷ b ∷ bs) (u.0 ∷ us) rest
  by true v t w e =
      let is = some_is (b, bs) u e in
      subst (λ (y : ℕ × Bytes). IsQuoted y.1 us rest → IsQuoted (92 ∷ b ∷ bs) (y.0 ∷ us) rest) is (λ q. escape t q) d
  by false true t w e = subst (λ (c : ℕ). IsQuoted (92 ∷ c ∷ bs) (u.0 ∷ us) rest) (sym (eqb-true b 117 w)) (unicode_sound bs u us rest e d)
  by false false t w e = absurd cc

unit_sound : (bs : Bytes) (u : ℕ × Bytes) (us : List ℕ) (rest : Bytes) → unit_at bs ≡ Some u → IsQuoted u.1 us rest → IsQuoted bs (u.0 ∷ us) rest
unfolding unit_at
unit_sound [] u us rest h d = absurd cc
unit_sound (b ∷ bs) u us rest h d = by (is_plain b) (b == 92) refl refl h where
  by : (t v : Bool) → is_plain b ≡ t → (b == 92) ≡ v → cond t (Some (b, bs)) (cond v (escaped bs) None) ≡ Some u → IsQuoted (b ∷ bs) (u.0 ∷ us) rest
  by true v t w e =
      let is = some_is (b, bs) u e in
      subst (λ (y : ℕ × Bytes). IsQuoted y.1 us rest → IsQuoted (b ∷ bs) (y.0 ∷ us) rest) is (λ q. plain t q) d
  by false true t w e = subst (λ (c : ℕ). IsQuoted (c ∷ bs) (u.0 ∷ us) rest) (sym (eqb-true b 92 w)) (escape_sound bs u us rest e d)
  by false false t w e = absurd cc

closed : (found : List ℕ) (bs : Bytes) (x : List ℕ × Bytes) → begins 34 bs ≡ true → (found, drop 1 bs) ≡ x → IsRead found bs x
closed found [] x b e = absurd cc
closed found (c ∷ bs) x b e =
    let is = eqb-true c 34 b in
    subst (λ (y : List ℕ × Bytes). IsRead found (c ∷ bs) y) e ([], append-nil found, subst (λ (a : ℕ). IsQuoted (a ∷ bs) [] bs) (sym is) close)

pub units_sound : (n : ℕ) (found : List ℕ) (bs : Bytes) (x : List ℕ × Bytes) → units_from n found bs ≡ Some x → IsRead found bs x
unfolding units_from
units_sound zero found bs x h = absurd cc
units_sound (suc n) found bs x h = by (begins 34 bs) (unit_at bs) refl refl (λ u rest e. units_sound n (found ++ u ∷ []) rest x e) h where
  by : (t : Bool) (o : Option (ℕ × Bytes)) → begins 34 bs ≡ t → unit_at bs ≡ o → ((u : ℕ) (rest : Bytes) → units_from n (found ++ u ∷ []) rest ≡ Some x → IsRead (found ++ u ∷ []) rest x)
      → cond t (Some (found, drop 1 bs)) (and_then o (λ u rest. units_from n (found ++ u ∷ []) rest)) ≡ Some x → IsRead found bs x
  by true o b is again e = closed found bs x b (some_is (found, drop 1 bs) x e)
  by false None b is again e = absurd cc
  by false (Some u) b is again e =
      let d = again u.0 u.1 e in
      (u.0 ∷ d.0, one_more found u.0 d.0 x.0 d.1, unit_sound bs u d.0 x.1 is d.2)

plain_no_quote : (b : ℕ) → is_plain b ≡ true → (b == 34) ≡ false
plain_no_quote b h = by (b == 34) refl where
  by : (t : Bool) → (b == 34) ≡ t → t ≡ false
  by false e = refl
  by true e = absurd (clash h (ap is_plain (eqb-true b 34 e)))

plain_unit : (b : ℕ) (bs : Bytes) → is_plain b ≡ true → unit_at (b ∷ bs) ≡ Some (b, bs)
unfolding unit_at
plain_unit b bs h = ap (λ t. cond t (Some (b, bs)) (cond (b == 92) (escaped bs) None)) h

escape_unit : (b : ℕ) (bs : Bytes) → (b == 34 || b == 92) ≡ true → unit_at (92 ∷ b ∷ bs) ≡ Some (b, bs)
unfolding unit_at escaped
escape_unit b bs h = ap (λ t. cond t (Some (b, bs)) (cond (b == 117) (hexadecimal bs) None)) h

unicode_unit : (a b c d : ℕ) (bs : Bytes) → (is_hex a && is_hex b && is_hex c && is_hex d) ≡ true → unit_at (92 ∷ 117 ∷ a ∷ b ∷ c ∷ d ∷ bs) ≡ Some (unit_of a b c d, bs)
unfolding unit_at escaped
unicode_unit a b c d bs h = ap (λ t. cond t (Some (unit_of a b c d, bs)) None) h

unit_step : (n : ℕ) (found : List ℕ) (bs : Bytes) (u : ℕ) (after : Bytes) (us : List ℕ) (rest : Bytes) → begins 34 bs ≡ false → unit_at bs ≡ Some (u, after)
    → units_from n (found ++ u ∷ []) after ≡ Some ((found ++ u ∷ []) ++ us, rest) → units_from (suc n) found bs ≡ Some (found ++ u ∷ us, rest)
unfolding units_from
unit_step n found bs u after us rest b h again = rw (b, h) (again ∙ ap (λ (ys : List ℕ). Some (ys, rest)) (append_assoc found (u ∷ []) us))

pub units_complete : {bs rest : Bytes} {us : List ℕ} → IsQuoted bs us rest → (n : ℕ) (found : List ℕ) → length bs ≤ n → units_from n found bs ≡ Some (found ++ us, rest)
unfolding units_from
units_complete close zero found l = absurd (omega arith)
units_complete (close {rest = rest}) (suc n) found l = ap (λ (ys : List ℕ). Some (ys, rest)) (sym (append-nil found))
units_complete (plain h d) zero found l = absurd (omega arith)
units_complete (plain {b = b} {bs = bs} {rest = rest} {us = us} h d) (suc n) found l =
    unit_step n found (b ∷ bs) b bs us rest (plain_no_quote b h) (plain_unit b bs h) (units_complete d n (found ++ b ∷ []) (omega arith))
units_complete (escape h d) zero found l = absurd (omega arith)
units_complete (escape {b = b} {bs = bs} {rest = rest} {us = us} h d) (suc n) found l =
    unit_step n found (92 ∷ b ∷ bs) b bs us rest refl (escape_unit b bs h) (units_complete d n (found ++ b ∷ []) (omega arith))
units_complete (unicode h d) zero found l = absurd (omega arith)
units_complete (unicode {a = a} {b = b} {c = c} {d = e} {bs = bs} {rest = rest} {us = us} h d) (suc n) found l =
    unit_step n found (92 ∷ 117 ∷ a ∷ b ∷ c ∷ e ∷ bs) (unit_of a b c e) bs us rest refl (unicode_unit a b c e bs h) (units_complete d n (found ++ unit_of a b c e ∷ []) (omega arith))

-- ---- signs

abbrev Each : (Bytes → Type 0) → List Bytes → Type 0
Each P [] = Unit {0}
Each P (s ∷ ss) = P s × Each P ss

each : (P : Bytes → Type 0) (ss : List Bytes) (x : Bytes) → Each P ss → list_any (bytes_eq x) ss ≡ true → P x
each P [] x all h = absurd cc
each P (s ∷ ss) x all h = by (bytes_eq x s) refl h (λ e. each P ss x all.1 e) where
  by : (t : Bool) → bytes_eq x s ≡ t → (t || list_any (bytes_eq x) ss) ≡ true → (list_any (bytes_eq x) ss ≡ true → P x) → P x
  by true is e again = subst P (sym (bytes_same x s is)) all.0
  by false is e again = again e

abbrev IsLong : Bytes → Type 0
IsLong x = (after : Bytes) → length x ≤ sign_length (x ++ after)

long_equals : IsLong (codes "=")
unfolding sign_length
long_equals after = by (begins_twice 61 after) where
  by : (t : Bool) → 1 ≤ cond t 3 1
  by true = omega arith
  by false = omega arith

long_less : IsLong (codes "<")
unfolding sign_length
long_less after = by (begins 61 after) where
  by : (t : Bool) → 1 ≤ cond t 2 1
  by true = omega arith
  by false = omega arith

long_greater : IsLong (codes ">")
unfolding sign_length
long_greater after = by (begins 61 after) where
  by : (t : Bool) → 1 ≤ cond t 2 1
  by true = omega arith
  by false = omega arith

all_long : Each IsLong signs
unfolding sign_length
all_long = (
  (λ r. omega arith),
  (
    (λ r. omega arith),
    (
      (λ r. omega arith),
      (
        (λ r. omega arith),
        (
          (λ r. omega arith),
          (
            (λ r. omega arith),
            (
              (λ r. omega arith),
              (
                (λ r. omega arith),
                (
                  (λ r. omega arith),
                  (
                    (λ r. omega arith),
                    (
                      (λ r. omega arith),
                      (
                        (λ r. omega arith),
                        (
                          (λ r. omega arith),
                          (
                            long_equals,
                            ((λ r. omega arith), ((λ r. omega arith), ((λ r. omega arith), ((λ r. omega arith), ((λ r. omega arith), (long_less, (long_greater, tt))))))),
                          ),
                        ),
                      ),
                    ),
                  ),
                ),
              ),
            ),
          ),
        ),
      ),
    ),
  ),
)

-- no sign at the front is longer
sign_long : (bs x after : Bytes) → bs ≡ x ++ after → is_sign x ≡ true → length x ≤ sign_length bs
sign_long bs x after e h = subst (λ (y : Bytes). length x ≤ sign_length y) (sym e) (each IsLong signs x all_long h after)

begins_is : (c : ℕ) (bs : Bytes) → begins c bs ≡ true → (rest : Bytes) × (bs ≡ c ∷ rest)
begins_is c [] h = absurd cc
begins_is c (b ∷ bs) h = (bs, ap (λ (x : ℕ). x ∷ bs) (eqb-true b c h))

begins_twice_is : (c : ℕ) (bs : Bytes) → begins_twice c bs ≡ true → (rest : Bytes) × (bs ≡ c ∷ c ∷ rest)
begins_twice_is c [] h = absurd cc
begins_twice_is c (b ∷ bs) h =
    let both = and_parts (b == c) (begins c bs) h in
    let more = begins_is c bs both.1 in
    (more.0, ap (λ (x : ℕ). x ∷ bs) (eqb-true b c both.0) ∙ ap (λ (y : Bytes). c ∷ y) more.1)

or_tells : (x y : Bool) → (x || y) ≡ true → (x ≡ true) ⊎ (y ≡ true)
or_tells true y h = inl refl
or_tells false y h = inr h

single_by : (b c : ℕ) → (b == c) ≡ true → is_sign (c ∷ []) ≡ true → is_sign (b ∷ []) ≡ true
single_by b c e h = subst (λ (x : ℕ). is_sign (x ∷ []) ≡ true) (sym (eqb-true b c e)) h

-- what a test by cases says
either : {P : Type 0} (x y : Bool) → (x ≡ true → P) → (y ≡ true → P) → (x || y) ≡ true → P
either true y f g h = f refl
either false y f g h = g h

single_is_sign : (b : ℕ) → is_single b ≡ true → is_sign (b ∷ []) ≡ true
single_is_sign b h =
    either (b == 40 || b == 41 || b == 42 || b == 43 || b == 44 || b == 45 || b == 46 || b == 47 || b == 37 || b == 58 || b == 59 || b == 91 || b == 93 || b == 123) (b == 125) (λ h15. either (b == 40 || b == 41 || b == 42 || b == 43 || b == 44 || b == 45 || b == 46 || b == 47 || b == 37 || b == 58 || b == 59 || b == 91 || b == 93) (b == 123) (λ h14. either (b == 40 || b == 41 || b == 42 || b == 43 || b == 44 || b == 45 || b == 46 || b == 47 || b == 37 || b == 58 || b == 59 || b == 91) (b == 93) (λ h13. either (b == 40 || b == 41 || b == 42 || b == 43 || b == 44 || b == 45 || b == 46 || b == 47 || b == 37 || b == 58 || b == 59) (b == 91) (λ h12. either (b == 40 || b == 41 || b == 42 || b == 43 || b == 44 || b == 45 || b == 46 || b == 47 || b == 37 || b == 58) (b == 59) (λ h11. either (b == 40 || b == 41 || b == 42 || b == 43 || b == 44 || b == 45 || b == 46 || b == 47 || b == 37) (b == 58) (λ h10. either (b == 40 || b == 41 || b == 42 || b == 43 || b == 44 || b == 45 || b == 46 || b == 47) (b == 37) (λ h9. either (b == 40 || b == 41 || b == 42 || b == 43 || b == 44 || b == 45 || b == 46) (b == 47) (λ h8. either (b == 40 || b == 41 || b == 42 || b == 43 || b == 44 || b == 45) (b == 46) (λ h7. either (b == 40 || b == 41 || b == 42 || b == 43 || b == 44) (b == 45) (λ h6. either (b == 40 || b == 41 || b == 42 || b == 43) (b == 44) (λ h5. either (b == 40 || b == 41 || b == 42) (b == 43) (λ h4. either (b == 40 || b == 41) (b == 42) (λ h3. either (b == 40) (b == 41) (λ h2. single_by b 40 h2 refl) (λ h2. single_by b 41 h2 refl) h3) (λ h3. single_by b 42 h3 refl) h4) (λ h4. single_by b 43 h4 refl) h5) (λ h5. single_by b 44 h5 refl) h6) (λ h6. single_by b 45 h6 refl) h7) (λ h7. single_by b 46 h7 refl) h8) (λ h8. single_by b 47 h8 refl) h9) (λ h9. single_by b 37 h9 refl) h10) (λ h10. single_by b 58 h10 refl) h11) (λ h11. single_by b 59 h11 refl) h12) (λ h12. single_by b 91 h12 refl) h13) (λ h13. single_by b 93 h13 refl) h14) (λ h14. single_by b 123 h14 refl) h15) (λ h15. single_by b 125 h15 refl) h

abbrev IsSignOf : ℕ → Bytes → Type 0
IsSignOf n bs = (n ≡ 0) ⊎ (is_sign (take n bs) ≡ true)

length_of_sign : (b : ℕ) (bs : Bytes) → IsSignOf (length_from b bs) (b ∷ bs)
length_of_sign b bs = equals (b == 61) refl where
  last : (t : Bool) → is_single b ≡ t → IsSignOf (cond t 1 0) (b ∷ bs)
  last true e = inr (single_is_sign b e)
  last false e = inl refl

  two : (c : ℕ) → is_sign (c ∷ []) ≡ true → is_sign (c ∷ 61 ∷ []) ≡ true → (t : Bool) → begins 61 bs ≡ t → IsSignOf (cond t 2 1) (c ∷ bs)
  two c one both true e = let r = begins_is 61 bs e in inr (subst (λ (y : Bytes). is_sign (take 2 (c ∷ y)) ≡ true) (sym r.1) both)
  two c one both false e = inr one

  order : (t : Bool) → (b == 60 || b == 62) ≡ t → IsSignOf (cond t (cond (begins 61 bs) 2 1) (cond (is_single b) 1 0)) (b ∷ bs)
  order true e = elim (or_tells (b == 60) (b == 62) e) [
    | inl q ↦ subst (λ (c : ℕ). IsSignOf (cond (begins 61 bs) 2 1) (c ∷ bs)) (sym (eqb-true b 60 q)) (two 60 refl refl (begins 61 bs) refl)
    | inr q ↦ subst (λ (c : ℕ). IsSignOf (cond (begins 61 bs) 2 1) (c ∷ bs)) (sym (eqb-true b 62 q)) (two 62 refl refl (begins 61 bs) refl)
  ]
  order false e = last (is_single b) refl

  three : (t : Bool) → begins_twice 61 bs ≡ t → IsSignOf (cond t 3 1) (61 ∷ bs)
  three true e = let r = begins_twice_is 61 bs e in inr (subst (λ (y : Bytes). is_sign (take 3 (61 ∷ y)) ≡ true) (sym r.1) refl)
  three false e = inr refl

  equals : (t : Bool) → (b == 61) ≡ t → IsSignOf (cond t (cond (begins_twice 61 bs) 3 1) (cond (b == 60 || b == 62) (cond (begins 61 bs) 2 1) (cond (is_single b) 1 0))) (b ∷ bs)
  equals true e = subst (λ (c : ℕ). IsSignOf (cond (begins_twice 61 bs) 3 1) (c ∷ bs)) (sym (eqb-true b 61 e)) (three (begins_twice 61 bs) refl)
  equals false e = order (b == 60 || b == 62) refl

sign_of_length : (b : ℕ) (bs : Bytes) → IsSignOf (sign_length (b ∷ bs)) (b ∷ bs)
unfolding sign_length
sign_of_length b bs = by (is_part b || b == 34) where
  by : (t : Bool) → IsSignOf (cond t 0 (length_from b bs)) (b ∷ bs)
  by true = inl refl
  by false = length_of_sign b bs

sign_begins : (b : ℕ) (bs : Bytes) (n : ℕ) → sign_length (b ∷ bs) ≡ suc n → BeginsWith (b ∷ bs) (take (suc n) (b ∷ bs)) (drop (suc n) (b ∷ bs))
sign_begins b bs n e = elim (sign_of_length b bs) [
  | inl z ↦ absurd (omega (arith, e, z))
  | inr s ↦ (
    sym (take-append-drop (suc n) (b ∷ bs)),
    subst (λ (k : ℕ). is_sign (take k (b ∷ bs)) ≡ true) e s,
    λ x after is h. omega (arith, sign_long (b ∷ bs) x after is h, length-take-le (suc n) (b ∷ bs) (subst (λ (k : ℕ). k ≤ length (b ∷ bs)) e (sign_fits (b ∷ bs)))),
  )
]

-- the sign that begins the bytes is the one that is read
sign_same : (b : ℕ) (bs text rest : Bytes) → BeginsWith (b ∷ bs) text rest → sign_form (sign_length (b ∷ bs)) (b ∷ bs) ≡ (Sign text, rest)
sign_same b bs text rest h = by (sign_length (b ∷ bs)) refl where
  long : length text ≤ sign_length (b ∷ bs)
  long = sign_long (b ∷ bs) text rest h.0 h.1

  some : (x : Bytes) → is_sign x ≡ true → 0 < length x
  some [] e = absurd cc
  some (c ∷ x) e = omega arith

  by : (n : ℕ) → sign_length (b ∷ bs) ≡ n → sign_form n (b ∷ bs) ≡ (Sign text, rest)
  by zero e = absurd (omega (arith, long, some text h.1, e))
  by (suc n) e =
      let w = sign_begins b bs n e in
      let fits : suc n ≤ length (b ∷ bs) = subst (λ (k : ℕ). k ≤ length (b ∷ bs)) e (sign_fits (b ∷ bs)) in
      let le : length (take (suc n) (b ∷ bs)) ≤ length text = h.2 (take (suc n) (b ∷ bs)) (drop (suc n) (b ∷ bs)) w.0 w.1 in
      let same : length text ≡ suc n = omega (arith, long, e, le, length-take-le (suc n) (b ∷ bs) fits) in
      let front : take (suc n) (b ∷ bs) ≡ text = ap (take (suc n)) h.0 ∙ take_at text rest (suc n) same in
      let after : drop (suc n) (b ∷ bs) ≡ rest = ap (drop (suc n)) h.0 ∙ drop_at text rest (suc n) same in
      ap (λ (x : Bytes). (Sign x, drop (suc n) (b ∷ bs))) front ∙ ap (λ (x : Bytes). (Sign text, x)) after

-- a quote begins no sign
quote_sign : (bs text rest : Bytes) → BeginsWith (34 ∷ bs) text rest → ⊥
unfolding sign_length
quote_sign bs text rest h = let s = ap (λ (f : Form × Bytes). f.0) (sign_same 34 bs text rest h) in cc

abbrev head_or : ℕ → Bytes → ℕ
head_or d [] = d
head_or d (b ∷ bs) = b

heads : (a b : ℕ) (xs ys : Bytes) → a ∷ xs ≡ b ∷ ys → a ≡ b
heads a b xs ys e = ap (head_or 0) e

-- ---- runs

ends_back : (bs : Bytes) → EndsRun (back is_part bs)
ends_back [] = tt
ends_back (b ∷ bs) = elim (tells (is_part b)) [ inl e ↦ rw e (ends_back bs) | inr e ↦ rw e e ]

parts_front : (bs : Bytes) → list_all is_part (front is_part bs) ≡ true
parts_front [] = refl
parts_front (b ∷ bs) = elim (tells (is_part b)) [ inl e ↦ rw e (rw e (parts_front bs)) | inr e ↦ rw e refl ]

run_front : (b : ℕ) (bs : Bytes) → is_part b ≡ true → is_run (front is_part (b ∷ bs)) ≡ true
run_front b bs e = some (front is_part (b ∷ bs)) (parts_front (b ∷ bs)) (front_begins b bs e) where
  some : (x : Bytes) → list_all is_part x ≡ true → 0 < length x → is_run x ≡ true
  some [] a l = absurd (omega arith)
  some (c ∷ x) a l = a

  front_begins : (c : ℕ) (cs : Bytes) → is_part c ≡ true → 0 < length (front is_part (c ∷ cs))
  front_begins c cs h = rw h (omega arith)

front_all : (text rest : Bytes) → list_all is_part text ≡ true → EndsRun rest → (front is_part (text ++ rest) ≡ text) × (back is_part (text ++ rest) ≡ rest)
front_all [] [] a s = (refl, refl)
front_all [] (b ∷ rest) a s = (rw s refl, rw s refl)
front_all (c ∷ text) rest a s =
    let both = and_parts (is_part c) (list_all is_part text) a in
    let more = front_all text rest both.1 s in
    let is = both.0 in
    (rw is (ap (λ (x : Bytes). c ∷ x) more.0), rw is more.1)

-- ---- one token

part_no_blank : (b : ℕ) → is_part b ≡ true → is_blank b ≡ false
part_no_blank b h = by (is_blank b) refl where
  blank_no_part : is_blank b ≡ true → is_part b ≡ false
  blank_no_part e =
      either (b == 32 || b == 9) (b == 13 || b == 10) (λ x. either (b == 32) (b == 9) (λ y. ap is_part (eqb-true b 32 y)) (λ y. ap is_part (eqb-true b 9 y)) x)
      (λ x. either (b == 13) (b == 10) (λ y. ap is_part (eqb-true b 13 y)) (λ y. ap is_part (eqb-true b 10 y)) x) e

  by : (t : Bool) → is_blank b ≡ t → t ≡ false
  by false e = refl
  by true e = absurd (clash h (blank_no_part e))

-- bytes that begin with no blank begin with the token that is read
of_string : (bs : Bytes) (o : Option (List ℕ × Bytes)) → units_from (length bs) [] bs ≡ o → IsToken (34 ∷ bs) (string_form o).0 (string_form o).1
of_string bs None is = unreadable refl refl (λ us rest x d. let h = units_complete d (length bs) [] (omega arith) in absurd cc) (λ text rest h. quote_sign bs text rest h)
of_string bs (Some x) is =
    let d = units_sound (length bs) [] bs x is in
    quoted_token (subst (λ (us : List ℕ). IsQuoted bs us x.1) d.1 d.2)

of_sign : (b : ℕ) (bs : Bytes) → is_blank b ≡ false → is_part b ≡ false → (b == 34) ≡ false → (n : ℕ) → sign_length (b ∷ bs) ≡ n → IsToken (b ∷ bs) (sign_form n (b ∷ bs)).0 (sign_form n (b ∷ bs)).1
of_sign b bs nb e q zero is =
    unreadable nb e (λ us rest x d. clash (eq-eqb b 34 x) q)
    (λ text rest h.
    let s = sign_same b bs text rest h in
    let z = ap (λ (k : ℕ). sign_form k (b ∷ bs)) is in
    let u = ap (λ (f : Form × Bytes). f.0) (sym z ∙ s) in
    absurd cc)
of_sign b bs nb e q (suc n) is = sign' (take (suc n) (b ∷ bs)) (sign_begins b bs n is)

-- bytes that begin with no blank begin with the token that is read
pub is_token : (b : ℕ) (bs : Bytes) → is_blank b ≡ false → IsToken (b ∷ bs) (form_at (b ∷ bs)).0 (form_at (b ∷ bs)).1
is_token b bs nb = elim (tells (is_part b)) [
  | inl e ↦
      subst (λ (f : Form × Bytes). IsToken (b ∷ bs) f.0 f.1) (sym (form_run b bs e))
      (subst (λ (x : Bytes). IsToken x (Run (front is_part (b ∷ bs))) (back is_part (b ∷ bs))) (sym (front-back is_part (b ∷ bs))) (run (front is_part (b ∷ bs)) (run_front b bs e) (ends_back (b ∷ bs))))
  | inr e ↦ elim (tells (b == 34)) [
    | inl q ↦
        subst (λ (f : Form × Bytes). IsToken (b ∷ bs) f.0 f.1) (sym (form_string b bs e q))
        (subst (λ (c : ℕ). IsToken (c ∷ bs) (string_form (units_from (length bs) [] bs)).0 (string_form (units_from (length bs) [] bs)).1) (sym (eqb-true b 34 q)) (of_string bs (units_from (length bs) [] bs) refl))
    | inr q ↦ subst (λ (f : Form × Bytes). IsToken (b ∷ bs) f.0 f.1) (sym (form_sign b bs e q)) (of_sign b bs nb e q (sign_length (b ∷ bs)) refl)
  ]
]

-- ---- no other token

record Reads (bs : Bytes) (form : Form) (rest : Bytes) : Type 0 where
  head : ℕ
  others : Bytes
  is : bs ≡ head ∷ others
  no_blank : is_blank head ≡ false
  read : form_at (head ∷ others) ≡ (form, rest)

run_reads : (text rest : Bytes) → is_run text ≡ true → EndsRun rest → Reads (text ++ rest) (Run text) rest
run_reads [] rest r s = absurd cc
run_reads (c ∷ text) rest r s =
    let part = (and_parts (is_part c) (list_all is_part text) r).0 in
    let fronts = front_all (c ∷ text) rest r s in
    record {
      head = c;
      others = text ++ rest;
      is = refl;
      no_blank = part_no_blank c part;
      read = form_run c (text ++ rest) part ∙ (ap (λ (x : Bytes). (Run x, back is_part (c ∷ text ++ rest))) fronts.0 ∙ ap (λ (x : Bytes). (Run (c ∷ text), x)) fronts.1);
    }

sign_no_part : (b : ℕ) (bs text rest : Bytes) → BeginsWith (b ∷ bs) text rest → (is_part b || b == 34) ≡ false
unfolding sign_length
sign_no_part b bs text rest h = by (is_part b || b == 34) refl (sign_same b bs text rest h) where
  by : (t : Bool) → (is_part b || b == 34) ≡ t → sign_form (cond t 0 (length_from b bs)) (b ∷ bs) ≡ (Sign text, rest) → t ≡ false
  by false e s = refl
  by true e s = let u = ap (λ (f : Form × Bytes). f.0) s in absurd cc

abbrev IsNoBlankSign : Bytes → Type 0
IsNoBlankSign [] = Unit {0}
IsNoBlankSign (b ∷ bs) = is_blank b ≡ false

all_no_blank : Each IsNoBlankSign signs
all_no_blank = (refl, (refl, (refl, (refl, (refl, (refl, (refl, (refl, (refl, (refl, (refl, (refl, (refl, (refl, (refl, (refl, (refl, (refl, (refl, (refl, (refl, tt)))))))))))))))))))))

sign_reads : (bs text rest : Bytes) → BeginsWith bs text rest → Reads bs (Sign text) rest
sign_reads bs text rest h = by bs text h (each IsNoBlankSign signs text all_no_blank h.1) where
  by : (cs x : Bytes) → BeginsWith cs x rest → IsNoBlankSign x → Reads cs (Sign x) rest
  by cs [] g n = absurd (let e = g.1 in cc)
  by [] (c ∷ x) g n = absurd (let e = g.0 in cc)
  by (b ∷ cs) (c ∷ x) g n =
      let same : b ≡ c = heads b c cs (x ++ rest) g.0 in
      let none = sign_no_part b cs (c ∷ x) rest g in
      record {
        head = b;
        others = cs;
        is = refl;
        no_blank = ap is_blank same ∙ n;
        read = form_sign b cs (not_first (is_part b) (b == 34) none) (not_second (is_part b) (b == 34) none) ∙ sign_same b cs (c ∷ x) rest g;
      }

none_reads : (b : ℕ) (bs : Bytes) → is_part b ≡ false → ((us : List ℕ) (rest : Bytes) → b ≡ 34 → IsQuoted bs us rest → ⊥) → ((text rest : Bytes) → BeginsWith (b ∷ bs) text rest → ⊥)
    → form_at (b ∷ bs) ≡ (Unreadable, [])
none_reads b bs np nq ns = elim (tells (b == 34)) [
  | inl q ↦ form_string b bs np q ∙ no_units (units_from (length bs) [] bs) refl (eqb-true b 34 q)
  | inr q ↦ form_sign b bs np q ∙ no_length (sign_length (b ∷ bs)) refl
] where
  no_units : (o : Option (List ℕ × Bytes)) → units_from (length bs) [] bs ≡ o → b ≡ 34 → string_form o ≡ (Unreadable, [])
  no_units None e q = refl
  no_units (Some x) e q = let d = units_sound (length bs) [] bs x e in absurd (nq d.0 x.1 q d.2)

  no_length : (n : ℕ) → sign_length (b ∷ bs) ≡ n → sign_form n (b ∷ bs) ≡ (Unreadable, [])
  no_length zero e = refl
  no_length (suc n) e = absurd (ns (take (suc n) (b ∷ bs)) (drop (suc n) (b ∷ bs)) (sign_begins b bs n e))

token_reads : {bs rest : Bytes} {form : Form} → IsToken bs form rest → Reads bs form rest
token_reads (run {rest = rest} text r s) = run_reads text rest r s
token_reads (quoted_token {bs = bs} {rest = rest} {us = us} d) =
    record { head = 34; others = bs; is = refl; no_blank = refl; read = form_string 34 bs refl refl ∙ ap string_form (units_complete d (length bs) [] (omega arith)) }
token_reads (sign' {bs = bs} {rest = rest} text h) = sign_reads bs text rest h
token_reads (unreadable {b = b} {bs = bs} nb np nq ns) = record { head = b; others = bs; is = refl; no_blank = nb; read = none_reads b bs np nq ns }

-- ---- all tokens

abbrev tokens_at : ℕ → Bool → Bytes → Tokens
tokens_at size line bs = first (λ rest. tokens_of size rest) size (line_ends line bs) (back is_blank bs)

blank_first : (size : ℕ) (line : Bool) (b : ℕ) (bs : Bytes) → is_blank b ≡ true → tokens_at size line (b ∷ bs) ≡ tokens_at size (line || ends_line b) bs
blank_first size line b bs e =
    ap (λ (t : Bool). first (λ rest. tokens_of size rest) size (cond t (line_ends (line || ends_line b) bs) line) (cond t (back is_blank bs) (b ∷ bs))) e

token_first : (size : ℕ) (line : Bool) (b : ℕ) (bs : Bytes) → is_blank b ≡ false → tokens_at size line (b ∷ bs) ≡ first (λ rest. tokens_of size rest) size line (b ∷ bs)
token_first size line b bs e =
    ap (λ (t : Bool). first (λ rest. tokens_of size rest) size (cond t (line_ends (line || ends_line b) bs) line) (cond t (back is_blank bs) (b ∷ bs))) e

pub all_read : (n size : ℕ) (line : Bool) (bs : Bytes) → length bs ≤ n → AreTokens size line bs (tokens_at size line bs)
all_read n size line [] l = end
all_read zero size line (b ∷ bs) l = absurd (omega arith)
all_read (suc n) size line (b ∷ bs) l = elim (tells (is_blank b)) [
  | inl e ↦ subst (λ (ts : Tokens). AreTokens size line (b ∷ bs) ts) (sym (blank_first size line b bs e)) (blank e (all_read n size (line || ends_line b) bs (omega arith)))
  | inr e ↦
      let rest = (form_at (b ∷ bs)).1 in
      subst (λ (ts : Tokens). AreTokens size line (b ∷ bs) ts) (sym (token_first size line b bs e))
      (token' (is_token b bs e) (subst (λ (ts : Tokens). AreTokens size false (form_at (b ∷ bs)).1 ts) (sym (tokens_step size (form_at (b ∷ bs)).1)) (all_read n size false (form_at (b ∷ bs)).1 (omega (arith, form_shorter b bs)))))
]

token_same : (size : ℕ) (line : Bool) (bs rest : Bytes) (form : Form) (ts : Tokens) → Reads bs form rest → ts ≡ tokens_of size rest
    → record { form = form; place = record { from = size - length bs; on_new_line = line } } ∷ ts ≡ tokens_at size line bs
token_same size line bs rest form ts r e =
    subst (λ (cs : Bytes). record { form = form; place = record { from = size - length cs; on_new_line = line } } ∷ ts ≡ tokens_at size line cs) (sym r.is)
    (sym (token_first size line r.head r.others r.no_blank
    ∙ (ap (λ (f : Form × Bytes). record { form = f.0; place = record { from = size - length (r.head ∷ r.others); on_new_line = line } } ∷ tokens_of size f.1) r.read
    ∙ ap (λ (us : Tokens). record { form = form; place = record { from = size - length (r.head ∷ r.others); on_new_line = line } } ∷ us) (sym e))))

pub read_alone : {size : ℕ} {line : Bool} {bs : Bytes} {ts : Tokens} → AreTokens size line bs ts → ts ≡ tokens_at size line bs
read_alone end = refl
read_alone (blank {line = line} {b = b} {bs = bs} e d) = read_alone d ∙ sym (blank_first _ line b bs e)
read_alone {size} (token' {line = line} {bs = bs} {rest = rest} {form = form} {ts = ts} i d) =
    token_same size line bs rest form ts (token_reads i) (read_alone d ∙ sym (tokens_step size rest))

pub are_tokens : (size : ℕ) (bs : Bytes) → AreTokens size false bs (tokens_of size bs)
are_tokens size bs = subst (λ (ts : Tokens). AreTokens size false bs ts) (sym (tokens_step size bs)) (all_read (length bs) size false bs (omega arith))

pub only_tokens : (size : ℕ) (bs : Bytes) (ts : Tokens) → AreTokens size false bs ts → ts ≡ tokens_of size bs
only_tokens size bs ts d = read_alone d ∙ sym (tokens_step size bs)

-- a token takes a byte at least
pub token_shorter : {bs rest : Bytes} {form : Form} → IsToken bs form rest → length rest < length bs
token_shorter {bs} {rest} {form} d =
    let r = token_reads d in
    omega (arith, form_shorter r.head r.others, ap (λ (f : Form × Bytes). length f.1) r.read, ap (λ (x : Bytes). length x) r.is)
