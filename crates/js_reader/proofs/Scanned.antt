-- How the tokens of bytes begin.
use Rattle.std.proofs.Common.{◌≡◌, ℕ, zero, suc, ◌-◌, ◌<◌, ◌≤◌, Bool, true, false, cond, List, [], ◌∷◌, ◌++◌, length, take, drop, Option, Some, None, refl, sym, ap, ◌∙◌, inl, inr, arith}
use Rattle.std.specs.Prelude.{not, ◌&&◌, ◌||◌, ◌==◌}
use Rattle.std.proofs.lemmas.List.{length-drop}
use Rattle.std.proofs.lemmas.Bool.{eqb-true}
use Rattle.js_tree.specs.Tokens.{Bytes, is_part, is_blank, is_plain, is_hex, Form, Run, Tokens}
use Rattle.js_reader.specs.Scanning.{front, back, line_ends, begins, length_from, sign_length, unit_of, hexadecimal, escaped, unit_at, and_then, units_from, quoted, string_form, sign_form, form_at, first, tokens_from, tokens_of}
use Rattle.js_reader.specs.Taking.{place, is_end, on_new_line, word_of, sign_of, string_of, word_by, sign_by, string_by, behind, is_some_text, after_word, after_sign}
use Rattle.js_reader.proofs.Fronts.{tells, back_shorter}

-- ---- a token takes a byte

pub some_is : {A : Type 0} (x y : A) → (let s : A → Option A = Some in s x ≡ s y) → x ≡ y
some_is x y h = cc

hexadecimal_shorter : (bs : Bytes) (u : ℕ × Bytes) → hexadecimal bs ≡ Some u → length u.1 < length bs
hexadecimal_shorter [] u h = absurd cc
hexadecimal_shorter (a ∷ []) u h = absurd cc
hexadecimal_shorter (a ∷ b ∷ []) u h = absurd cc
hexadecimal_shorter (a ∷ b ∷ c ∷ []) u h = absurd cc
hexadecimal_shorter (a ∷ b ∷ c ∷ d ∷ bs) u h = by (is_hex a && is_hex b && is_hex c && is_hex d) h where
  by : (t : Bool) → cond t (Some (unit_of a b c d, bs)) None ≡ Some u → length u.1 < suc (suc (suc (suc (length bs))))
  by true e = let same = ap (λ (x : ℕ × Bytes). length x.1) (some_is (unit_of a b c d, bs) u e) in omega arith
  by false e = absurd cc

escaped_shorter : (bs : Bytes) (u : ℕ × Bytes) → escaped bs ≡ Some u → length u.1 < length bs
unfolding escaped
escaped_shorter [] u h = absurd cc
escaped_shorter (b ∷ bs) u h = by (b == 34 || b == 92) (b == 117) h where
  by : (t v : Bool) → cond t (Some (b, bs)) (cond v (hexadecimal bs) None) ≡ Some u → length u.1 < suc (length bs)
  by true v e = let same = ap (λ (x : ℕ × Bytes). length x.1) (some_is (b, bs) u e) in omega arith
  by false true e = omega (arith, hexadecimal_shorter bs u e)
  by false false e = absurd cc

unit_shorter : (bs : Bytes) (u : ℕ × Bytes) → unit_at bs ≡ Some u → length u.1 < length bs
unfolding unit_at
unit_shorter [] u h = absurd cc
unit_shorter (b ∷ bs) u h = by (is_plain b) (b == 92) h where
  by : (t v : Bool) → cond t (Some (b, bs)) (cond v (escaped bs) None) ≡ Some u → length u.1 < suc (length bs)
  by true v e = let same = ap (λ (x : ℕ × Bytes). length x.1) (some_is (b, bs) u e) in omega arith
  by false true e = omega (arith, escaped_shorter bs u e)
  by false false e = absurd cc

units_shorter : (n : ℕ) (found : List ℕ) (bs : Bytes) (x : List ℕ × Bytes) → units_from n found bs ≡ Some x → length x.1 ≤ length bs
unfolding units_from
units_shorter zero found bs x h = absurd cc
units_shorter (suc n) found bs x h = by (begins 34 bs) (unit_at bs) refl (λ u rest. units_shorter n (found ++ u ∷ []) rest x) h where
  by : (t : Bool) (o : Option (ℕ × Bytes)) → unit_at bs ≡ o → ((u : ℕ) (rest : Bytes) → units_from n (found ++ u ∷ []) rest ≡ Some x → length x.1 ≤ length rest)
      → cond t (Some (found, drop 1 bs)) (and_then o (λ u rest. units_from n (found ++ u ∷ []) rest)) ≡ Some x → length x.1 ≤ length bs
  by true o is again e = let same = ap (λ (y : List ℕ × Bytes). length y.1) (some_is (found, drop 1 bs) x e) in omega (arith, length-drop 1 bs)
  by false None is again e = absurd cc
  by false (Some u) is again e = omega (arith, again u.0 u.1 e, unit_shorter bs u is)

string_form_shorter : (n : ℕ) (o : Option (List ℕ × Bytes)) → ((x : List ℕ × Bytes) → o ≡ Some x → length x.1 ≤ n) → length (string_form o).1 ≤ n
string_form_shorter n None h = omega arith
string_form_shorter n (Some x) h = h x refl

sign_form_shorter : (n : ℕ) (b : ℕ) (bs : Bytes) → length (sign_form n (b ∷ bs)).1 ≤ length bs
sign_form_shorter zero b bs = omega arith
sign_form_shorter (suc n) b bs = omega (arith, length-drop n bs)

chosen_shorter : (t q : Bool) (n : ℕ) (x y z : Form × Bytes) → (t ≡ true → length x.1 ≤ n) → length y.1 ≤ n → length z.1 ≤ n → length (cond t x (cond q y z)).1 ≤ n
chosen_shorter true q n x y z h k l = h refl
chosen_shorter false true n x y z h k l = k
chosen_shorter false false n x y z h k l = l

back_behind : (p : ℕ → Bool) (b : ℕ) (bs : Bytes) → p b ≡ true → length (back p (b ∷ bs)) ≤ length bs
back_behind p b bs e = by (p b) e where
  by : (t : Bool) → t ≡ true → length (cond t (back p bs) (b ∷ bs)) ≤ length bs
  by true is = back_shorter p bs
  by false is = absurd cc

pub form_shorter : (b : ℕ) (bs : Bytes) → length (form_at (b ∷ bs)).1 ≤ length bs
unfolding form_at
form_shorter b bs =
    chosen_shorter (is_part b) (b == 34) (length bs) (Run (front is_part (b ∷ bs)), back is_part (b ∷ bs)) (string_form (units_from (length bs) [] bs)) (sign_form (sign_length (b ∷ bs)) (b ∷ bs))
    (back_behind is_part b bs)
    (string_form_shorter (length bs) (units_from (length bs) [] bs) (λ x h. units_shorter (length bs) [] bs x h))
    (sign_form_shorter (sign_length (b ∷ bs)) b bs)

-- ---- the number of tokens is no matter

first_fuel : (p q : Bytes → Tokens) (size : ℕ) (line : Bool) (bs : Bytes) → ((rest : Bytes) → length rest < length bs → p rest ≡ q rest) → first p size line bs ≡ first q size line bs
first_fuel p q size line [] h = refl
first_fuel p q size line (b ∷ bs) h =
    ap (λ (ts : Tokens). record { form = (form_at (b ∷ bs)).0; place = record { from = size - length (b ∷ bs); on_new_line = line } } ∷ ts) (h (form_at (b ∷ bs)).1 (omega (arith, form_shorter b bs)))

none : (bs : Bytes) → length bs ≤ 0 → bs ≡ []
none [] h = refl
none (b ∷ bs) h = absurd (omega arith)

no_tokens : (m size : ℕ) → tokens_from m size [] ≡ []
unfolding tokens_from
no_tokens zero size = refl
no_tokens (suc m) size = refl

tokens_fuel : (n m size : ℕ) (bs : Bytes) → length bs ≤ n → length bs ≤ m → tokens_from n size bs ≡ tokens_from m size bs
unfolding tokens_from
tokens_fuel zero m size bs l k = rw (none bs l) (sym (no_tokens m size))
tokens_fuel (suc n) zero size bs l k = rw (none bs k) refl
tokens_fuel (suc n) (suc m) size bs l k =
    first_fuel (λ rest. tokens_from n size rest) (λ rest. tokens_from m size rest) size (line_ends false bs) (back is_blank bs)
    (λ rest h. tokens_fuel n m size rest (omega (arith, back_shorter is_blank bs)) (omega (arith, back_shorter is_blank bs)))

-- the tokens of bytes, from the one at the front
pub tokens_step : (size : ℕ) (bs : Bytes) → tokens_of size bs ≡ first (λ rest. tokens_of size rest) size (line_ends false bs) (back is_blank bs)
unfolding tokens_of tokens_from
tokens_step size [] = refl
tokens_step size (b ∷ bs) =
    first_fuel (λ rest. tokens_from (length bs) size rest) (λ rest. tokens_from (length rest) size rest) size (line_ends false (b ∷ bs)) (back is_blank (b ∷ bs))
    (λ rest h. tokens_fuel (length bs) (length rest) size rest (omega (arith, back_shorter is_blank (b ∷ bs))) (omega arith))

-- ---- what is asked of the front

place_first : (size : ℕ) (p : Bytes → Tokens) (line : Bool) (bs : Bytes) → place size (first p size line bs) ≡ size - length bs
place_first size p line [] = omega arith
place_first size p line (b ∷ bs) = refl

pub place_is : (size : ℕ) (bs : Bytes) → place size (tokens_of size bs) ≡ size - length (back is_blank bs)
place_is size bs = ap (place size) (tokens_step size bs) ∙ place_first size (λ rest. tokens_of size rest) (line_ends false bs) (back is_blank bs)

abbrev is_none_left : Bytes → Bool
is_none_left [] = true
is_none_left (b ∷ bs) = false

end_first : (size : ℕ) (p : Bytes → Tokens) (line : Bool) (bs : Bytes) → is_end (first p size line bs) ≡ is_none_left bs
end_first size p line [] = refl
end_first size p line (b ∷ bs) = refl

pub at_end : (size : ℕ) (bs : Bytes) → back is_blank bs ≡ [] → is_end (tokens_of size bs) ≡ true
at_end size bs e = ap is_end (tokens_step size bs) ∙ (end_first size (λ rest. tokens_of size rest) (line_ends false bs) (back is_blank bs) ∙ ap is_none_left e)

pub before_end : (size : ℕ) (bs : Bytes) (b : ℕ) (rest : Bytes) → back is_blank bs ≡ b ∷ rest → is_end (tokens_of size bs) ≡ false
before_end size bs b rest e = ap is_end (tokens_step size bs) ∙ (end_first size (λ r. tokens_of size r) (line_ends false bs) (back is_blank bs) ∙ ap is_none_left e)

line_first : (size : ℕ) (p : Bytes → Tokens) (line : Bool) (bs : Bytes) → on_new_line (first p size line bs) ≡ (not (is_end (first p size line bs)) && line)
line_first size p line [] = refl
line_first size p line (b ∷ bs) = refl

pub line_is : (size : ℕ) (bs : Bytes) → on_new_line (tokens_of size bs) ≡ (not (is_end (tokens_of size bs)) && line_ends false bs)
line_is size bs =
    rw tokens_step (line_first size (λ rest. tokens_of size rest) (line_ends false bs) (back is_blank bs))

-- ---- the form at the front

pick_first : (t q : Bool) (x y z : Form × Bytes) → t ≡ true → cond t x (cond q y z) ≡ x
pick_first true q x y z e = refl
pick_first false q x y z e = absurd cc

pick_second : (t q : Bool) (x y z : Form × Bytes) → t ≡ false → q ≡ true → cond t x (cond q y z) ≡ y
pick_second true q x y z e f = absurd cc
pick_second false true x y z e f = refl
pick_second false false x y z e f = absurd cc

pick_third : (t q : Bool) (x y z : Form × Bytes) → t ≡ false → q ≡ false → cond t x (cond q y z) ≡ z
pick_third true q x y z e f = absurd cc
pick_third false true x y z e f = absurd cc
pick_third false false x y z e f = refl

pub form_run : (b : ℕ) (bs : Bytes) → is_part b ≡ true → form_at (b ∷ bs) ≡ (Run (front is_part (b ∷ bs)), back is_part (b ∷ bs))
unfolding form_at
form_run b bs e =
    pick_first (is_part b) (b == 34) (Run (front is_part (b ∷ bs)), back is_part (b ∷ bs)) (string_form (units_from (length bs) [] bs)) (sign_form (sign_length (b ∷ bs)) (b ∷ bs)) e

pub form_string : (b : ℕ) (bs : Bytes) → is_part b ≡ false → (b == 34) ≡ true → form_at (b ∷ bs) ≡ string_form (units_from (length bs) [] bs)
unfolding form_at
form_string b bs e f =
    pick_second (is_part b) (b == 34) (Run (front is_part (b ∷ bs)), back is_part (b ∷ bs)) (string_form (units_from (length bs) [] bs)) (sign_form (sign_length (b ∷ bs)) (b ∷ bs)) e f

pub form_sign : (b : ℕ) (bs : Bytes) → is_part b ≡ false → (b == 34) ≡ false → form_at (b ∷ bs) ≡ sign_form (sign_length (b ∷ bs)) (b ∷ bs)
unfolding form_at
form_sign b bs e f =
    pick_third (is_part b) (b == 34) (Run (front is_part (b ∷ bs)), back is_part (b ∷ bs)) (string_form (units_from (length bs) [] bs)) (sign_form (sign_length (b ∷ bs)) (b ∷ bs)) e f

front_none : (p : ℕ → Bool) (b : ℕ) (bs : Bytes) → p b ≡ false → front p (b ∷ bs) ≡ []
front_none p b bs e = by (p b) e where
  by : (t : Bool) → t ≡ false → cond t (b ∷ front p bs) [] ≡ []
  by true is = absurd cc
  by false is = refl

-- a quote and a byte of a run begin no sign
no_sign : (b : ℕ) (bs : Bytes) → (is_part b || b == 34) ≡ true → sign_length (b ∷ bs) ≡ 0
unfolding sign_length
no_sign b bs e = by (is_part b || b == 34) e where
  by : (t : Bool) → t ≡ true → cond t 0 (length_from b bs) ≡ 0
  by true is = refl
  by false is = absurd cc

string_no_word : (o : Option (List ℕ × Bytes)) → word_by (string_form o).0 ≡ []
string_no_word None = refl
string_no_word (Some x) = refl

string_no_sign : (o : Option (List ℕ × Bytes)) → sign_by (string_form o).0 ≡ []
string_no_sign None = refl
string_no_sign (Some x) = refl

sign_no_word : (n : ℕ) (bs : Bytes) → word_by (sign_form n bs).0 ≡ []
sign_no_word zero bs = refl
sign_no_word (suc n) bs = refl

sign_no_string : (n : ℕ) (bs : Bytes) → string_by (sign_form n bs).0 ≡ None
sign_no_string zero bs = refl
sign_no_string (suc n) bs = refl

sign_is_sign : (n : ℕ) (bs : Bytes) → sign_by (sign_form n bs).0 ≡ take n bs
sign_is_sign zero bs = refl
sign_is_sign (suc n) bs = refl

word_form : (b : ℕ) (bs : Bytes) → word_by (form_at (b ∷ bs)).0 ≡ front is_part (b ∷ bs)
word_form b bs = elim (tells (is_part b)) [
  | inl e ↦ ap (λ (f : Form × Bytes). word_by f.0) (form_run b bs e)
  | inr e ↦ elim (tells (b == 34)) [
    | inl q ↦ ap (λ (f : Form × Bytes). word_by f.0) (form_string b bs e q) ∙ (string_no_word (units_from (length bs) [] bs) ∙ sym (front_none is_part b bs e))
    | inr q ↦ ap (λ (f : Form × Bytes). word_by f.0) (form_sign b bs e q) ∙ (sign_no_word (sign_length (b ∷ bs)) (b ∷ bs) ∙ sym (front_none is_part b bs e))
  ]
]

or_first : (x y : Bool) → x ≡ true → (x || y) ≡ true
or_first true y e = refl
or_first false y e = absurd cc

or_second : (x y : Bool) → y ≡ true → (x || y) ≡ true
or_second true y e = refl
or_second false y e = e

pub not_first : (x y : Bool) → (x || y) ≡ false → x ≡ false
not_first true y e = absurd cc
not_first false y e = refl

pub not_second : (x y : Bool) → (x || y) ≡ false → y ≡ false
not_second true y e = absurd cc
not_second false y e = e

sign_form_is : (b : ℕ) (bs : Bytes) → sign_by (form_at (b ∷ bs)).0 ≡ take (sign_length (b ∷ bs)) (b ∷ bs)
sign_form_is b bs = elim (tells (is_part b)) [
  | inl e ↦ ap (λ (f : Form × Bytes). sign_by f.0) (form_run b bs e) ∙ sym (ap (λ (n : ℕ). take n (b ∷ bs)) (no_sign b bs (or_first (is_part b) (b == 34) e)))
  | inr e ↦ elim (tells (b == 34)) [
    | inl q ↦ ap (λ (f : Form × Bytes). sign_by f.0) (form_string b bs e q)
        ∙ (string_no_sign (units_from (length bs) [] bs) ∙ sym (ap (λ (n : ℕ). take n (b ∷ bs)) (no_sign b bs (or_second (is_part b) (b == 34) q))))
    | inr q ↦ ap (λ (f : Form × Bytes). sign_by f.0) (form_sign b bs e q) ∙ sign_is_sign (sign_length (b ∷ bs)) (b ∷ bs)
  ]
]

word_first : (size : ℕ) (p : Bytes → Tokens) (line : Bool) (bs : Bytes) → word_of (first p size line bs) ≡ front is_part bs
word_first size p line [] = refl
word_first size p line (b ∷ bs) = word_form b bs

pub word_is : (size : ℕ) (bs : Bytes) → word_of (tokens_of size bs) ≡ front is_part (back is_blank bs)
word_is size bs = ap word_of (tokens_step size bs) ∙ word_first size (λ rest. tokens_of size rest) (line_ends false bs) (back is_blank bs)

sign_first : (size : ℕ) (p : Bytes → Tokens) (line : Bool) (bs : Bytes) → sign_of (first p size line bs) ≡ take (sign_length bs) bs
unfolding sign_length
sign_first size p line [] = refl
sign_first size p line (b ∷ bs) = sign_form_is b bs

pub sign_is : (size : ℕ) (bs : Bytes) → sign_of (tokens_of size bs) ≡ take (sign_length (back is_blank bs)) (back is_blank bs)
sign_is size bs = ap sign_of (tokens_step size bs) ∙ sign_first size (λ rest. tokens_of size rest) (line_ends false bs) (back is_blank bs)

-- ---- what follows

behind_first : (size : ℕ) (p : Bytes → Tokens) (line : Bool) (b : ℕ) (bs : Bytes) → behind (first p size line (b ∷ bs)) ≡ p (form_at (b ∷ bs)).1
behind_first size p line b bs = refl

pub behind_is : (size : ℕ) (bs : Bytes) (b : ℕ) (rest : Bytes) → back is_blank bs ≡ b ∷ rest → behind (tokens_of size bs) ≡ tokens_of size (form_at (b ∷ rest)).1
behind_is size bs b rest e =
    ap behind (tokens_step size bs) ∙ (ap (λ (r : Bytes). behind (first (λ x. tokens_of size x) size (line_ends false bs) r)) e ∙ behind_first size (λ x. tokens_of size x) (line_ends false bs) b rest)

after_by : (text : Bytes) (x y : Tokens) (b : ℕ) (more : Bytes) → text ≡ b ∷ more → cond (is_some_text text) x y ≡ x
after_by [] x y b more e = absurd cc
after_by (c ∷ text) x y b more e = refl

after_none : (text : Bytes) (x y : Tokens) → text ≡ [] → cond (is_some_text text) x y ≡ y
after_none [] x y e = refl
after_none (c ∷ text) x y e = absurd cc

pub word_missing : (size : ℕ) (bs : Bytes) → front is_part (back is_blank bs) ≡ [] → after_word (tokens_of size bs) ≡ tokens_of size bs
unfolding after_word
word_missing size bs e = after_none (word_of (tokens_of size bs)) (behind (tokens_of size bs)) (tokens_of size bs) (word_is size bs ∙ e)

run_rest : (size : ℕ) (bs r : Bytes) (c : ℕ) (more : Bytes) → back is_blank bs ≡ r → front is_part r ≡ c ∷ more → behind (tokens_of size bs) ≡ tokens_of size (back is_part r)
run_rest size bs [] c more is e = absurd cc
run_rest size bs (b ∷ r) c more is e = elim (tells (is_part b)) [
  | inl t ↦ behind_is size bs b r is ∙ ap (λ (f : Form × Bytes). tokens_of size f.1) (form_run b r t)
  | inr t ↦ let empty = front_none is_part b r t in absurd cc
]

pub word_taken : (size : ℕ) (bs : Bytes) (c : ℕ) (more : Bytes) → front is_part (back is_blank bs) ≡ c ∷ more → after_word (tokens_of size bs) ≡ tokens_of size (back is_part (back is_blank bs))
unfolding after_word
word_taken size bs c more e =
    after_by (word_of (tokens_of size bs)) (behind (tokens_of size bs)) (tokens_of size bs) c more (word_is size bs ∙ e) ∙ run_rest size bs (back is_blank bs) c more refl e

pub sign_missing : (size : ℕ) (bs : Bytes) → take (sign_length (back is_blank bs)) (back is_blank bs) ≡ [] → after_sign (tokens_of size bs) ≡ tokens_of size bs
unfolding after_sign
sign_missing size bs e = after_none (sign_of (tokens_of size bs)) (behind (tokens_of size bs)) (tokens_of size bs) (sign_is size bs ∙ e)

sign_form_rest : (n : ℕ) (r : Bytes) (c : ℕ) (more : Bytes) → take n r ≡ c ∷ more → (sign_form n r).1 ≡ drop n r
sign_form_rest zero r c more e = absurd cc
sign_form_rest (suc n) r c more e = refl

nothing_taken : (n : ℕ) (r : Bytes) (c : ℕ) (more : Bytes) → n ≡ 0 → take n r ≡ c ∷ more → ⊥
nothing_taken zero r c more z e = cc
nothing_taken (suc n) r c more z e = omega arith

sign_rest : (size : ℕ) (bs r : Bytes) (c : ℕ) (more : Bytes) → back is_blank bs ≡ r → take (sign_length r) r ≡ c ∷ more → behind (tokens_of size bs) ≡ tokens_of size (drop (sign_length r) r)
sign_rest size bs [] c more is e = absurd (nothing_taken (sign_length []) [] c more (unfold sign_length in refl) e)
sign_rest size bs (b ∷ r) c more is e = elim (tells (is_part b || b == 34)) [
  | inl t ↦ absurd (nothing_taken (sign_length (b ∷ r)) (b ∷ r) c more (no_sign b r t) e)
  | inr t ↦
      behind_is size bs b r is ∙ (ap (λ (f : Form × Bytes). tokens_of size f.1) (form_sign b r (not_first (is_part b) (b == 34) t) (not_second (is_part b) (b == 34) t))
      ∙ ap (λ (x : Bytes). tokens_of size x) (sign_form_rest (sign_length (b ∷ r)) (b ∷ r) c more e))
]

pub sign_taken : (size : ℕ) (bs : Bytes) (c : ℕ) (more : Bytes) → take (sign_length (back is_blank bs)) (back is_blank bs) ≡ c ∷ more
    → after_sign (tokens_of size bs) ≡ tokens_of size (drop (sign_length (back is_blank bs)) (back is_blank bs))
unfolding after_sign
sign_taken size bs c more e =
    after_by (sign_of (tokens_of size bs)) (behind (tokens_of size bs)) (tokens_of size bs) c more (sign_is size bs ∙ e) ∙ sign_rest size bs (back is_blank bs) c more refl e

-- ---- strings

string_of_form : (o : Option (List ℕ × Bytes)) (x : List ℕ × Bytes) → o ≡ Some x → (string_by (string_form o).0 ≡ Some x.0) × ((string_form o).1 ≡ x.1)
string_of_form None x e = absurd cc
string_of_form (Some y) x e = let is = some_is y x e in (ap (λ (z : List ℕ × Bytes). Some z.0) is, ap (λ (z : List ℕ × Bytes). z.1) is)

no_string_form : (o : Option (List ℕ × Bytes)) → o ≡ None → string_by (string_form o).0 ≡ None
no_string_form None e = refl
no_string_form (Some y) e = absurd cc

quote_begins : (b : ℕ) (bs : Bytes) (x : List ℕ × Bytes) → quoted (b ∷ bs) ≡ Some x → ((b == 34) ≡ true) × (units_from (length bs) [] bs ≡ Some x)
unfolding quoted
quote_begins b bs x e = by (b == 34) e where
  by : (t : Bool) → cond t (units_from (length bs) [] bs) None ≡ Some x → (t ≡ true) × (units_from (length bs) [] bs ≡ Some x)
  by true is = (refl, is)
  by false is = absurd cc

quote_none : (b : ℕ) (bs : Bytes) → quoted (b ∷ bs) ≡ None → (b == 34) ≡ true → units_from (length bs) [] bs ≡ None
unfolding quoted
quote_none b bs e q = by (b == 34) e q where
  by : (t : Bool) → cond t (units_from (length bs) [] bs) None ≡ None → t ≡ true → units_from (length bs) [] bs ≡ None
  by true is t = is
  by false is t = absurd cc

no_quote_part : (b : ℕ) → (b == 34) ≡ true → is_part b ≡ false
no_quote_part b e = let is = eqb-true b 34 e in ap is_part is

quote_none_left : (x : List ℕ × Bytes) → quoted [] ≡ Some x → ⊥
unfolding quoted
quote_none_left x e = cc

string_form_read : (b : ℕ) (bs : Bytes) (x : List ℕ × Bytes) → quoted (b ∷ bs) ≡ Some x → (string_by (form_at (b ∷ bs)).0 ≡ Some x.0) × ((form_at (b ∷ bs)).1 ≡ x.1)
string_form_read b bs x e =
    let q = quote_begins b bs x e in
    let form = form_string b bs (no_quote_part b q.0) q.0 in
    let of = string_of_form (units_from (length bs) [] bs) x q.1 in
    (ap (λ (f : Form × Bytes). string_by f.0) form ∙ of.0, ap (λ (f : Form × Bytes). f.1) form ∙ of.1)

string_form_none : (b : ℕ) (bs : Bytes) → quoted (b ∷ bs) ≡ None → string_by (form_at (b ∷ bs)).0 ≡ None
string_form_none b bs e = elim (tells (b == 34)) [
  | inl q ↦ ap (λ (f : Form × Bytes). string_by f.0) (form_string b bs (no_quote_part b q) q) ∙ no_string_form (units_from (length bs) [] bs) (quote_none b bs e q)
  | inr q ↦ elim (tells (is_part b)) [
    | inl p ↦ ap (λ (f : Form × Bytes). string_by f.0) (form_run b bs p)
    | inr p ↦ ap (λ (f : Form × Bytes). string_by f.0) (form_sign b bs p q) ∙ sign_no_string (sign_length (b ∷ bs)) (b ∷ bs)
  ]
]

no_string_first : (size : ℕ) (p : Bytes → Tokens) (line : Bool) (bs : Bytes) → quoted bs ≡ None → string_of (first p size line bs) ≡ None
no_string_first size p line [] e = refl
no_string_first size p line (b ∷ bs) e = string_form_none b bs e

pub no_string : (size : ℕ) (bs : Bytes) → quoted (back is_blank bs) ≡ None → string_of (tokens_of size bs) ≡ None
no_string size bs e = ap string_of (tokens_step size bs) ∙ no_string_first size (λ rest. tokens_of size rest) (line_ends false bs) (back is_blank bs) e

string_first : (size : ℕ) (line : Bool) (bs : Bytes) (x : List ℕ × Bytes) → quoted bs ≡ Some x
    → (string_of (first (λ r. tokens_of size r) size line bs) ≡ Some x.0) × (behind (first (λ r. tokens_of size r) size line bs) ≡ tokens_of size x.1)
string_first size line [] x e = absurd (quote_none_left x e)
string_first size line (b ∷ bs) x e = let h = string_form_read b bs x e in (h.0, ap (λ (r : Bytes). tokens_of size r) h.1)

pub string_read : (size : ℕ) (bs : Bytes) (us : List ℕ) (rest : Bytes) → quoted (back is_blank bs) ≡ Some (us, rest)
    → (string_of (tokens_of size bs) ≡ Some us) × (behind (tokens_of size bs) ≡ tokens_of size rest)
string_read size bs us rest e =
    let h = string_first size (line_ends false bs) (back is_blank bs) (us, rest) e in
    let step = tokens_step size bs in
    (ap string_of step ∙ h.0, ap behind step ∙ h.1)
