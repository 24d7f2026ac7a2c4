-- Fronts of bytes, and what follows them.
use Rattle.std.proofs.Common.{◌≡◌, ℕ, suc, ◌-◌, ◌≤◌, Bool, true, false, cond, [], ◌∷◌, ◌++◌, length, take, refl, ap, ◌∙◌, ◌⊎◌, inl, inr, arith}
use Rattle.std.specs.Prelude.{◌&&◌, ◌||◌, ◌==◌}
use Rattle.std.proofs.lemmas.List.{take_at, length-append}
use Rattle.js_tree.specs.Tokens.{Bytes, is_part, is_blank, ends_line}
use Rattle.js_reader.specs.Scanning.{front, back, begins, begins_twice, is_single, length_from, sign_length, line_ends}

pub tells : (b : Bool) → (b ≡ true) ⊎ (b ≡ false)
tells true = inl refl
tells false = inr refl

pub clash : {b : Bool} → b ≡ true → b ≡ false → ⊥
clash t n = cc

pub front-back : (p : ℕ → Bool) (bs : Bytes) → bs ≡ front p bs ++ back p bs
front-back p [] = refl
front-back p (b ∷ bs) = elim (tells (p b)) [ inl e ↦ rw e (ap (λ (xs : Bytes). b ∷ xs) (front-back p bs)) | inr e ↦ rw e refl ]

pub back_shorter : (p : ℕ → Bool) (bs : Bytes) → length (back p bs) ≤ length bs
back_shorter p bs = omega (arith, ap length (front-back p bs), length-append (front p bs) (back p bs))

pub front_taken : (p : ℕ → Bool) (bs : Bytes) → take (length bs - length (back p bs)) bs ≡ front p bs
front_taken p bs =
    let parts = front-back p bs in
    let len : length bs - length (back p bs) ≡ length (front p bs) = omega (arith, ap length parts, length-append (front p bs) (back p bs)) in
    ap (λ (n : ℕ). take n bs) len ∙ (ap (take (length (front p bs))) parts ∙ take_at (front p bs) (back p bs) (length (front p bs)) refl)

begins_long : (wanted : ℕ) (bs : Bytes) → begins wanted bs ≡ true → 1 ≤ length bs
begins_long wanted [] h = absurd cc
begins_long wanted (b ∷ bs) h = omega arith

begins_twice_long : (wanted : ℕ) (bs : Bytes) → begins_twice wanted bs ≡ true → 2 ≤ length bs
begins_twice_long wanted [] h = absurd cc
begins_twice_long wanted (b ∷ bs) h = by (b == wanted) h where
  by : (t : Bool) → (t && begins wanted bs) ≡ true → 2 ≤ suc (length bs)
  by true e = omega (arith, begins_long wanted bs e)
  by false e = absurd cc

length_fits : (b : ℕ) (bs : Bytes) → length_from b bs ≤ suc (length bs)
length_fits b bs = equals (b == 61) where
  last : (t : Bool) → cond t 1 0 ≤ suc (length bs)
  last true = omega arith
  last false = omega arith

  two : (t : Bool) → begins 61 bs ≡ t → cond t 2 1 ≤ suc (length bs)
  two true e = omega (arith, begins_long 61 bs e)
  two false e = omega arith

  order : (t : Bool) → cond t (cond (begins 61 bs) 2 1) (cond (is_single b) 1 0) ≤ suc (length bs)
  order true = two (begins 61 bs) refl
  order false = last (is_single b)

  three : (t : Bool) → begins_twice 61 bs ≡ t → cond t 3 1 ≤ suc (length bs)
  three true e = omega (arith, begins_twice_long 61 bs e)
  three false e = omega arith

  equals : (t : Bool) → cond t (cond (begins_twice 61 bs) 3 1) (cond (◌||◌ (b == 60) (b == 62)) (cond (begins 61 bs) 2 1) (cond (is_single b) 1 0)) ≤ suc (length bs)
  equals true = three (begins_twice 61 bs) refl
  equals false = order (◌||◌ (b == 60) (b == 62))

pub sign_fits : (bs : Bytes) → sign_length bs ≤ length bs
unfolding sign_length
sign_fits [] = omega arith
sign_fits (b ∷ bs) = by (◌||◌ (is_part b) (b == 34)) where
  by : (t : Bool) → cond t 0 (length_from b bs) ≤ suc (length bs)
  by true = omega arith
  by false = length_fits b bs

pub line_ended : (bs : Bytes) → line_ends true bs ≡ true
line_ended [] = refl
line_ended (b ∷ bs) = elim (tells (is_blank b)) [ inl e ↦ rw e (line_ended bs) | inr e ↦ rw e refl ]

pub line_ends_here : (b : ℕ) (bs : Bytes) → is_blank b ≡ true → ends_line b ≡ true → line_ends false (b ∷ bs) ≡ true
line_ends_here b bs blank ends =
    let go : (t u : Bool) → t ≡ true → u ≡ true → cond t (line_ends (◌||◌ false u) bs) false ≡ true = λ t u x y. rw (x, y) (line_ended bs) in
    go (is_blank b) (ends_line b) blank ends
