-- Fronts of bytes that pass a test.
use Rattle.std.proofs.Common.{◌≡◌, ℕ, ◌-◌, ◌≤◌, Bool, true, false, [], ◌∷◌, ◌++◌, length, take, refl, ap, ◌∙◌, subst, ◌⊎◌, inl, inr, arith}
use Rattle.std.specs.Prelude.{not, ◌&&◌}
use Rattle.std.specs.List.{list_all}
use Rattle.std.proofs.lemmas.List.{take_at, length-append}
use Rattle.dart_syntax.specs.Table.{Bytes, front, back}
use Rattle.dart_syntax.specs.Texts.{begins}

pub tells : (b : Bool) → (b ≡ true) ⊎ (b ≡ false)
tells true = inl refl
tells false = inr refl

pub clash : {b : Bool} → b ≡ true → b ≡ false → ⊥
clash t n = cc

pub not_true : (b : Bool) → not b ≡ true → b ≡ false
not_true true h = absurd cc
not_true false h = refl

pub and_left : (a b : Bool) → (a && b) ≡ true → a ≡ true
and_left true b h = refl
and_left false b h = absurd cc

pub and_right : (a b : Bool) → (a && b) ≡ true → b ≡ true
and_right true b h = h
and_right false b h = absurd cc

pub both_true : {a b : Bool} → a ≡ true → b ≡ true → (a && b) ≡ true
both_true {a} {b} h k = rw (h, k) refl

pub front-back : (p : ℕ → Bool) (bs : Bytes) → bs ≡ front p bs ++ back p bs
front-back p [] = refl
front-back p (b ∷ bs) = elim (tells (p b)) [ inl e ↦ rw e (ap (λ (xs : Bytes). b ∷ xs) (front-back p bs)) | inr e ↦ rw e refl ]

pub front_all : (p : ℕ → Bool) (bs : Bytes) → list_all p (front p bs) ≡ true
front_all p [] = refl
front_all p (b ∷ bs) = elim (tells (p b)) [ inl e ↦ rw e (rw e (front_all p bs)) | inr e ↦ rw e refl ]

-- nothing such begins these bytes
abbrev pub Stops : (ℕ → Bool) → Bytes → Type 0
Stops p bs = (b : ℕ) (more : Bytes) → bs ≡ b ∷ more → p b ≡ false

abbrev head_or : ℕ → Bytes → ℕ
head_or d [] = d
head_or d (b ∷ bs) = b

pub heads : (a b : ℕ) (xs ys : Bytes) → a ∷ xs ≡ b ∷ ys → a ≡ b
heads a b xs ys e = ap (head_or 0) e

pub stops_of : (p : ℕ → Bool) (bs : Bytes) → begins p bs ≡ false → Stops p bs
stops_of p [] h b more e = absurd cc
stops_of p (c ∷ bs) h b more e = subst (λ (y : ℕ). p y ≡ false) (heads c b bs more e) h

pub stops_begins : (p : ℕ → Bool) (bs : Bytes) → Stops p bs → begins p bs ≡ false
stops_begins p [] s = refl
stops_begins p (c ∷ bs) s = s c bs refl

pub back_stops : (p : ℕ → Bool) (bs : Bytes) → Stops p (back p bs)
back_stops p [] b more e = absurd cc
back_stops p (c ∷ bs) b more e = elim (tells (p c)) [
  | inl h ↦ back_stops p bs b more (rw h at e)
  | inr h ↦ subst (λ (y : ℕ). p y ≡ false) (heads c b bs more (rw h at e)) h
]

-- all such bytes before what doesn't begin so
pub front_is : (p : ℕ → Bool) (t rest : Bytes) → list_all p t ≡ true → Stops p rest → front p (t ++ rest) ≡ t
front_is p [] [] a s = refl
front_is p [] (b ∷ rest) a s = rw (s b rest refl) refl
front_is p (b ∷ t) rest a s = elim (tells (p b)) [
  | inl e ↦ rw e (ap (λ (xs : Bytes). b ∷ xs) (front_is p t rest (rw e at a) s))
  | inr e ↦ absurd (let no = rw e at a in cc)
]

pub back_is : (p : ℕ → Bool) (t rest : Bytes) → list_all p t ≡ true → Stops p rest → back p (t ++ rest) ≡ rest
back_is p [] [] a s = refl
back_is p [] (b ∷ rest) a s = rw (s b rest refl) refl
back_is p (b ∷ t) rest a s = elim (tells (p b)) [
  | inl e ↦ rw e (back_is p t rest (rw e at a) s)
  | inr e ↦ absurd (let no = rw e at a in cc)
]

pub all_more : (p : ℕ → Bool) (t u : Bytes) → list_all p t ≡ true → list_all p u ≡ true → list_all p (t ++ u) ≡ true
all_more p [] u a h = h
all_more p (b ∷ t) u a h = elim (tells (p b)) [
  | inl e ↦ rw e (all_more p t u (rw e at a) h)
  | inr e ↦ absurd (let no = rw e at a in cc)
]

pub all_middle : (p : ℕ → Bool) (t : Bytes) (b : ℕ) (u : Bytes) → list_all p (t ++ b ∷ u) ≡ true → p b ≡ true
all_middle p [] b u a = elim (tells (p b)) [ inl e ↦ e | inr e ↦ absurd (let no = rw e at a in cc) ]
all_middle p (c ∷ t) b u a = elim (tells (p c)) [
  | inl e ↦ all_middle p t b u (rw e at a)
  | inr e ↦ absurd (let no = rw e at a in cc)
]

pub all_behind : (p : ℕ → Bool) (t u : Bytes) → list_all p (t ++ u) ≡ true → list_all p u ≡ true
all_behind p [] u a = a
all_behind p (b ∷ t) u a = elim (tells (p b)) [
  | inl e ↦ all_behind p t u (rw e at a)
  | inr e ↦ absurd (let no = rw e at a in cc)
]

pub no_more : (p : ℕ → Bool) (rest more after : Bytes) → Stops p rest → rest ≡ more ++ after → list_all p more ≡ true → more ≡ []
no_more p rest [] after s e a = refl
no_more p rest (c ∷ more) after s e a = absurd (clash (all_middle p [] c more a) (s c (more ++ after) e))

-- the front is what stands before the back
pub front_take : (p : ℕ → Bool) (bs : Bytes) → take (length bs - length (back p bs)) bs ≡ front p bs
front_take p bs =
    let parts = front-back p bs in
    let len : length bs - length (back p bs) ≡ length (front p bs) = omega (arith, ap length parts, length-append (front p bs) (back p bs)) in
    ap (λ (n : ℕ). take n bs) len ∙ (ap (take (length (front p bs))) parts ∙ take_at (front p bs) (back p bs) (length (front p bs)) refl)

pub back_shorter : (p : ℕ → Bool) (bs : Bytes) → length (back p bs) ≤ length bs
back_shorter p bs = omega (arith, ap length (front-back p bs), length-append (front p bs) (back p bs))
