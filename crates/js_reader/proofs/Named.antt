-- Names, and lists of names.
use Rattle.std.proofs.Common.{◌≡◌, ℕ, Bool, true, false, cond, List, [], ◌∷◌, ◌++◌, map, reverse, refl, ap, ◌∙◌}
use Rattle.std.specs.Prelude.{not, ◌&&◌, ◌||◌}
use Rattle.std.specs.List.{list_all, list_any}
use Rattle.std.specs.Str.{bytes_eq}
use Rattle.std.proofs.lemmas.List.{map-append, reverse-append}
use Rattle.js_tree.specs.Tokens.{Bytes, is_part}
use Rattle.js_tree.specs.Grammar.{is_among}
use Rattle.js_reader.specs.Scanning.{back}
use Rattle.js_reader.specs.Taking.{added}

pub all_of : (p : ℕ → Bool) (bs : Bytes) → back p bs ≡ [] → list_all p bs ≡ true
all_of p [] e = refl
all_of p (b ∷ bs) e = by (p b) e (λ h. all_of p bs h) where
  by : (t : Bool) → cond t (back p bs) (b ∷ bs) ≡ [] → (back p bs ≡ [] → list_all p bs ≡ true) → (t && list_all p bs) ≡ true
  by true is again = again is
  by false is again = absurd cc

pub not_all : (p : ℕ → Bool) (bs : Bytes) (c : ℕ) (more : Bytes) → back p bs ≡ c ∷ more → list_all p bs ≡ false
not_all p [] c more e = absurd cc
not_all p (b ∷ bs) c more e = by (p b) e (λ h. not_all p bs c more h) where
  by : (t : Bool) → cond t (back p bs) (b ∷ bs) ≡ c ∷ more → (back p bs ≡ c ∷ more → list_all p bs ≡ false) → (t && list_all p bs) ≡ false
  by true is again = again is
  by false is again = refl

pub all_parts : (bs : Bytes) → back is_part bs ≡ [] → list_all is_part bs ≡ true
all_parts bs e = all_of is_part bs e

pub other_part : (bs : Bytes) (c : ℕ) (more : Bytes) → back is_part bs ≡ c ∷ more → list_all is_part bs ≡ false
other_part bs c more e = not_all is_part bs c more e

-- ---- the names that are declared, last one first

any_append : {X : Type 0} (p : X → Bool) (xs ys : List X) → list_any p (xs ++ ys) ≡ (list_any p xs || list_any p ys)
any_append p [] ys = refl
any_append p (x ∷ xs) ys = by (p x) (any_append p xs ys) where
  by : (t : Bool) → list_any p (xs ++ ys) ≡ (list_any p xs || list_any p ys) → (t || list_any p (xs ++ ys)) ≡ ((t || list_any p xs) || list_any p ys)
  by true e = refl
  by false e = e

reverse_cons : {X : Type 0} (x : X) (xs : List X) → reverse (x ∷ xs) ≡ reverse xs ++ x ∷ []
reverse_cons x xs = reverse-append (x ∷ []) xs

or_swap : (x y : Bool) → (x || (y || false)) ≡ (y || x)
or_swap true true = refl
or_swap true false = refl
or_swap false true = refl
or_swap false false = refl

pub any_reverse : {X : Type 0} (p : X → Bool) (xs : List X) → list_any p (reverse xs) ≡ list_any p xs
any_reverse p [] = refl
any_reverse p (x ∷ xs) =
    ap (list_any p) (reverse_cons x xs) ∙ (any_append p (reverse xs) (x ∷ []) ∙ (or_swap (list_any p (reverse xs)) (p x) ∙ ap (λ (b : Bool). p x || b) (any_reverse p xs)))

any_map : {X Y : Type 0} (p : Y → Bool) (f : X → Y) (xs : List X) → list_any p (map f xs) ≡ list_any (λ x. p (f x)) xs
any_map p f [] = refl
any_map p f (x ∷ xs) = ap (λ (b : Bool). p (f x) || b) (any_map p f xs)

pub among_reversed : {K : Type 0} (f : K → Bytes) (x : Bytes) (ks : List K) → is_among (reverse (map f ks)) x ≡ list_any (λ k. bytes_eq x (f k)) ks
among_reversed f x ks = any_reverse (bytes_eq x) (map f ks) ∙ any_map (bytes_eq x) f ks

-- a key that is inserted last stands first
pub inserted : {K : Type 0} (f : K → Bytes) (k : K) (ks : List K) (fresh : Bool) → fresh ≡ not (list_any (λ o. bytes_eq (f k) (f o)) ks)
    → reverse (map f (cond (list_any (λ o. bytes_eq (f k) (f o)) ks) ks (ks ++ k ∷ []))) ≡ added fresh (f k) (reverse (map f ks))
inserted f k ks fresh e = by (list_any (λ o. bytes_eq (f k) (f o)) ks) fresh e where
  by : (t u : Bool) → u ≡ not t → reverse (map f (cond t ks (ks ++ k ∷ []))) ≡ added u (f k) (reverse (map f ks))
  by true true is = absurd cc
  by true false is = refl
  by false true is = ap reverse (map-append f ks (k ∷ [])) ∙ reverse-append (map f ks) (f k ∷ [])
  by false false is = absurd cc
