-- Lists in which each selector stands once.
use Rattle.std.proofs.Common.{◌≡◌, ℕ, zero, suc, ◌+◌, ◌<◌, Bool, true, false, cond, List, [], ◌∷◌, ◌++◌, length, get_or, Some, refl, sym, ap, ◌∙◌, arith, add-zero}
use Rattle.std.specs.Prelude.{◌||◌, slice_get}
use Rattle.std.specs.List.{list_any, IsDistinct}
use Rattle.std.proofs.lemmas.List.Folds.{list_any-append}
use Rattle.std.proofs.lemmas.Map.Keys.{IsDistinct-push, IsDistinct-tail, apart_from_distinct}
use Rattle.std.proofs.lemmas.Map.Steps.{list_any_congr}
use Rattle.std.proofs.lemmas.Option.{same_Some, slice_get_within, get_or_from_slice_get}
use Rattle.selectors.specs.declared.selector.Selector.{Selector}
use Rattle.selectors.specs.Selectors.{same_selector, first_seen, number_in}
use Rattle.selectors.proofs.Same.{selector_same, selector_from_same, same_equivalence}

pub seen_behind : (seen xs ys : List Selector) → first_seen seen (xs ++ ys) ≡ first_seen (first_seen seen xs) ys
seen_behind seen [] ys = refl
seen_behind seen (x ∷ xs) ys = seen_behind (first_seen seen (x ∷ [])) xs ys

pub seen_once : (seen xs : List Selector) → IsDistinct same_selector seen → IsDistinct same_selector (first_seen seen xs)
seen_once seen [] h = h
seen_once seen (x ∷ xs) h = seen_once (first_seen seen (x ∷ [])) xs (by (list_any (same_selector x) seen) refl) where
  by : (b : Bool) → list_any (same_selector x) seen ≡ b → IsDistinct same_selector (cond b seen (seen ++ x ∷ []))
  by true e = h
  by false e = IsDistinct-push same_equivalence seen x h e

-- ---- what is seen is what stands anywhere

or_false : (a : Bool) → a ≡ (a || false)
or_false true = refl
or_false false = refl

joined : (a p r : Bool) → ((a || (p || false)) || r) ≡ (a || (p || r))
joined true p r = refl
joined false true r = refl
joined false false r = refl

known : (a p r : Bool) → (p ≡ true → a ≡ true) → (a || r) ≡ (a || (p || r))
known true p r h = refl
known false true r h = let none : false ≡ true = h refl in cc
known false false r h = refl

pub seen_any : (s : Selector) (seen xs : List Selector) → list_any (same_selector s) (first_seen seen xs) ≡ (list_any (same_selector s) seen || list_any (same_selector s) xs)
seen_any s seen [] = or_false (list_any (same_selector s) seen)
seen_any s seen (x ∷ xs) = seen_any s (first_seen seen (x ∷ [])) xs ∙ by (list_any (same_selector x) seen) refl where
  by : (b : Bool) → list_any (same_selector x) seen ≡ b → (list_any (same_selector s) (cond b seen (seen ++ x ∷ [])) || list_any (same_selector s) xs) ≡ (list_any (same_selector s) seen || (same_selector s x || list_any (same_selector s) xs))
  by true e = known (list_any (same_selector s) seen) (same_selector s x) (list_any (same_selector s) xs) (λ h. list_any_congr same_equivalence s x seen h ∙ e)
  by false e =
      ap (λ b. b || list_any (same_selector s) xs) (list_any-append (same_selector s) seen (x ∷ []))
      ∙ joined (list_any (same_selector s) seen) (same_selector s x) (list_any (same_selector s) xs)

-- ---- numbers are places

pub place_numbered : (n : ℕ) (l : List Selector) (k : ℕ) (s : Selector) → IsDistinct same_selector l → slice_get l k ≡ Some s → number_in n s l ≡ Some (n + k)
place_numbered n [] k s h e = cc
place_numbered n (t ∷ rest) zero s h e =
    ap (λ b. cond b (Some n) (number_in (suc n) s rest)) (selector_from_same s t (sym (same_Some t s e)))
    ∙ ap (λ (k : ℕ). Some k) (sym (add-zero n))
place_numbered n (t ∷ rest) (suc k) s h e =
    let within : k < length rest = slice_get_within rest k s e in
    let first : 0 < suc k = omega arith in
    let second : suc k < length (t ∷ rest) = omega arith in
    let apart : same_selector t (get_or rest k t) ≡ false = apart_from_distinct same_selector (t ∷ rest) 0 (suc k) t h first second in
    let other : same_selector s t ≡ false = same_equivalence.symm s t ∙ ap (same_selector t) (sym (get_or_from_slice_get rest k s t e)) ∙ apart in
    let behind : suc n + k ≡ n + suc k = omega arith in
    ap (λ b. cond b (Some n) (number_in (suc n) s rest)) other
    ∙ place_numbered (suc n) rest k s (IsDistinct-tail same_selector t rest h) e
    ∙ ap (λ (i : ℕ). Some i) behind

-- A selector stands at its number.
pub record IsThere (n : ℕ) (s : Selector) (l : List Selector) (number : ℕ) : Type 0 where
  pub place : ℕ
  pub numbered : number ≡ n + place
  pub stands : slice_get l place ≡ Some s

pub number_there : (n : ℕ) (s : Selector) (l : List Selector) (number : ℕ) → number_in n s l ≡ Some number → IsThere n s l number
number_there n s [] number e = cc
number_there n s (t ∷ rest) number e = by (same_selector s t) refl e (number_there (suc n) s rest number) where
  by : (b : Bool) → same_selector s t ≡ b → cond b (Some n) (number_in (suc n) s rest) ≡ Some number → (number_in (suc n) s rest ≡ Some number → IsThere (suc n) s rest number) → IsThere n s (t ∷ rest) number
  by true h e more = record { place = 0; numbered = sym (same_Some n number e) ∙ sym (add-zero n); stands = ap (λ u. Some u) (sym (selector_same s t h)) }
  by false h e more =
      let r = more e in
      let next : number ≡ n + suc r.place = omega (arith, r.numbered) in
      record { place = suc r.place; numbered = next; stands = r.stands }
