-- Tables of the names of one home.
use Rattle.std.proofs.Common.{◌≡◌, ℕ, zero, suc, ◌+◌, Bool, true, false, cond, List, [], ◌∷◌, ◌++◌, length, Option, Some, refl, sym, ap, ◌∙◌, arith, add-zero, zero-add}
use Rattle.std.specs.Prelude.{◌&&◌, ◌||◌, is_some, slice_get, option_and_then}
use Rattle.std.specs.List.{list_any}
use Rattle.std.specs.Str.{bytes_eq}
use Rattle.std.proofs.lemmas.List.{append-nil}
use Rattle.selectors.specs.declared.selector.Selector.{Selector}
use Rattle.selectors.specs.Selectors.{same_home, same_selector, number_in}
use Rattle.selectors.specs.Tables.{Table, numbered, entries, table_at}
use Rattle.selectors.proofs.Same.{made, home_itself}

-- ---- numbers by tables are numbers by the list

held : (b : Bool) (n : ℕ) (o p : Option ℕ) → o ≡ p → cond b (Some n) o ≡ cond (b && true) (Some n) p
held true n o p e = refl
held false n o p e = e

other : (b : Bool) (n : ℕ) (p : Option ℕ) → p ≡ cond (b && false) (Some n) p
other true n p = refl
other false n p = refl

pub numbered_is : (x : List ℕ) (home : Option ℕ) (n : ℕ) (l : List Selector) → numbered x (entries n home l) ≡ number_in n (made x home) l
numbered_is x home n [] = refl
numbered_is x home n (s ∷ rest) = by (same_home home s.home) (numbered_is x home (suc n) rest) where
  by : (b : Bool) → numbered x (entries (suc n) home rest) ≡ number_in (suc n) (made x home) rest → numbered x (cond b ((s.text, n) ∷ entries (suc n) home rest) (entries (suc n) home rest)) ≡ cond (bytes_eq x s.text && b) (Some n) (number_in (suc n) (made x home) rest)
  by true e = held (bytes_eq x s.text) n (numbered x (entries (suc n) home rest)) (number_in (suc n) (made x home) rest) e
  by false e = e ∙ other (bytes_eq x s.text) n (number_in (suc n) (made x home) rest)

pub listed_is : (n : ℕ) (s : Selector) (l : List Selector) → is_some (number_in n s l) ≡ list_any (same_selector s) l
listed_is n s [] = refl
listed_is n s (t ∷ rest) = by (same_selector s t) (listed_is (suc n) s rest) where
  by : (b : Bool) → is_some (number_in (suc n) s rest) ≡ list_any (same_selector s) rest → is_some (cond b (Some n) (number_in (suc n) s rest)) ≡ (b || list_any (same_selector s) rest)
  by true e = refl
  by false e = e

-- ---- one selector more

abbrev pub last_entry : Option ℕ → Selector → ℕ → Table
last_entry home s n = cond (same_home home s.home) ((s.text, n) ∷ []) []

choice_joined : {A : Type 0} (b : Bool) (p : A) (xs ys zs : List A) → xs ≡ ys ++ zs → cond b (p ∷ xs) xs ≡ cond b (p ∷ ys) ys ++ zs
choice_joined true p xs ys zs e = ap (λ ws. p ∷ ws) e
choice_joined false p xs ys zs e = e

entries_push : (n : ℕ) (home : Option ℕ) (l : List Selector) (s : Selector) → entries n home (l ++ s ∷ []) ≡ entries n home l ++ last_entry home s (n + length l)
entries_push n home [] s = ap (last_entry home s) (sym (add-zero n))
entries_push n home (t ∷ rest) s =
    let more : suc n + length rest ≡ n + length (t ∷ rest) = omega arith in
    choice_joined (same_home home t.home) (t.text, n) (entries (suc n) home (rest ++ s ∷ [])) (entries (suc n) home rest) (last_entry home s (n + length (t ∷ rest)))
    (entries_push (suc n) home rest s ∙ ap (λ k. entries (suc n) home rest ++ last_entry home s k) more)

pub entries_here : (home : Option ℕ) (l : List Selector) (x : List ℕ) → entries 0 home (l ++ made x home ∷ []) ≡ entries 0 home l ++ (x, length l) ∷ []
entries_here home l x =
    entries_push 0 home l (made x home)
    ∙ ap (λ b. entries 0 home l ++ cond b ((x, 0 + length l) ∷ []) []) (home_itself home)
    ∙ ap (λ k. entries 0 home l ++ (x, k) ∷ []) (zero-add (length l))

pub entries_elsewhere : (home : Option ℕ) (l : List Selector) (s : Selector) → same_home home s.home ≡ false → entries 0 home (l ++ s ∷ []) ≡ entries 0 home l
entries_elsewhere home l s e =
    entries_push 0 home l s
    ∙ ap (λ b. entries 0 home l ++ cond b ((s.text, 0 + length l) ∷ []) []) e
    ∙ append-nil (entries 0 home l)

-- ---- tables of files

pub table_past : (ts : List Table) → table_at ts (length ts) ≡ []
table_past [] = refl
table_past (t ∷ ts) = table_past ts

pub table_last : (ts : List Table) (t : Table) → table_at (ts ++ t ∷ []) (length ts) ≡ t
table_last [] t = refl
table_last (u ∷ ts) t = table_last ts t

pub table_other : (ts : List Table) (t : Table) (i : ℕ) → (i ≡ length ts → ⊥) → table_at (ts ++ t ∷ []) i ≡ table_at ts i
table_other [] t zero ne = absurd (ne refl)
table_other [] t (suc i) ne = refl
table_other (u ∷ ts) t zero ne = refl
table_other (u ∷ ts) t (suc i) ne = table_other ts t i (λ e. ne (ap (λ (k : ℕ). suc k) e))

pub table_found : (x : List ℕ) (ts : List Table) (i : ℕ) → option_and_then (numbered x) (slice_get ts i) ≡ numbered x (table_at ts i)
table_found x [] i = refl
table_found x (t ∷ ts) zero = refl
table_found x (t ∷ ts) (suc i) = table_found x ts i
