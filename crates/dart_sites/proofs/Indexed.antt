-- The index of names stays one while names are added.
use Rattle.std.proofs.Common.{◌≡◌, ℕ, suc, Bool, true, false, cond, List, [], ◌∷◌, ◌++◌, length, slice_get, Option, Some, None, refl, sym, ap, subst, ◌∙◌, true≢false, is_some}
use Rattle.std.specs.List.{find}
use Rattle.std.specs.Option.{option_map, option_or}
use Rattle.std.specs.Str.{bytes_eq}
use Rattle.std.proofs.lemmas.Slice.Eq.{bytes_eq-Decides}
use denote.Ref.{Bor}
use Rattle.indexmap.specs.IndexMap.{insert_entry}
use Rattle.dart_sites.specs.declared.scopes.Local.{Local}
use Rattle.dart_sites.specs.Names.{has_name, first_at, place_in, IsIndexed}

abbrev pub at_place : List Local → Option ℕ → Option Local
at_place locals None = None
at_place locals (Some i) = slice_get locals i

one_on : (l : Local) (ls : List Local) (o : Option ℕ) → at_place (l ∷ ls) (option_map suc o) ≡ at_place ls o
one_on l ls None = refl
one_on l ls (Some i) = refl

-- what stands at the first place of a name
pub leads : (x : List ℕ) (ls : List Local) → at_place ls (first_at x ls) ≡ find (has_name x) ls
leads x [] = refl
leads x (l ∷ ls) = by (has_name x l) (leads x ls) where
  by : (b : Bool) → at_place ls (first_at x ls) ≡ find (has_name x) ls → at_place (l ∷ ls) (cond b (Some 0) (option_map suc (first_at x ls))) ≡ cond b (Some l) (find (has_name x) ls)
  by true rest = refl
  by false rest = one_on l ls (first_at x ls) ∙ rest

-- one name more
first_push : (x : List ℕ) (ls : List Local) (l : Local) → first_at x (ls ++ l ∷ []) ≡ option_or (first_at x ls) (cond (has_name x l) (Some (length ls)) None)
first_push x [] l = by (has_name x l) where
  by : (b : Bool) → cond b (Some 0) (option_map suc None) ≡ cond b (Some 0) None
  by true = refl
  by false = refl
first_push x (y ∷ ls) l = ap (λ o. cond (has_name x y) (Some 0) (option_map suc o)) (first_push x ls l) ∙ by (has_name x y) (has_name x l) (first_at x ls) where
  by : (b c : Bool) (o : Option ℕ) → cond b (Some 0) (option_map suc (option_or o (cond c (Some (length ls)) None))) ≡ option_or (cond b (Some 0) (option_map suc o)) (cond c (Some (suc (length ls))) None)
  by true c o = refl
  by false true None = refl
  by false false None = refl
  by false c (Some i) = refl

place_push : (x : List ℕ) (es : List (Bor (List ℕ) × ℕ)) (k : Bor (List ℕ)) (n : ℕ) → place_in (es ++ (k, n) ∷ []) x ≡ option_or (place_in es x) (cond (bytes_eq x k.now) (Some n) None)
place_push x [] k n = refl
place_push x (e ∷ es) k n = ap (cond (bytes_eq x e.0.now) (Some e.1)) (place_push x es k n) ∙ by (bytes_eq x e.0.now) where
  by : (b : Bool) → cond b (Some e.1) (option_or (place_in es x) (cond (bytes_eq x k.now) (Some n) None)) ≡ option_or (cond b (Some e.1) (place_in es x)) (cond (bytes_eq x k.now) (Some n) None)
  by true = refl
  by false = refl

absent_last : (es : List (Bor (List ℕ) × ℕ)) (k : Bor (List ℕ)) (n : ℕ) → place_in es k.now ≡ None → insert_entry (λ (a b : Bor (List ℕ)). bytes_eq a.now b.now) es k n ≡ es ++ (k, n) ∷ []
absent_last [] k n e = refl
absent_last (y ∷ ys) k n e = by (bytes_eq k.now y.0.now) e (λ h. absent_last ys k n h) where
  by : (b : Bool) → cond b (Some y.1) (place_in ys k.now) ≡ None → (place_in ys k.now ≡ None → insert_entry (λ (a c : Bor (List ℕ)). bytes_eq a.now c.now) ys k n ≡ ys ++ (k, n) ∷ [])
      → cond b ((y.0, n) ∷ ys) (y ∷ insert_entry (λ (a c : Bor (List ℕ)). bytes_eq a.now c.now) ys k n) ≡ y ∷ ys ++ (k, n) ∷ []
  by true e rest = absurd (true≢false (ap is_some e))
  by false e rest = ap (λ zs. y ∷ zs) (rest e)

unchanged : (o : Option ℕ) → o ≡ option_or o None
unchanged None = refl
unchanged (Some i) = refl

new_name : (es : List (Bor (List ℕ) × ℕ)) (ls : List Local) (l : Local) (k : Bor (List ℕ)) → k.now ≡ l.name.text → IsIndexed es ls → IsIndexed (es ++ (k, length ls) ∷ []) (ls ++ l ∷ [])
new_name es ls l k same was = record {
  places = λ x. place_push x es k (length ls)
      ∙ ap (λ o. option_or o (cond (bytes_eq x k.now) (Some (length ls)) None)) (was.places x)
      ∙ ap (λ y. option_or (first_at x ls) (cond (bytes_eq x y) (Some (length ls)) None)) same
      ∙ sym (first_push x ls l);
}

old_name : (es : List (Bor (List ℕ) × ℕ)) (ls : List Local) (l : Local) (i : ℕ) → place_in es l.name.text ≡ Some i → IsIndexed es ls → IsIndexed es (ls ++ l ∷ [])
old_name es ls l i there was = record { places = λ x. was.places x ∙ by x (bytes_eq x l.name.text) refl ∙ sym (first_push x ls l) } where
  first : first_at l.name.text ls ≡ Some i
  first = sym (was.places l.name.text) ∙ there

  by : (x : List ℕ) (b : Bool) → bytes_eq x l.name.text ≡ b → first_at x ls ≡ option_or (first_at x ls) (cond b (Some (length ls)) None)
  by x true is =
      let at : first_at x ls ≡ Some i = ap (λ y. first_at y ls) ((bytes_eq-Decides x l.name.text).0 is) ∙ first in
      at ∙ ap (λ o. option_or o (Some (length ls))) (sym at)
  by x false is = unchanged (first_at x ls)

-- a name that was not there is put into the index
pub new_pushed : (es es2 : List (Bor (List ℕ) × ℕ)) (ls ls2 : List Local) (l : Local) (k : Bor (List ℕ)) (n : ℕ) → k.now ≡ l.name.text → place_in es k.now ≡ None → n ≡ length ls
    → es2 ≡ insert_entry (λ (a b : Bor (List ℕ)). bytes_eq a.now b.now) es k n → ls2 ≡ ls ++ l ∷ [] → IsIndexed es ls → IsIndexed es2 ls2
new_pushed es es2 ls ls2 l k n same none len e f was =
    subst (λ z. IsIndexed z ls2) (sym (e ∙ absent_last es k n none))
    (subst (λ z. IsIndexed (es ++ (k, n) ∷ []) z) (sym f)
    (subst (λ m. IsIndexed (es ++ (k, m) ∷ []) (ls ++ l ∷ [])) (sym len) (new_name es ls l k same was)))

-- one that was there leaves it as it is
pub old_pushed : (es : List (Bor (List ℕ) × ℕ)) (ls ls2 : List Local) (l : Local) (x : List ℕ) (i : ℕ) → x ≡ l.name.text → place_in es x ≡ Some i → ls2 ≡ ls ++ l ∷ [] → IsIndexed es ls → IsIndexed es ls2
old_pushed es ls ls2 l x i same there f was = subst (λ z. IsIndexed es z) (sym f) (old_name es ls l i (ap (place_in es) (sym same) ∙ there) was)
