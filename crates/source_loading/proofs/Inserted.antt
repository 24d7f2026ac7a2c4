-- Names that are put into tables.
use Rattle.std.proofs.Common.{◌≡◌, ℕ, Bool, true, false, cond, List, [], ◌∷◌, ◌++◌, map, Some, None, refl, sym, ap, ◌∙◌}
use Rattle.std.specs.Map.{lookup}
use Rattle.std.specs.Str.{bytes_eq}
use Rattle.std.proofs.lemmas.List.{map-append}
use Rattle.indexmap.specs.IndexMap.{insert_entry}
use Rattle.source_loading.specs.Numbers.{Table, numbered}

pub lookup_is : {K : Type 0} (text : K → List ℕ) (x : List ℕ) (es : List (K × ℕ)) → lookup (bytes_eq x) (map (λ e. (text e.0, e.1)) es) ≡ lookup (λ k. bytes_eq x (text k)) es
lookup_is text x [] = refl
lookup_is text x (e ∷ es) = ap (cond (bytes_eq x (text e.0)) (Some e.1)) (lookup_is text x es)

absent_last : {K : Type 0} (text : K → List ℕ) (es : List (K × ℕ)) (k : K) (n : ℕ) → lookup (λ y. bytes_eq (text k) (text y)) es ≡ None → insert_entry (λ a b. bytes_eq (text a) (text b)) es k n ≡ es ++ (k, n) ∷ []
absent_last text [] k n e = refl
absent_last text (y ∷ ys) k n e = by (bytes_eq (text k) (text y.0)) e (λ h. absent_last text ys k n h) where
  by : (b : Bool) → cond b (Some y.1) (lookup (λ z. bytes_eq (text k) (text z)) ys) ≡ None → (lookup (λ z. bytes_eq (text k) (text z)) ys ≡ None → insert_entry (λ a c. bytes_eq (text a) (text c)) ys k n ≡ ys ++ (k, n) ∷ []) → cond b ((y.0, n) ∷ ys) (y ∷ insert_entry (λ a c. bytes_eq (text a) (text c)) ys k n) ≡ y ∷ ys ++ (k, n) ∷ []
  by true e rest = cc
  by false e rest = ap (λ zs. y ∷ zs) (rest e)

pub inserted : {K : Type 0} (text : K → List ℕ) (es new : List (K × ℕ)) (k : K) (n : ℕ) (x : List ℕ) (table : Table) → new ≡ insert_entry (λ a b. bytes_eq (text a) (text b)) es k n → text k ≡ x → map (λ e. (text e.0, e.1)) es ≡ table → numbered x table ≡ None
    → map (λ e. (text e.0, e.1)) new ≡ table ++ (x, n) ∷ []
inserted text es new k n x table e f g none =
    let absent : lookup (λ y. bytes_eq (text k) (text y)) es ≡ None = sym (lookup_is text (text k) es) ∙ ap (λ y. numbered y (map (λ e. (text e.0, e.1)) es)) f ∙ ap (numbered x) g ∙ none in
    ap (map (λ e. (text e.0, e.1))) (e ∙ absent_last text es k n absent)
    ∙ map-append (λ e. (text e.0, e.1)) es ((k, n) ∷ [])
    ∙ ap (λ y. map (λ e. (text e.0, e.1)) es ++ (y, n) ∷ []) f
    ∙ ap (λ ys. ys ++ (x, n) ∷ []) g
