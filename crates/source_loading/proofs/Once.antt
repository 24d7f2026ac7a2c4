-- Of those that ask for one name the first alone stays, also if they come one after another.
use Rattle.std.proofs.Common.{◌≡◌, ℕ, suc, ◌+◌, Bool, true, false, cond, List, [], ◌∷◌, ◌++◌, length, Option, Some, None, ◌⊎◌, inl, inr, refl, sym, ap, ◌∙◌, subst, arith, append_assoc, add-zero}
use Rattle.std.specs.Prelude.{◌||◌, not, filter, flat_map}
use Rattle.std.specs.Str.{bytes_eq}
use Rattle.std.proofs.lemmas.List.{append-nil}
use Rattle.std.proofs.lemmas.List.Elements.{filter-append}
use Rattle.std.proofs.lemmas.Slice.Eq.{bytes_eq-Decides}
use Rattle.dart_program.specs.declared.files.SourceFile.{SourceFile}
use Rattle.dart_program.specs.Loading.{Asked, asked_first, asked_by, asked_from, is_name, asks_for, each_once, asked}
use Rattle.source_loading.specs.Asking.{asks_already, with_asked, with_all}

pub tells : (b : Bool) → (b ≡ true) ⊎ (b ≡ false)
tells true = inl refl
tells false = inr refl

pub same_name : (a b : List ℕ) → bytes_eq a b ≡ true → a ≡ b
same_name a b h = grind (arith, bytes_eq-Decides)

pub name_same : (a b : List ℕ) → a ≡ b → bytes_eq a b ≡ true
name_same a b h = grind (arith, bytes_eq-Decides)

pub clash : {A : Type 0} (b : Bool) → b ≡ true → b ≡ false → A
clash b t f = let e : true ≡ false = sym t ∙ f in absurd cc

-- what asks for x's name doesn't ask for y's, if x's is another
others : (x z : Option (List ℕ)) (zf za : ℕ) (y : Option (List ℕ)) (yf ya : ℕ)
    → asks_for x (record { name = z; file = zf; at = za }) ≡ true → asks_for x (record { name = y; file = yf; at = ya }) ≡ false → asks_for z (record { name = y; file = yf; at = ya }) ≡ false
others None z zf za y yf ya t f = absurd cc
others (Some a) None zf za y yf ya t f = absurd cc
others (Some a) (Some b) zf za None yf ya t f = refl
others (Some a) (Some b) zf za (Some c) yf ya t f = subst (λ d. bytes_eq d c ≡ false) (same_name a b t) f

-- what asks for another name doesn't matter
already_among_others : (x : Option (List ℕ)) (zs : List Asked) (y : Asked) → asks_for x y ≡ false → asks_already (filter (λ z. not (asks_for x z)) zs) y ≡ asks_already zs y
already_among_others x [] y f = refl
already_among_others x (z ∷ zs) y f = by (asks_for x z) refl (already_among_others x zs y f) where
  by : (b : Bool) → asks_for x z ≡ b → asks_already (filter (λ w. not (asks_for x w)) zs) y ≡ asks_already zs y → asks_already (filter (λ w. not (asks_for x w)) (z ∷ zs)) y ≡ (asks_for z.name y || asks_already zs y)
  by true e more = rw (e, others x z.name z.file z.at y.name y.file y.at e f) more
  by false e more = rw e (ap (λ b. asks_for z.name y || b) more)

-- one more, behind others of which one comes first
once_more : (x : Asked) (zs : List Asked) (y : Asked) → x ∷ filter (λ z. not (asks_for x.name z)) (with_asked zs y) ≡ with_asked (x ∷ filter (λ z. not (asks_for x.name z)) zs) y
once_more x zs y = by (asks_for x.name y) refl (asks_already zs y) refl where
  by : (a : Bool) → asks_for x.name y ≡ a → (b : Bool) → asks_already zs y ≡ b → x ∷ filter (λ z. not (asks_for x.name z)) (with_asked zs y) ≡ with_asked (x ∷ filter (λ z. not (asks_for x.name z)) zs) y
  by true e true h = rw (h, e) refl
  by true e false h = rw (h, e) (ap (λ ws. x ∷ ws) (filter-append (λ z. not (asks_for x.name z)) zs (y ∷ []) ∙ rw e (append-nil (filter (λ z. not (asks_for x.name z)) zs))))
  by false e true h = rw (e, already_among_others x.name zs y e, h) refl
  by false e false h = rw (e, already_among_others x.name zs y e, h) (ap (λ ws. x ∷ ws) (filter-append (λ z. not (asks_for x.name z)) zs (y ∷ []) ∙ rw e refl))

pub once_push : (xs : List Asked) (y : Asked) → each_once (xs ++ y ∷ []) ≡ with_asked (each_once xs) y
once_push [] y = refl
once_push (x ∷ xs) y = ap (λ zs. x ∷ filter (λ z. not (asks_for x.name z)) zs) (once_push xs y) ∙ once_more x (each_once xs) y

pub once_append : (xs ys : List Asked) → each_once (xs ++ ys) ≡ with_all (each_once xs) ys
once_append xs [] = ap each_once (append-nil xs)
once_append xs (y ∷ ys) = ap each_once (sym (append_assoc xs (y ∷ []) ys)) ∙ once_append (xs ++ y ∷ []) ys ∙ ap (λ zs. with_all zs ys) (once_push xs y)

-- what one file more asks for
asked_from_push : (n : ℕ) (files : List SourceFile) (f : SourceFile) → asked_from n (files ++ f ∷ []) ≡ asked_from n files ++ flat_map (asked_by (n + length files) f.name) f.tree.imports
asked_from_push n [] f = append-nil (flat_map (asked_by n f.name) f.tree.imports) ∙ ap (λ k. flat_map (asked_by k f.name) f.tree.imports) (sym (add-zero n))
asked_from_push n (g ∷ files) f =
    let more : suc n + length files ≡ n + length (g ∷ files) = omega arith in
    ap (λ ys. flat_map (asked_by n g.name) g.tree.imports ++ ys) (asked_from_push (suc n) files f)
    ∙ sym (append_assoc (flat_map (asked_by n g.name) g.tree.imports) (asked_from (suc n) files) (flat_map (asked_by (suc n + length files) f.name) f.tree.imports))
    ∙ ap (λ k. (flat_map (asked_by n g.name) g.tree.imports ++ asked_from (suc n) files) ++ flat_map (asked_by k f.name) f.tree.imports) more

pub asked_push : (entry : List ℕ) (files : List SourceFile) (f : SourceFile) → asked entry (files ++ f ∷ []) ≡ with_all (asked entry files) (flat_map (asked_by (suc (length files)) f.name) f.tree.imports)
unfolding asked
asked_push entry files f =
    let n : 1 + length files ≡ suc (length files) = omega arith in
    ap (λ ys. each_once (asked_first entry ∷ ys)) (asked_from_push 1 files f)
    ∙ once_append (asked_first entry ∷ asked_from 1 files) (flat_map (asked_by (1 + length files) f.name) f.tree.imports)
    ∙ ap (λ k. with_all (each_once (asked_first entry ∷ asked_from 1 files)) (flat_map (asked_by k f.name) f.tree.imports)) n

pub asked_none : (entry : List ℕ) → asked entry [] ≡ asked_first entry ∷ []
unfolding asked
asked_none entry = refl

pub with_all-append : (xs ys zs : List Asked) → with_all xs (ys ++ zs) ≡ with_all (with_all xs ys) zs
with_all-append xs [] zs = refl
with_all-append xs (y ∷ ys) zs = with_all-append (with_asked xs y) ys zs

-- what is asked for stays in front
one_grown : (b : Bool) (xs : List Asked) (y : Asked) → (zs : List Asked) × (cond b xs (xs ++ y ∷ []) ≡ xs ++ zs)
one_grown true xs y = ([], sym (append-nil xs))
one_grown false xs y = (y ∷ [], refl)

joined : (xs ys ws : List Asked) → ((zs : List Asked) × (ys ≡ xs ++ zs)) → ((zs : List Asked) × (ws ≡ ys ++ zs)) → (zs : List Asked) × (ws ≡ xs ++ zs)
joined xs ys ws (zs, e) (vs, d) = (zs ++ vs, d ∙ ap (λ us. us ++ vs) e ∙ append_assoc xs zs vs)

pub grown : (xs ys : List Asked) → (zs : List Asked) × (with_all xs ys ≡ xs ++ zs)
grown xs [] = ([], sym (append-nil xs))
grown xs (y ∷ ys) = joined xs (with_asked xs y) (with_all (with_asked xs y) ys) (one_grown (asks_already xs y) xs y) (grown (with_asked xs y) ys)
