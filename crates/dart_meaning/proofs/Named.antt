-- The names that are declared so far, in a map and in a list.
use Rattle.std.proofs.Common.{◌≡◌, ◌⊎◌, ℕ, zero, suc, ◌+◌, ◌<◌, Bool, true, false, cond, List, [], ◌∷◌, ◌++◌, length, get_or, map, Option, Some, None, inl, inr, refl, sym, ap, ◌∙◌, subst, arith}
use Rattle.std.specs.Prelude.{is_some, slice_get, nat_lt, not, ◌||◌}
use Rattle.std.proofs.lemmas.Bool.{lt-ltb, ltb-true, false_from_ne_true}
use Rattle.indexmap.specs.IndexMap.{insert_entry}
use Rattle.std.specs.List.{position, prefix_len}
use Rattle.std.specs.Map.{lookup, keys_of}
use Rattle.std.specs.Option.{option_map}
use Rattle.std.specs.Str.{bytes_eq}
use Rattle.std.proofs.lemmas.List.{map-append, get_or_append_left, length-append}
use Rattle.std.proofs.Math.Seq.{get_or-append_seam}
use Rattle.std.proofs.lemmas.Slice.Eq.{bytes_eq-Decides}
use Rattle.dart_meaning.specs.Program.{Names, is_one_of}
use Rattle.dart_meaning.specs.Meaning.{◌>>=◌}
use Rattle.dart_meaning.specs.Scope.{Scope, no_names, place_of, find, declare, declared}

pub same_bytes : (a b : List ℕ) → a ≡ b → bytes_eq a b ≡ true
same_bytes a b e = (bytes_eq-Decides a b).1 e

pub bytes_same : (a b : List ℕ) → bytes_eq a b ≡ true → a ≡ b
bytes_same a b e = (bytes_eq-Decides a b).0 e

-- A map's keys stand for the names.

lt_suc : (a b : ℕ) → nat_lt (suc a) (suc b) ≡ nat_lt a b
lt_suc a b = by (nat_lt a b) refl where
  by : (t : Bool) → nat_lt a b ≡ t → nat_lt (suc a) (suc b) ≡ t
  by true e = lt-ltb (suc a) (suc b) (omega (arith, ltb-true a b e))
  by false e = false_from_ne_true (nat_lt (suc a) (suc b)) (λ t. let l : nat_lt a b ≡ true = lt-ltb a b (omega (arith, ltb-true (suc a) (suc b) t)) in cc)

next_place : (t : Bool) (a b : ℕ) → nat_lt (suc a) (suc b) ≡ t → option_map suc (cond (nat_lt a b) (Some a) None) ≡ cond t (Some (suc a)) None
next_place true a b e = ap (λ t. option_map suc (cond t (Some a) None)) (sym (lt_suc a b) ∙ e)
next_place false a b e = ap (λ t. option_map suc (cond t (Some a) None)) (sym (lt_suc a b) ∙ e)

one_more : (n : ℕ) → suc n ≡ 1 + n
one_more n = omega arith

pub place_is : {K X : Type 0} (text : K → List ℕ) (name : List ℕ) (es : List (K × X)) → place_of name (map (λ e. text e.0) es) ≡ position (λ k. bytes_eq name (text k)) (keys_of es)
place_is text name [] = refl
place_is {K} text name (e ∷ es) = by (bytes_eq name (text e.0)) (place_is text name es) where
  by : (t : Bool) → place_of name (map (λ e. text e.0) es) ≡ position (λ k. bytes_eq name (text k)) (keys_of es) → cond t (Some 0) (option_map suc (place_of name (map (λ e. text e.0) es))) ≡ cond (nat_lt (cond (not t) (1 + prefix_len (λ k. not (bytes_eq name (text k))) (keys_of es)) 0) (suc (length (keys_of es)))) (Some (cond (not t) (1 + prefix_len (λ k. not (bytes_eq name (text k))) (keys_of es)) 0)) None
  by true rest = sym (ap (λ t. cond t (Some 0) None) (lt-ltb 0 (suc (length (keys_of es))) (omega arith)))
  by false rest = ap (option_map suc) rest ∙ next_place _ (prefix_len (λ k. not (bytes_eq name (text k))) (keys_of es)) (length (keys_of es)) refl ∙ ap (λ n. cond (nat_lt n (suc (length (keys_of es)))) (Some n) None) (one_more (prefix_len (λ k. not (bytes_eq name (text k))) (keys_of es)))

pub among_is : {K X : Type 0} (text : K → List ℕ) (name : List ℕ) (es : List (K × X)) → is_one_of name (map (λ e. text e.0) es) ≡ is_some (lookup (λ k. bytes_eq name (text k)) es)
among_is text name [] = refl
among_is text name (e ∷ es) = by (bytes_eq name (text e.0)) (among_is text name es) where
  by : (t : Bool) → is_one_of name (map (λ e. text e.0) es) ≡ is_some (lookup (λ k. bytes_eq name (text k)) es) → (t || is_one_of name (map (λ e. text e.0) es)) ≡ is_some (cond t (Some e.1) (lookup (λ k. bytes_eq name (text k)) es))
  by true rest = refl
  by false rest = rest

pub kind_at : {K : Type 0} (es : List (K × Bool)) (i : ℕ) (e : K × Bool) → slice_get es i ≡ Some e → get_or (map (λ e. e.1) es) i false ≡ e.1
kind_at [] i e is = cc
kind_at (x ∷ es) zero e is = let same : x ≡ e = cc in ap (λ (p : _ × Bool). p.1) same
kind_at (x ∷ es) (suc i) e is = kind_at es i e is

-- Where a name stands in a list.

pub place_found : (name : List ℕ) (names : Names) (k : ℕ) → place_of name names ≡ Some k → (k < length names) × (get_or names k [] ≡ name)
place_found name [] k is = cc
place_found name (other ∷ names) k is = by (bytes_eq name other) refl is (λ i e. place_found name names i e) where
  later : ((i : ℕ) → place_of name names ≡ Some i → (i < length names) × (get_or names i [] ≡ name)) → (o : Option ℕ) → place_of name names ≡ o → option_map suc o ≡ Some k → (k < suc (length names)) × (get_or (other ∷ names) k [] ≡ name)
  later rest None e is = cc
  later rest (Some i) e is =
      let h = rest i e in
      let same : suc i ≡ k = cc in
      subst (λ k. (k < suc (length names)) × (get_or (other ∷ names) k [] ≡ name)) same (omega (arith, h.0), h.1)

  by : (t : Bool) → bytes_eq name other ≡ t → cond t (Some 0) (option_map suc (place_of name names)) ≡ Some k → ((i : ℕ) → place_of name names ≡ Some i → (i < length names) × (get_or names i [] ≡ name)) → (k < suc (length names)) × (get_or (other ∷ names) k [] ≡ name)
  by true e is rest =
      let same : 0 ≡ k = cc in
      subst (λ k. (k < suc (length names)) × (get_or (other ∷ names) k [] ≡ name)) same (omega arith, sym (bytes_same name other e))
  by false e is rest = later rest (place_of name names) refl is

place_front : (name : List ℕ) (names more : Names) (k : ℕ) → place_of name names ≡ Some k → place_of name (names ++ more) ≡ Some k
place_front name [] more k is = cc
place_front name (other ∷ names) more k is = by (bytes_eq name other) is (λ i e. place_front name names more i e) where
  later : ((i : ℕ) → place_of name names ≡ Some i → place_of name (names ++ more) ≡ Some i) → (o : Option ℕ) → place_of name names ≡ o → option_map suc o ≡ Some k → option_map suc (place_of name (names ++ more)) ≡ Some k
  later rest None e is = cc
  later rest (Some i) e is = ap (option_map suc) (rest i e) ∙ is

  by : (t : Bool) → cond t (Some 0) (option_map suc (place_of name names)) ≡ Some k → ((i : ℕ) → place_of name names ≡ Some i → place_of name (names ++ more) ≡ Some i) → cond t (Some 0) (option_map suc (place_of name (names ++ more))) ≡ Some k
  by true is rest = is
  by false is rest = later rest (place_of name names) refl is

place_last : (name : List ℕ) (names : Names) → is_one_of name names ≡ false → place_of name (names ++ name ∷ []) ≡ Some (length names)
place_last name [] fresh = ap (λ t. cond t (Some 0) None) (same_bytes name name refl)
place_last name (other ∷ names) fresh = by (bytes_eq name other) fresh (λ e. place_last name names e) where
  by : (t : Bool) → (t || is_one_of name names) ≡ false → (is_one_of name names ≡ false → place_of name (names ++ name ∷ []) ≡ Some (length names)) → cond t (Some 0) (option_map suc (place_of name (names ++ name ∷ []))) ≡ Some (suc (length names))
  by true fresh rest = cc
  by false fresh rest = ap (option_map suc) (rest fresh)

-- each name was declared once
pub record Proper (scope : Scope) : Type 0 where
  pub same : length scope.kinds ≡ length scope.names
  pub once : (k : ℕ) → k < length scope.names → place_of (get_or scope.names k []) scope.names ≡ Some k

pub proper_none : Proper no_names
proper_none = record { same = refl; once = λ k lt. absurd (omega (arith, lt)) }

below_or_last : (k n : ℕ) → k < n + 1 → (k < n) ⊎ (k ≡ n)
below_or_last zero zero lt = inr refl
below_or_last zero (suc n) lt = inl (omega arith)
below_or_last (suc k) zero lt = absurd (omega (arith, lt))
below_or_last (suc k) (suc n) lt = elim (below_or_last k n (omega (arith, lt))) [ inl l ↦ inl (omega (arith, l)) | inr e ↦ inr (ap suc e) ]

proper_grown : (scope : Scope) (name : List ℕ) (is_text : Bool) → Proper scope → is_one_of name scope.names ≡ false → Proper (record { names = scope.names ++ name ∷ []; kinds = scope.kinds ++ is_text ∷ [] })
proper_grown scope name is_text p fresh = record {
  same = length-append scope.kinds (is_text ∷ []) ∙ ap (λ n. n + 1) p.same ∙ sym (length-append scope.names (name ∷ []));
  once = λ k lt. elim (below_or_last k (length scope.names) (subst (λ n. k < n) (length-append scope.names (name ∷ [])) lt)) [
    | inl l ↦ ap (λ x. place_of x (scope.names ++ name ∷ [])) (get_or_append_left scope.names (name ∷ []) [] k l) ∙ place_front (get_or scope.names k []) scope.names (name ∷ []) k (p.once k l)
    | inr e ↦ ap (λ x. place_of x (scope.names ++ name ∷ [])) (ap (λ k. get_or (scope.names ++ name ∷ []) k []) e ∙ get_or-append_seam scope.names name [] []) ∙ place_last name scope.names fresh ∙ ap Some (sym e)
  ];
}

pub declare_fresh : (scope : Scope) (name : List ℕ) (is_text : Bool) → is_one_of name scope.names ≡ false → declare name is_text scope ≡ Some (record { names = scope.names ++ name ∷ []; kinds = scope.kinds ++ is_text ∷ [] })
unfolding declare
declare_fresh scope name is_text fresh = rw fresh refl

-- what a declaration says
pub record Declares (scope after : Scope) (name : List ℕ) (is_text : Bool) : Type 0 where
  pub fresh : is_one_of name scope.names ≡ false
  pub is : after ≡ record { names = scope.names ++ name ∷ []; kinds = scope.kinds ++ is_text ∷ [] }

pub declares : (scope after : Scope) (name : List ℕ) (is_text : Bool) → declare name is_text scope ≡ Some after → Declares scope after name is_text
unfolding declare
declares scope after name is_text e = by (is_one_of name scope.names) refl e where
  by : (t : Bool) → is_one_of name scope.names ≡ t → cond t None (Some (record { names = scope.names ++ name ∷ []; kinds = scope.kinds ++ is_text ∷ [] })) ≡ Some after → Declares scope after name is_text
  by true is e = cc
  by false is e = record { fresh = is; is = cc }

pub proper_after : (scope after : Scope) (name : List ℕ) (is_text : Bool) → Proper scope → Declares scope after name is_text → Proper after
proper_after scope after name is_text p d = subst Proper (sym d.is) (proper_grown scope name is_text p d.fresh)

-- a name is found at its place

pub find_at : (scope : Scope) (k : ℕ) → Proper scope → k < length scope.kinds → find (get_or scope.names k []) scope ≡ Some (k, get_or scope.kinds k false)
unfolding find
find_at scope k p lt = rw (p.once k (subst (λ n. k < n) p.same lt)) refl

pub record FoundAt (scope : Scope) (name : List ℕ) (v : ℕ × Bool) : Type 0 where
  pub within : v.0 < length scope.kinds
  pub is : get_or scope.names v.0 [] ≡ name
  pub kind : get_or scope.kinds v.0 false ≡ v.1

pub found_at : (scope : Scope) (name : List ℕ) (v : ℕ × Bool) → Proper scope → find name scope ≡ Some v → FoundAt scope name v
unfolding find
found_at scope name v p e = by (place_of name scope.names) refl e where
  by : (o : Option ℕ) → place_of name scope.names ≡ o → (o >>= (λ k. Some (k, get_or scope.kinds k false))) ≡ Some v → FoundAt scope name v
  by None is e = cc
  by (Some k) is e =
      let h = place_found name scope.names k is in
      let same : (k, get_or scope.kinds k false) ≡ v = cc in
      subst (FoundAt scope name) same (record { within = subst (λ n. k < n) (sym p.same) h.0; is = h.1; kind = refl })

-- What the map answers.

-- the names of a map's entries
abbrev pub entered : {K : Type 0} → (K → List ℕ) → List (K × Bool) → Scope
entered text es = record { names = map (λ e. text e.0) es; kinds = map (λ e. e.1) es }

pub find_none : {K : Type 0} (text : K → List ℕ) (es : List (K × Bool)) (name : List ℕ) → None ≡ position (λ k. bytes_eq name (text k)) (keys_of es) → find name (entered text es) ≡ None
unfolding find
find_none text es name e = ap (λ o. o >>= (λ k. Some (k, get_or (map (λ e. e.1) es) k false))) (place_is text name es ∙ sym e)

pub find_some : {K : Type 0} (text : K → List ℕ) (es : List (K × Bool)) (name : List ℕ) (i : ℕ) (e : K × Bool) → Some i ≡ position (λ k. bytes_eq name (text k)) (keys_of es) → slice_get es i ≡ Some e → find name (entered text es) ≡ Some (i, e.1)
unfolding find
find_some text es name i e is there =
    ap (λ o. o >>= (λ k. Some (k, get_or (map (λ e. e.1) es) k false))) (place_is text name es ∙ sym is) ∙ ap (λ t. Some (i, t)) (kind_at es i e there)

insert_fresh : {K : Type 0} (text : K → List ℕ) (es : List (K × Bool)) (key : K) (is_text : Bool) → is_one_of (text key) (map (λ e. text e.0) es) ≡ false → insert_entry (λ a b. bytes_eq (text a) (text b)) es key is_text ≡ es ++ (key, is_text) ∷ []
insert_fresh text [] key is_text fresh = refl
insert_fresh text (e ∷ es) key is_text fresh = by (bytes_eq (text key) (text e.0)) fresh (insert_fresh text es key is_text) where
  by : (t : Bool) → (t || is_one_of (text key) (map (λ e. text e.0) es)) ≡ false → (is_one_of (text key) (map (λ e. text e.0) es) ≡ false → insert_entry (λ a b. bytes_eq (text a) (text b)) es key is_text ≡ es ++ (key, is_text) ∷ []) → cond t ((e.0, is_text) ∷ es) (e ∷ insert_entry (λ a b. bytes_eq (text a) (text b)) es key is_text) ≡ e ∷ (es ++ (key, is_text) ∷ [])
  by true fresh rest = cc
  by false fresh rest = ap (λ l. e ∷ l) (rest fresh)

pub inserted : {K : Type 0} (text : K → List ℕ) (es now : List (K × Bool)) (key : K) (is_text fresh : Bool) (before : Option Bool) → is_some before ≡ not fresh → before ≡ lookup (λ k. bytes_eq (text key) (text k)) es → now ≡ insert_entry (λ a b. bytes_eq (text a) (text b)) es key is_text → declared fresh (entered text now) ≡ declare (text key) is_text (entered text es)
unfolding declare
inserted text es now key is_text fresh before told was is = by (is_one_of (text key) (map (λ e. text e.0) es)) refl fresh told where
  among : is_one_of (text key) (map (λ e. text e.0) es) ≡ is_some before
  among = among_is text (text key) es ∙ ap is_some (sym was)

  by : (t : Bool) → is_one_of (text key) (map (λ e. text e.0) es) ≡ t → (fresh : Bool) → is_some before ≡ not fresh → declared fresh (entered text now) ≡ cond t None (Some (record { names = map (λ e. text e.0) es ++ text key ∷ []; kinds = map (λ e. e.1) es ++ is_text ∷ [] }))
  by true e true told = let both : true ≡ false = sym e ∙ among ∙ told in cc
  by true e false told = refl
  by false e false told = let both : false ≡ true = sym e ∙ among ∙ told in cc
  by false e true told =
      let grown : now ≡ es ++ (key, is_text) ∷ [] = is ∙ insert_fresh text es key is_text e in
      ap (λ es. Some (entered text es)) grown
      ∙ ap (λ n. Some (record { names = n; kinds = map (λ e. e.1) (es ++ (key, is_text) ∷ []) })) (map-append (λ e. text e.0) es ((key, is_text) ∷ []))
      ∙ ap (λ k. Some (record { names = map (λ e. text e.0) es ++ text key ∷ []; kinds = k })) (map-append (λ e. e.1) es ((key, is_text) ∷ []))
