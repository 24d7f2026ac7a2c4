-- The numbers of what is asked for.
use Rattle.std.proofs.Common.{◌≡◌, ℕ, suc, ◌+◌, ◌≤◌, ◌<◌, Bool, true, false, cond, List, [], ◌∷◌, ◌++◌, length, map, Option, Some, None, inl, inr, refl, sym, ap, ◌∙◌, subst, arith, add-zero}
use Rattle.std.specs.Prelude.{◌||◌, is_some}
use Rattle.std.specs.Option.{option_or, ForSome}
use Rattle.std.specs.Str.{bytes_eq}
use Rattle.std.proofs.lemmas.List.{map-append, length-map}
use Rattle.std.proofs.lemmas.Option.{same_Some}
use Rattle.dart_program.specs.Loading.{Asked, is_name, asks_for, number_from, number_of}
use Rattle.source_loading.specs.declared.asks.AskedFile.{AskedFile}
use Rattle.source_loading.specs.Numbers.{Table, numbered}
use Rattle.source_loading.specs.Asking.{asked_of, asks_already, with_asked, number_at, numbered_entry, AreNumbered}
use Rattle.source_loading.proofs.Once.{tells, same_name, name_same, clash}

-- ---- whether a name is asked for

bytes_swapped : (a b : List ℕ) → bytes_eq a b ≡ bytes_eq b a
bytes_swapped a b = elim (tells (bytes_eq a b)) [
  | inl t ↦ t ∙ sym (name_same b a (sym (same_name a b t)))
  | inr f ↦ elim (tells (bytes_eq b a)) [
    | inl t ↦ clash (bytes_eq a b) (name_same a b (sym (same_name b a t))) f
    | inr g ↦ f ∙ sym g
  ]
]

asks_same : (x : Option (List ℕ)) (name : List ℕ) (file at : ℕ) → asks_for x (record { name = Some name; file = file; at = at }) ≡ is_name name x
asks_same None name file at = refl
asks_same (Some a) name file at = bytes_swapped a name

asks_none : (x : Option (List ℕ)) (file at : ℕ) → asks_for x (record { name = None; file = file; at = at }) ≡ false
asks_none None file at = refl
asks_none (Some a) file at = refl

already_named : (n : ℕ) (name : List ℕ) (file at : ℕ) (xs : List Asked) → asks_already xs (record { name = Some name; file = file; at = at }) ≡ is_some (number_at n name xs)
already_named n name file at [] = refl
already_named n name file at (x ∷ xs) = ap (λ b. b || asks_already xs (record { name = Some name; file = file; at = at })) (asks_same x.name name file at) ∙ by (is_name name x.name) (already_named (suc n) name file at xs) where
  by : (b : Bool) → asks_already xs (record { name = Some name; file = file; at = at }) ≡ is_some (number_at (suc n) name xs) → (b || asks_already xs (record { name = Some name; file = file; at = at })) ≡ is_some (cond b (Some n) (number_at (suc n) name xs))
  by true e = refl
  by false e = e

already_nameless : (file at : ℕ) (xs : List Asked) → asks_already xs (record { name = None; file = file; at = at }) ≡ false
already_nameless file at [] = refl
already_nameless file at (x ∷ xs) = ap (λ b. b || asks_already xs (record { name = None; file = file; at = at })) (asks_none x.name file at) ∙ already_nameless file at xs

-- whether the table has a name, if it is one
abbrev pub has_number : Option (List ℕ) → Table → Bool
has_number None table = false
has_number (Some name) table = is_some (numbered name table)

pub already_is : (table : Table) (xs : List Asked) (name : Option (List ℕ)) (file at : ℕ) → AreNumbered table xs → has_number name table ≡ asks_already xs (record { name = name; file = file; at = at })
already_is table xs None file at are = sym (already_nameless file at xs)
already_is table xs (Some name) file at are = ap is_some (are.numbers name) ∙ sym (already_named 1 name file at xs)

none_of : (o : Option ℕ) → is_some o ≡ false → o ≡ None
none_of None e = refl
none_of (Some n) e = absurd cc

pub not_yet : (table : Table) (xs : List Asked) (name : Option (List ℕ)) (file at : ℕ) → AreNumbered table xs → asks_already xs (record { name = name; file = file; at = at }) ≡ false → ForSome name (λ own. numbered own table ≡ None)
not_yet table xs name file at are new own is = none_of (numbered own table) (ap (λ o. has_number o table) (sym is) ∙ already_is table xs name file at are ∙ new)

-- ---- one more

numbered_push : (name : List ℕ) (table more : Table) → numbered name (table ++ more) ≡ option_or (numbered name table) (numbered name more)
numbered_push name [] more = refl
numbered_push name (e ∷ table) more = ap (cond (bytes_eq name e.0) (Some e.1)) (numbered_push name table more) ∙ by (bytes_eq name e.0) where
  by : (b : Bool) → cond b (Some e.1) (option_or (numbered name table) (numbered name more)) ≡ option_or (cond b (Some e.1) (numbered name table)) (numbered name more)
  by true = refl
  by false = refl

number_push : (n : ℕ) (name : List ℕ) (xs : List Asked) (y : Asked) → number_at n name (xs ++ y ∷ []) ≡ option_or (number_at n name xs) (cond (is_name name y.name) (Some (n + length xs)) None)
number_push n name [] y = ap (λ k. cond (is_name name y.name) (Some k) None) (sym (add-zero n))
number_push n name (x ∷ xs) y =
    let more : suc n + length xs ≡ n + suc (length xs) = omega arith in
    ap (cond (is_name name x.name) (Some n)) (number_push (suc n) name xs y ∙ ap (λ k. option_or (number_at (suc n) name xs) (cond (is_name name y.name) (Some k) None)) more)
    ∙ by (is_name name x.name)
  where
    by : (b : Bool) → cond b (Some n) (option_or (number_at (suc n) name xs) (cond (is_name name y.name) (Some (n + suc (length xs))) None)) ≡ option_or (cond b (Some n) (number_at (suc n) name xs)) (cond (is_name name y.name) (Some (n + suc (length xs))) None)
    by true = refl
    by false = refl

entry_found : (name : List ℕ) (own : Option (List ℕ)) (k : ℕ) → numbered name (numbered_entry own k) ≡ cond (is_name name own) (Some k) None
entry_found name None k = refl
entry_found name (Some own) k = refl

one_numbered : (table : Table) (xs : List Asked) (y : Asked) (k : ℕ) → k ≡ length xs + 1 → AreNumbered table xs → AreNumbered (table ++ numbered_entry y.name k) (xs ++ y ∷ [])
one_numbered table xs y k e are = record {
  numbers = λ name.
      let n : k ≡ 1 + length xs = omega arith in
      numbered_push name table (numbered_entry y.name k)
      ∙ ap (λ o. option_or o (numbered name (numbered_entry y.name k))) (are.numbers name)
      ∙ ap (option_or (number_at 1 name xs)) (entry_found name y.name k ∙ ap (λ m. cond (is_name name y.name) (Some m) None) n)
      ∙ sym (number_push 1 name xs y);
}

pub none_numbered : AreNumbered [] []
none_numbered = record { numbers = λ name. refl }

-- the files with one more, and the table with its number
pub still_numbered : (table table2 : Table) (files files2 : List AskedFile) (file : AskedFile) (k : ℕ) → table2 ≡ table ++ numbered_entry file.name k → files2 ≡ files ++ file ∷ [] → k ≡ length files + 1 → AreNumbered table (map asked_of files)
    → AreNumbered table2 (map asked_of files2)
still_numbered table table2 files files2 file k e f n are =
    let m : k ≡ length (map asked_of files) + 1 = n ∙ ap (λ i. i + 1) (sym (length-map files asked_of)) in
    subst (λ t. AreNumbered t (map asked_of files2)) (sym e)
    (subst (λ xs. AreNumbered (table ++ numbered_entry file.name k) xs) (sym (ap (map asked_of) f ∙ map-append asked_of files (file ∷ []))) (one_numbered table (map asked_of files) (asked_of file) k m are))

-- ---- numbers of links

pub number_found : (n : ℕ) (name : List ℕ) (xs : List Asked) (k : ℕ) → number_at n name xs ≡ Some k → number_from n name xs ≡ k
number_found n name [] k e = absurd cc
number_found n name (x ∷ xs) k e = by (is_name name x.name) e (λ h. number_found (suc n) name xs k h) where
  by : (b : Bool) → cond b (Some n) (number_at (suc n) name xs) ≡ Some k → (number_at (suc n) name xs ≡ Some k → number_from (suc n) name xs ≡ k) → cond b n (number_from (suc n) name xs) ≡ k
  by true h more = same_Some n k h
  by false h more = more h

pub number_within : (n : ℕ) (name : List ℕ) (xs : List Asked) (k : ℕ) → number_at n name xs ≡ Some k → k < n + length xs
number_within n name [] k e = absurd cc
number_within n name (x ∷ xs) k e = by (is_name name x.name) e (λ h. number_within (suc n) name xs k h) where
  by : (b : Bool) → cond b (Some n) (number_at (suc n) name xs) ≡ Some k → (number_at (suc n) name xs ≡ Some k → k < suc n + length xs) → k < n + suc (length xs)
  by true h more = let same : n ≡ k = same_Some n k h in omega arith
  by false h more = let below : k < suc n + length xs = more h in omega arith

pub number_behind : (n : ℕ) (name : List ℕ) (xs : List Asked) → number_at n name xs ≡ None → number_from n name xs ≡ n + length xs
number_behind n name [] e = sym (add-zero n)
number_behind n name (x ∷ xs) e = by (is_name name x.name) e (λ h. number_behind (suc n) name xs h) where
  by : (b : Bool) → cond b (Some n) (number_at (suc n) name xs) ≡ None → (number_at (suc n) name xs ≡ None → number_from (suc n) name xs ≡ suc n + length xs) → cond b n (number_from (suc n) name xs) ≡ n + suc (length xs)
  by true h more = absurd cc
  by false h more = let same : number_from (suc n) name xs ≡ suc n + length xs = more h in omega arith

-- what the map answers of a name that it has not
pub number_last : (table : Table) (xs : List Asked) (name : List ℕ) (count : ℕ) → AreNumbered table xs → numbered name table ≡ None → count ≡ length xs → count + 1 ≡ number_from 1 name xs
number_last table xs name count are none len =
    let behind : number_from 1 name xs ≡ 1 + length xs = number_behind 1 name xs (sym (are.numbers name) ∙ none) in
    omega arith
