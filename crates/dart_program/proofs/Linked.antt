-- What is loaded is a program.
use Rattle.std.proofs.Common.{◌≡◌, ◌<◌, ◌≤◌, ◌+◌, ℕ, suc, Bool, true, false, List, [], ◌∷◌, ◌++◌, length, map, Option, Some, None, ◌⊎◌, inl, inr, refl, sym, ap, ◌∙◌, subst, arith}
use Rattle.std.specs.Prelude.{◌||◌, not, filter, flat_map, All}
use Rattle.std.specs.List.{AllByRecursion}
use Rattle.std.specs.Str.{bytes_eq}
use Rattle.std.proofs.lemmas.List.{length-map}
use Rattle.std.proofs.lemmas.List.Elements.{All-from_recursion}
use Rattle.std.proofs.lemmas.Slice.Eq.{bytes_eq-Decides}
use Rattle.dart_grammar.specs.declared.declarations.Import.{Import}
use Rattle.dart_program.specs.declared.files.SourceFile.{SourceFile}
use Rattle.dart_program.specs.Programs.{IsLinked, IsProgram}
use Rattle.dart_program.specs.Paths.{is_core, named_from}
use Rattle.dart_program.specs.Loading.{Asked, asked_first, asked_by, asked_from, is_name, asks_for, each_once, asked, number_from, number_of, link, AreLinked, IsPrelude, LoadedArePrograms}

tells : (b : Bool) → (b ≡ true) ⊎ (b ≡ false)
tells true = inl refl
tells false = inr refl

-- ---- a name that something asks for

has : List ℕ → List Asked → Bool
has name [] = false
has name (x ∷ xs) = is_name name x.name || has name xs

or_true : (a b : Bool) → a ≡ true → (a || b) ≡ true
or_true a b e = rw e refl

or_right : (a b : Bool) → b ≡ true → (a || b) ≡ true
or_right true b e = refl
or_right false b e = e

either : (a b : Bool) → (a || b) ≡ true → (a ≡ true) ⊎ (b ≡ true)
either true b e = inl refl
either false b e = inr e

has_front : (name : List ℕ) (xs ys : List Asked) → has name xs ≡ true → has name (xs ++ ys) ≡ true
unfolding has
has_front name [] ys h = absurd cc
has_front name (x ∷ xs) ys h = elim (either (is_name name x.name) (has name xs) h) [
  | inl e ↦ or_true (is_name name x.name) (has name (xs ++ ys)) e
  | inr e ↦ or_right (is_name name x.name) (has name (xs ++ ys)) (has_front name xs ys e)
]

has_back : (name : List ℕ) (xs ys : List Asked) → has name ys ≡ true → has name (xs ++ ys) ≡ true
unfolding has
has_back name [] ys h = h
has_back name (x ∷ xs) ys h = or_right (is_name name x.name) (has name (xs ++ ys)) (has_back name xs ys h)

same_name : (a b : List ℕ) → bytes_eq a b ≡ true → a ≡ b
same_name a b h = grind (arith, bytes_eq-Decides)

name_same : (a b : List ℕ) → a ≡ b → bytes_eq a b ≡ true
name_same a b h = grind (arith, bytes_eq-Decides)

clash : {A : Type 0} (b : Bool) → b ≡ true → b ≡ false → A
clash b t f = let e : true ≡ false = sym t ∙ f in absurd cc

-- what asks for another name asks not for this one
others : (name : List ℕ) (x y : Option (List ℕ)) (at : ℕ) (file : ℕ) → is_name name x ≡ false → is_name name y ≡ true → not (asks_for x (record { name = y; file = file; at = at })) ≡ true
others name None y at file f t = refl
others name (Some a) None at file f t = absurd cc
others name (Some a) (Some b) at file f t = elim (tells (bytes_eq a b)) [
  | inl e ↦ clash (bytes_eq name a) (name_same name a (same_name name b t ∙ sym (same_name a b e))) f
  | inr e ↦ rw e refl
]

has_filtered : (name : List ℕ) (x : Option (List ℕ)) (ys : List Asked) → is_name name x ≡ false → has name ys ≡ true → has name (filter (λ y. not (asks_for x y)) ys) ≡ true
unfolding has
has_filtered name x [] f h = absurd cc
has_filtered name x (y ∷ ys) f h = by (not (asks_for x y)) refl (λ e. has_filtered name x ys f e)
  where
    by : (b : Bool) → not (asks_for x y) ≡ b → (has name ys ≡ true → has name (filter (λ y. not (asks_for x y)) ys) ≡ true) → has name (filter (λ y. not (asks_for x y)) (y ∷ ys)) ≡ true
    by true e more = rw e (elim (either (is_name name y.name) (has name ys) h) [
      | inl t ↦ or_true (is_name name y.name) (has name (filter (λ y. not (asks_for x y)) ys)) t
      | inr t ↦ or_right (is_name name y.name) (has name (filter (λ y. not (asks_for x y)) ys)) (more t)
    ])
    by false e more = rw e (elim (either (is_name name y.name) (has name ys) h) [
      | inl t ↦ clash (not (asks_for x y)) (others name x y.name y.at y.file f t) e
      | inr t ↦ more t
    ])

has_once : (name : List ℕ) (xs : List Asked) → has name xs ≡ true → has name (each_once xs) ≡ true
unfolding has
has_once name [] h = absurd cc
has_once name (x ∷ xs) h = elim (tells (is_name name x.name)) [
  | inl t ↦ or_true (is_name name x.name) (has name (filter (λ y. not (asks_for x.name y)) (each_once xs))) t
  | inr f ↦ or_right (is_name name x.name) (has name (filter (λ y. not (asks_for x.name y)) (each_once xs)))
      (has_filtered name x.name (each_once xs) f (has_once name xs (elim (either (is_name name x.name) (has name xs) h) [
        | inl t ↦ clash (is_name name x.name) t f
        | inr t ↦ t
      ])))
]

-- ---- its number

number_below : (n : ℕ) (name : List ℕ) (xs : List Asked) → has name xs ≡ true → number_from n name xs < n + length xs
unfolding has
number_below n name [] h = absurd cc
number_below n name (x ∷ xs) h = elim (tells (is_name name x.name)) [
  | inl t ↦ rw t (omega arith)
  | inr f ↦ rw f (let below : number_from (suc n) name xs < suc n + length xs = number_below (suc n) name xs (elim (either (is_name name x.name) (has name xs) h) [
    | inl t ↦ clash (is_name name x.name) t f
    | inr t ↦ t
  ]) in omega arith)
]

named_below : (name : Option (List ℕ)) (xs : List Asked) → ((x : List ℕ) → name ≡ Some x → has x xs ≡ true) → number_of xs name < suc (length xs)
named_below None xs h = omega arith
named_below (Some x) xs h = let below : number_from 1 x xs < 1 + length xs = number_below 1 x xs (h x refl) in omega arith

name_is : (x : List ℕ) → bytes_eq x x ≡ true
name_is x = name_same x x refl

-- ---- links

link_below : (xs : List Asked) (k : ℕ) (file : List ℕ) (i : Import) → ((x : List ℕ) → has x (asked_by k file i) ≡ true → has x xs ≡ true) → link xs file i < suc (length xs)
unfolding has
link_below xs k file i h = by (is_core i.uri) refl
  where
    by : (b : Bool) → is_core i.uri ≡ b → link xs file i < suc (length xs)
    by true e = rw e (omega arith)
    by false e = rw e (named_below (named_from file i.uri) xs (λ x n. h x (rw e (rw n (or_true (bytes_eq x x) false (name_is x))))))

links_below : (xs : List Asked) (k : ℕ) (file : List ℕ) (is : List Import) → ((x : List ℕ) → has x (flat_map (asked_by k file) is) ≡ true → has x xs ≡ true)
    → AllByRecursion (λ l. l < suc (length xs)) (map (link xs file) is)
links_below xs k file [] h = tt
links_below xs k file (i ∷ is) h = (
  link_below xs k file i (λ x e. h x (has_front x (asked_by k file i) (flat_map (asked_by k file) is) e)),
  links_below xs k file is (λ x e. h x (has_back x (asked_by k file i) (flat_map (asked_by k file) is) e)),
)

file_linked : (xs : List Asked) (k : ℕ) (f : SourceFile) → ((x : List ℕ) → has x (flat_map (asked_by k f.name) f.tree.imports) ≡ true → has x xs ≡ true)
    → f.links ≡ map (link xs f.name) f.tree.imports → IsLinked (suc (length xs)) f
file_linked xs k f h e = record {
  each = ap length e ∙ length-map f.tree.imports (link xs f.name);
  here = subst (λ (links : List ℕ). All (λ l. l < suc (length xs)) links) (sym e) (All-from_recursion (λ l. l < suc (length xs)) (map (link xs f.name) f.tree.imports) (links_below xs k f.name f.tree.imports h));
}

files_linked : (xs : List Asked) (k : ℕ) (fs : List SourceFile) → ((x : List ℕ) → has x (asked_from k fs) ≡ true → has x xs ≡ true) → AreLinked xs fs
    → AllByRecursion (IsLinked (suc (length xs))) fs
files_linked xs k [] h l = tt
files_linked xs k (f ∷ fs) h l = (
  file_linked xs k f (λ x e. h x (has_front x (flat_map (asked_by k f.name) f.tree.imports) (asked_from (suc k) fs) e)) l.0,
  files_linked xs (suc k) fs (λ x e. h x (has_back x (flat_map (asked_by k f.name) f.tree.imports) (asked_from (suc k) fs) e)) l.1,
)

all_zero : (n : ℕ) → 0 < n → (is : List Import) → AllByRecursion (λ l. l < n) (map (λ (i : Import). 0) is)
all_zero n h [] = tt
all_zero n h (i ∷ is) = (h, all_zero n h is)

prelude_linked : (n : ℕ) (f : SourceFile) → IsPrelude f → IsLinked (suc n) f
prelude_linked n f p = record {
  each = ap length p.links ∙ length-map f.tree.imports (λ i. 0);
  here = subst (λ (links : List ℕ). All (λ l. l < suc n) links) (sym p.links) (All-from_recursion (λ l. l < suc n) (map (λ (i : Import). 0) f.tree.imports) (all_zero (suc n) (omega arith) f.tree.imports));
}

asked_in : (entry : List ℕ) (fs : List SourceFile) (x : List ℕ) → has x (asked_from 1 fs) ≡ true → has x (asked entry fs) ≡ true
unfolding asked has
asked_in entry fs x h = has_once x (asked_first entry ∷ asked_from 1 fs) (or_right (is_name x (asked_first entry).name) (has x (asked_from 1 fs)) h)

some_asked : (entry : List ℕ) (fs : List SourceFile) → 1 ≤ length (asked entry fs)
unfolding asked
some_asked entry fs = omega arith

all_linked : (entry : List ℕ) (p : SourceFile) (fs : List SourceFile) → IsPrelude p → length (asked entry fs) ≡ length fs → AreLinked (asked entry fs) fs → IsProgram (p ∷ fs)
all_linked entry p fs first whole linked =
    let n : ℕ = length (asked entry fs) in
    let many : 1 ≤ length (asked entry fs) = some_asked entry fs in
    let rest : AllByRecursion (IsLinked (suc (length (asked entry fs)))) fs = files_linked (asked entry fs) 1 fs (asked_in entry fs) linked in
    record {
      two = omega arith;
      linked = All-from_recursion (IsLinked (suc (length fs))) (p ∷ fs) (prelude_linked (length fs) p first, subst (λ k. AllByRecursion (IsLinked (suc k)) fs) whole rest);
    }

pub loaded_are_programs : LoadedArePrograms
loaded_are_programs program (held, entry, l) = subst IsProgram (sym l.parts) (all_linked entry l.prelude l.files l.first l.whole l.linked)
