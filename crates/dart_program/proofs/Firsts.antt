-- What is found by comparing refusals one after another is the first of them.
use Rattle.std.proofs.Common.{◌≡◌, ◌⊎◌, ◌≤◌, ℕ, zero, suc, Bool, true, false, cond, List, [], ◌∷◌, Option, Some, None, inl, inr, refl, sym, ◌∙◌, subst, arith}
use Rattle.std.specs.Prelude.{◌==◌, not, ◌&&◌, ◌||◌, nat_lt}
use Rattle.std.specs.List.{Contains}
use Rattle.std.proofs.lemmas.Bool.{ltb-true, ltb-false, eqb-true, eqb-false}
use Rattle.dart_syntax.specs.declared.rules.Refusal.{Refusal}
use Rattle.dart_program.specs.First.{Broken, IsFirst, BreaksNone, IsFirstOrNone, EitherOf, ComesFirst, by, phase_of, number_of}
use Rattle.dart_program.specs.Sooner.{is_below_or, comes_first, first_with, first_of}

-- ---- one number after another

is_true : true ≡ false → ⊥
is_true e = cc

below : (m n : ℕ) (b : Bool) {P : Type 0} → is_below_or m n b ≡ true → (b ≡ true → P) → by m n P
below m n b {P} e f = less (nat_lt m n) refl where
  same : (t : Bool) → (m == n) ≡ t → (t && b) ≡ true → by m n P
  same true h k = inr (eqb-true m n h, f k)
  same false h k = absurd (is_true (sym k))

  less : (t : Bool) → nat_lt m n ≡ t → by m n P
  less true h = inl (ltb-true m n h)
  less false h = same (m == n) refl (subst (λ t. (t || (m == n && b)) ≡ true) h e)

above : (m n : ℕ) (b : Bool) {P : Type 0} → is_below_or m n b ≡ false → (b ≡ false → P) → by n m P
above m n b {P} e f = less (nat_lt m n) refl where
  same : (t : Bool) → nat_lt m n ≡ false → (m == n) ≡ t → (t && b) ≡ false → by n m P
  same true g h k = inr (sym (eqb-true m n h), f k)
  same false g h k = inl (omega (arith, ltb-false m n g, eqb-false m n h))

  less : (t : Bool) → nat_lt m n ≡ t → by n m P
  less true h = absurd (is_true (subst (λ t. (t || (m == n && b)) ≡ false) h e))
  less false h = same (m == n) h refl (subst (λ t. (t || (m == n && b)) ≡ false) h e)

onward : {m n k : ℕ} {P Q R : Type 0} → by m n P → by n k Q → (P → Q → R) → by m k R
onward (inl a) (inl b) f = inl (omega (arith, a, b))
onward (inl a) (inr b) f = inl (omega (arith, a, b.0))
onward (inr a) (inl b) f = inl (omega (arith, a.0, b))
onward (inr a) (inr b) f = inr (a.0 ∙ b.0, f a.1 b.1)

-- ---- refusals

number_up_to : (m n : ℕ) → not (nat_lt n m) ≡ true → m ≤ n
number_up_to m n e = by_case (nat_lt n m) refl where
  by_case : (t : Bool) → nat_lt n m ≡ t → m ≤ n
  by_case true h = absurd (is_true (sym (subst (λ t. not t ≡ true) h e)))
  by_case false h = ltb-false n m h

number_from : (m n : ℕ) → not (nat_lt n m) ≡ false → n ≤ m
number_from m n e = by_case (nat_lt n m) refl where
  by_case : (t : Bool) → nat_lt n m ≡ t → n ≤ m
  by_case true h = let lt = ltb-true n m h in omega (arith, lt)
  by_case false h = absurd (is_true (subst (λ t. not t ≡ false) h e))

module _ (x y : Refusal) where
  abbrev numbers : Bool
  numbers = not (nat_lt (number_of y.rule) (number_of x.rule))

  abbrev places : Bool
  places = is_below_or x.at y.at numbers

  abbrev files : Bool
  files = is_below_or x.file y.file places

  comes : comes_first x y ≡ true → ComesFirst x y
  comes e = below (phase_of x.rule) (phase_of y.rule) files e (λ f. below x.file y.file places f (λ p. below x.at y.at numbers p (λ n. number_up_to (number_of x.rule) (number_of y.rule) n)))

  comes_not : comes_first x y ≡ false → ComesFirst y x
  comes_not e = above (phase_of x.rule) (phase_of y.rule) files e (λ f. above x.file y.file places f (λ p. above x.at y.at numbers p (λ n. number_from (number_of x.rule) (number_of y.rule) n)))

itself : (x : Refusal) → ComesFirst x x
itself x = inr (refl, inr (refl, inr (refl, omega arith)))

up : (a b c : ℕ) → a ≤ b → b ≤ c → a ≤ c
up a b c p q = omega (arith, p, q)

through : (x y z : Refusal) → ComesFirst x y → ComesFirst y z → ComesFirst x z
through x y z p q = onward p q (λ p q. onward p q (λ p q. onward p q (λ p q. up (number_of x.rule) (number_of y.rule) (number_of z.rule) p q)))

-- ---- one after another

abbrev IsBehind : Refusal → Option Refusal → Type 0
IsBehind x None = Unit {0}
IsBehind x (Some y) = ComesFirst x y

-- the first one of these and of one that was found before
abbrev IsFirstWith : Option Refusal → List Refusal → Option Refusal → Type 0
IsFirstWith found xs None = (found ≡ None) × (xs ≡ [])
IsFirstWith found xs (Some x) = ((found ≡ Some x) ⊎ Contains xs x) × (IsBehind x found × ((y : Refusal) → Contains xs y → ComesFirst x y))

contains_here : (x : Refusal) (xs : List Refusal) → Contains (x ∷ xs) x
contains_here x xs = (0, omega arith, refl)

contains_there : (y x : Refusal) (xs : List Refusal) → Contains xs x → Contains (y ∷ xs) x
contains_there y x xs h = (suc h.0, omega (arith, h.1), h.2)

contains_either : (x : Refusal) (xs : List Refusal) (y : Refusal) → Contains (x ∷ xs) y → (x ≡ y) ⊎ Contains xs y
contains_either x xs y (zero, lt, e) = inl e
contains_either x xs y (suc k, lt, e) = inr (k, omega (arith, lt), e)

the_same : (x y : Refusal) → Some x ≡ Some y → x ≡ y
the_same x y e = cc

not_none : (x : Refusal) → Some x ≡ None → ⊥
not_none x e = cc

-- with one more in front: where z is what is found of the two
module _ (found : Option Refusal) (x : Refusal) (xs : List Refusal) (z : Refusal) (is_one : (found ≡ Some z) ⊎ (x ≡ z)) (behind : IsBehind z found) (first : ComesFirst z x) where
  one_more : (r : Option Refusal) → IsFirstWith (Some z) xs r → IsFirstWith found (x ∷ xs) r
  one_more None h = absurd (not_none z h.0)
  one_more (Some r) h = (where_from h.0, (before found behind, each)) where
    where_from : (Some z ≡ Some r) ⊎ Contains xs r → (found ≡ Some r) ⊎ Contains (x ∷ xs) r
    where_from (inl e) = elim is_one [ inl f ↦ inl (f ∙ e) | inr f ↦ inr (subst (Contains (x ∷ xs)) (f ∙ the_same z r e) (contains_here x xs)) ]
    where_from (inr c) = inr (contains_there x r xs c)

    before : (found : Option Refusal) → IsBehind z found → IsBehind r found
    before None b = tt
    before (Some y) b = through r z y h.1.0 b

    each : (y : Refusal) → Contains (x ∷ xs) y → ComesFirst r y
    each y c = elim (contains_either x xs y c) [ inl e ↦ subst (ComesFirst r) e (through r z x h.1.0 first) | inr c ↦ h.1.1 y c ]

first_is : (found : Option Refusal) (xs : List Refusal) → IsFirstWith found xs (first_with found xs)
first_is None [] = (refl, refl)
first_is (Some x) [] = (inl refl, (itself x, λ y c. absurd (omega (arith, c.1))))
first_is None (x ∷ xs) = one_more None x xs x (inr refl) tt (itself x) (first_with (Some x) xs) (first_is (Some x) xs)
first_is (Some y) (x ∷ xs) = chosen (comes_first y x) refl (first_is (Some y) xs) (first_is (Some x) xs) where
  chosen : (t : Bool) → comes_first y x ≡ t → IsFirstWith (Some y) xs (first_with (Some y) xs) → IsFirstWith (Some x) xs (first_with (Some x) xs) → IsFirstWith (Some y) (x ∷ xs) (first_with (cond t (Some y) (Some x)) xs)
  chosen true e h k = one_more (Some y) x xs y (inl refl) (itself y) (comes y x e) (first_with (Some y) xs) h
  chosen false e h k = one_more (Some y) x xs x (inr refl) (comes_not y x e) (itself x) (first_with (Some x) xs) k

-- ---- for the rules of a program

-- These refusals are those that something breaks.
pub record AreBroken (broken : Broken) (xs : List Refusal) : Type 0 where
  pub holds : (x : Refusal) → Contains xs x → broken x.rule x.file x.at
  pub all : (x : Refusal) → broken x.rule x.file x.at → Contains xs x

pub first_of_broken : (broken : Broken) (xs : List Refusal) (x : Refusal) → AreBroken broken xs → Some x ≡ first_with None xs → IsFirst broken x
first_of_broken broken xs x are e = by_case (first_with None xs) e (first_is None xs) where
  by_case : (r : Option Refusal) → Some x ≡ r → IsFirstWith None xs r → IsFirst broken x
  by_case None e h = absurd (not_none x e)
  by_case (Some r) e h =
      let same = the_same x r e in
      let inside : Contains xs x = elim h.0 [ inl f ↦ absurd (not_none r (sym f)) | inr c ↦ subst (Contains xs) (sym same) c ] in
      record { holds = are.holds x inside; first = λ y b. subst (λ z. ComesFirst z y) (sym same) (h.1.1 y (are.all y b)) }

pub none_of_broken : (broken : Broken) (xs : List Refusal) → AreBroken broken xs → None ≡ first_with None xs → BreaksNone broken
none_of_broken broken xs are e = by_case (first_with None xs) e (first_is None xs) where
  by_case : (r : Option Refusal) → None ≡ r → IsFirstWith None xs r → BreaksNone broken
  by_case None e h = record { none = λ y b. empty y (subst (λ ys. Contains ys y) h.1 (are.all y b)) } where
    empty : (y : Refusal) → Contains [] y → ⊥
    empty y c = omega (arith, c.1)
  by_case (Some r) e h = absurd (not_none r (sym e))

-- ---- for relations

-- two that hold of the same
pub first_of_same : (one other : Broken) (x : Option Refusal) → ((y : Refusal) → one y.rule y.file y.at → other y.rule y.file y.at) → ((y : Refusal) → other y.rule y.file y.at → one y.rule y.file y.at)
    → IsFirstOrNone one x → IsFirstOrNone other x
first_of_same one other None f g h = record { none = λ y b. h.none y (g y b) }
first_of_same one other (Some x) f g h = record { holds = f x h.holds; first = λ y b. h.first y (g y b) }

module _ (one other : Broken) where
  one_alone : (x : Refusal) → IsFirst one x → BreaksNone other → IsFirst (EitherOf one other) x
  one_alone x h k = record { holds = inl h.holds; first = λ y b. elim b [ inl c ↦ h.first y c | inr c ↦ absurd (k.none y c) ] }

  other_alone : (x : Refusal) → BreaksNone one → IsFirst other x → IsFirst (EitherOf one other) x
  other_alone x h k = record { holds = inr k.holds; first = λ y b. elim b [ inl c ↦ absurd (h.none y c) | inr c ↦ k.first y c ] }

  one_first : (x y : Refusal) → IsFirst one x → IsFirst other y → ComesFirst x y → IsFirst (EitherOf one other) x
  one_first x y h k p = record { holds = inl h.holds; first = λ z b. elim b [ inl c ↦ h.first z c | inr c ↦ through x y z p (k.first z c) ] }

  other_first : (x y : Refusal) → IsFirst one x → IsFirst other y → ComesFirst y x → IsFirst (EitherOf one other) y
  other_first x y h k p = record { holds = inr k.holds; first = λ z b. elim b [ inl c ↦ through y x z p (h.first z c) | inr c ↦ k.first z c ] }

  pub first_of_either : (x y : Option Refusal) → IsFirstOrNone one x → IsFirstOrNone other y → IsFirstOrNone (EitherOf one other) (first_of x y)
  first_of_either None None h k = record { none = λ y b. elim b [ inl c ↦ h.none y c | inr c ↦ k.none y c ] }
  first_of_either (Some x) None h k = one_alone x h k
  first_of_either None (Some y) h k = other_alone y h k
  first_of_either (Some x) (Some y) h k = by (comes_first x y) refl where
    by : (t : Bool) → comes_first x y ≡ t → IsFirstOrNone (EitherOf one other) (cond t (Some x) (Some y))
    by true e = one_first x y h k (comes x y e)
    by false e = other_first x y h k (comes_not x y e)
