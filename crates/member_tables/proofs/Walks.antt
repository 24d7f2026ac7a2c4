-- What a class finds on the way up: what it has itself, and else what its superclass finds.
use Rattle.std.proofs.Common.{◌≡◌, ℕ, zero, suc, ◌<◌, ◌≤◌, Bool, false, cond, List, [], ◌∷◌, ◌++◌, length, get_or, take, Option, Some, None, inl, inr, refl, sym, ap, ◌∙◌, subst, arith}
use Rattle.std.specs.Prelude.{slice_get, option_and_then, option_to_list}
use Rattle.std.specs.List.{Contains}
use Rattle.std.specs.Option.{option_or, unwrap_or}
use Rattle.std.proofs.lemmas.Bool.{cases_lt, lt-ltb, le-ltb}
use Rattle.std.proofs.lemmas.Option.{none-some, same_Some, slice_get_past, slice_get_cases, get_or_from_slice_get, unwrap_or-slice_get}
use Rattle.std.proofs.lemmas.List.{get_or-take, get_or_default, length-take-le}
use Rattle.selectors.specs.declared.selector.Selector.{Selector}
use Rattle.selectors.specs.Selectors.{selectors}
use Rattle.class_heads.specs.declared.nodes.ClassNode.{ClassNode}
use Rattle.class_heads.specs.Sources.{Sources, classes_in}
use Rattle.class_heads.specs.Supertypes.{Classes, supertypes_of, named_by}
use Rattle.class_heads.specs.Origins.{superclass_of, origin}
use Rattle.class_heads.specs.Bodies.{class_count}
use Rattle.class_members.specs.declared.owners.Owners.{Owners}
use Rattle.class_members.specs.Owners.{own_members, AreOwners}
use Rattle.supertypes.specs.Upward.{IsUpward}
use Rattle.member_tables.specs.Lookup.{answers_at, first_of, members_of, found_in, found_on, found_to, find_of}
use Rattle.member_tables.specs.Origins.{members_if}
use Rattle.member_tables.specs.Filling.{listed_for}
use Rattle.member_tables.proofs.Named.{answers_to}

-- ---- what a class has itself

in_body : (p : Sources) (f : ℕ → Bool) (o : Option ℕ) → option_and_then (λ c. first_of f (members_of p c)) o ≡ first_of f (members_if p o)
in_body p f None = refl
in_body p f (Some c) = refl

pub owners_list : (p : Sources) (x : Owners) → AreOwners p x → (o : Option ℕ) → listed_for x o ≡ members_if p o
owners_list p x are None = refl
owners_list p x are (Some c) =
    elim (cases_lt c (class_count p)) [
      | inl lt ↦ get_or_from_slice_get x.of_classes c (own_members p c) [] (are.each c lt) ∙ sym (ap (λ b. cond b (own_members p c) []) (lt-ltb c (class_count p) lt))
      | inr le ↦
          sym (unwrap_or-slice_get x.of_classes c []) ∙ ap (λ o. unwrap_or o []) (slice_get_past x.of_classes c (subst (λ n. n ≤ c) (sym are.long) le))
          ∙ sym (ap (λ b. cond b (own_members p c) []) (le-ltb c (class_count p) le))
    ]

pub no_list : (x : Owners) (o : Option ℕ) (c : ℕ) → o ≡ Some c → None ≡ slice_get x.of_classes c → [] ≡ listed_for x o
no_list x o c is e = ap (λ r. unwrap_or r []) e ∙ unwrap_or-slice_get x.of_classes c [] ∙ sym (ap (listed_for x) is)

-- ---- the way up

pub count_is : (p : Sources) → class_count p ≡ length (classes_in p)
unfolding class_count
count_is p = refl

super_is : (cs : Classes) (c : ℕ) (x : ClassNode) → slice_get cs c ≡ Some x → superclass_of cs c ≡ x.superclass
unfolding superclass_of
super_is cs c x e = ap (option_and_then (λ x. x.superclass)) e

super_none : (cs : Classes) (c : ℕ) → slice_get cs c ≡ None → superclass_of cs c ≡ None
unfolding superclass_of
super_none cs c e = ap (option_and_then (λ x. x.superclass)) e

super_named : (cs : Classes) (c d : ℕ) → superclass_of cs c ≡ Some d → Contains (supertypes_of cs c) d
unfolding superclass_of supertypes_of
super_named cs c d e = by (slice_get cs c) e where
  first : (o : Option ℕ) (more : List ℕ) → o ≡ Some d → Contains (option_to_list o ++ more) d
  first None more e = absurd (none-some d e)
  first (Some x) more e = (0, omega arith, same_Some x d e)

  by : (o : Option ClassNode) → option_and_then (λ x. x.superclass) o ≡ Some d → Contains (named_by o) d
  by None e = absurd (none-some d e)
  by (Some x) e = first x.superclass (option_to_list x.mixin ++ x.interfaces) e

module _ (p : Sources) where
  abbrev cs : Classes
  cs = classes_in p

  -- what is no class finds nothing
  pub none_past : (n : ℕ) (s : Selector) (c : ℕ) → length cs ≤ c → found_to n p s c ≡ None
  none_past zero s c le = refl
  none_past (suc n) s c le = ap (found_on (found_to n p s) p s c) (slice_get_past cs c le)

  -- where the superclass finds the same, so does the class
  same_on : (n m : ℕ) (s : Selector) (c : ℕ) → ((d : ℕ) → superclass_of cs c ≡ Some d → found_to n p s d ≡ found_to m p s d) → found_to (suc n) p s c ≡ found_to (suc m) p s c
  same_on n m s c same = by (slice_get cs c) refl where
    on : (r o : Option ℕ) → superclass_of cs c ≡ r → r ≡ o → option_and_then (found_to n p s) o ≡ option_and_then (found_to m p s) o
    on r None is e = refl
    on r (Some d) is e = same d (is ∙ e)

    by : (o : Option ClassNode) → slice_get cs c ≡ o → found_on (found_to n p s) p s c o ≡ found_on (found_to m p s) p s c o
    by None e = refl
    by (Some x) e = ap (option_or (found_in p s c)) (on x.superclass x.superclass (super_is cs c x e) refl)

  step_on : (n : ℕ) (s : Selector) (c : ℕ) → c < length cs → found_to (suc n) p s c ≡ option_or (found_in p s c) (option_and_then (found_to n p s) (superclass_of cs c))
  step_on n s c lt =
      elim (slice_get_cases cs c).1 [
        | inl there ↦ ap (found_on (found_to n p s) p s c) there.2 ∙ ap (λ o. option_or (found_in p s c) (option_and_then (found_to n p s) o)) (sym (super_is cs c there.0 there.2))
        | inr past ↦ absurd (omega (arith, lt, past.0))
      ]

  module _ (order : List ℕ) (up : IsUpward cs order) where
    pub is_class : (i c : ℕ) → i < length order → c ≡ get_or order i 0 → c < length cs
    is_class i c lt is = up.numbers c (i, lt, get_or_default order i c 0 lt ∙ sym is)

    -- what a class names stands before it
    stands_before : (i d : ℕ) → i < length order → Contains (supertypes_of cs (get_or order i 0)) d → d < length cs → (j : ℕ) × (j < i) × (get_or order j 0 ≡ d)
    stands_before i d lt named small = by (up.before i lt d named small) where
      by : Contains (take i order) d → (j : ℕ) × (j < i) × (get_or order j 0 ≡ d)
      by (k, below, read) =
          let taken : length (take i order) ≡ i = length-take-le i order (omega (arith, lt)) in
          let earlier : k < i = omega (arith, below, taken) in
          (k, earlier, sym (get_or-take i order k 0 earlier) ∙ get_or_default (take i order) k 0 d below ∙ read)

    -- What holds at the classes before it, and at what is no class, holds at what a class names.
    pub at_named : (P : ℕ → Type 0) (i : ℕ) → i < length order → ((j : ℕ) → j < i → P (get_or order j 0)) → ((d : ℕ) → length cs ≤ d → P d) → (d : ℕ) → Contains (supertypes_of cs (get_or order i 0)) d → P d
    at_named P i lt earlier past d named =
        elim (cases_lt d (length cs)) [
          | inl small ↦ let j = stands_before i d lt named small in subst P j.2 (earlier j.0 j.1)
          | inr le ↦ past d le
        ]

    pub at_super : (P : ℕ → Type 0) (i : ℕ) → i < length order → ((j : ℕ) → j < i → P (get_or order j 0)) → ((d : ℕ) → length cs ≤ d → P d) → (d : ℕ) → superclass_of cs (get_or order i 0) ≡ Some d → P d
    at_super P i lt earlier past d e = at_named P i lt earlier past d (super_named cs (get_or order i 0) d e)

    -- A walk that may go past the place of the class finds what any such walk finds.
    stable : (k i n m : ℕ) (s : Selector) → i < k → i < length order → i < n → i < m → found_to n p s (get_or order i 0) ≡ found_to m p s (get_or order i 0)
    stable zero i n m s below lt a b = absurd (omega (arith, below))
    stable (suc k) i zero m s below lt a b = absurd (omega (arith, a))
    stable (suc k) i (suc n) zero s below lt a b = absurd (omega (arith, b))
    stable (suc k) i (suc n) (suc m) s below lt a b =
        same_on n m s (get_or order i 0)
        (at_super (λ d. found_to n p s d ≡ found_to m p s d) i lt
        (λ j earlier. stable k j n m s (omega (arith, below, earlier)) (omega (arith, lt, earlier)) (omega (arith, a, earlier)) (omega (arith, b, earlier)))
        (λ d le. none_past n s d le ∙ sym (none_past m s d le)))

    steps_to : (i m : ℕ) (s : Selector) → i < length order → i < m → found_to m p s (get_or order i 0) ≡ option_or (found_in p s (get_or order i 0)) (option_and_then (found_to m p s) (superclass_of cs (get_or order i 0)))
    steps_to i zero s lt a = absurd (omega (arith, a))
    steps_to i (suc m) s lt a =
        step_on m s (get_or order i 0) (is_class i (get_or order i 0) lt refl)
        ∙ ap (option_or (found_in p s (get_or order i 0))) (on (superclass_of cs (get_or order i 0)) refl)
      where
        on : (o : Option ℕ) → superclass_of cs (get_or order i 0) ≡ o → option_and_then (found_to m p s) o ≡ option_and_then (found_to (suc m) p s) o
        on None e = refl
        on (Some d) e =
            at_super (λ d. found_to m p s d ≡ found_to (suc m) p s d) i lt
            (λ j earlier. stable i j m (suc m) s earlier (omega (arith, lt, earlier)) (omega (arith, a, earlier)) (omega (arith, a, earlier)))
            (λ d le. none_past m s d le ∙ sym (none_past (suc m) s d le)) d e

    -- ---- by the numbers of selectors

    pub find_past : (c n : ℕ) → length cs ≤ c → find_of p c n ≡ None
    unfolding find_of
    find_past c n le = by (slice_get (selectors p.files) n) where
      by : (o : Option Selector) → option_and_then (λ s. found_to (class_count p) p s c) o ≡ None
      by None = refl
      by (Some s) = none_past (class_count p) s c le

    none_of : (ms : List ℕ) → first_of (λ m. false) ms ≡ None
    none_of [] = refl
    none_of (m ∷ ms) = none_of ms

    pub find_steps :
        (i n : ℕ) → i < length order
        → find_of p (get_or order i 0) n ≡ option_or (first_of (answers_to p (slice_get (selectors p.files) n)) (members_if p (origin cs (get_or order i 0)))) (option_and_then (λ d. find_of p d n) (superclass_of cs (get_or order i 0)))
    unfolding find_of
    find_steps i n lt = by (slice_get (selectors p.files) n) where
      no_more : (o : Option ℕ) → ◌≡◌ {A = Option ℕ} None (option_and_then (λ (d : ℕ). None) o)
      no_more None = refl
      no_more (Some d) = refl

      by : (o : Option Selector) → option_and_then (λ s. found_to (class_count p) p s (get_or order i 0)) o ≡ option_or (first_of (answers_to p o) (members_if p (origin cs (get_or order i 0)))) (option_and_then (λ d. option_and_then (λ s. found_to (class_count p) p s d) o) (superclass_of cs (get_or order i 0)))
      by None = no_more (superclass_of cs (get_or order i 0)) ∙ sym (ap (λ o. option_or o (option_and_then (λ (d : ℕ). None) (superclass_of cs (get_or order i 0)))) (none_of (members_if p (origin cs (get_or order i 0)))))
      by (Some s) =
          steps_to i (class_count p) s lt (omega (arith, lt, up.long, count_is p))
          ∙ ap (λ o. option_or o (option_and_then (found_to (class_count p) p s) (superclass_of cs (get_or order i 0)))) (in_body p (answers_at p s) (origin cs (get_or order i 0)))
