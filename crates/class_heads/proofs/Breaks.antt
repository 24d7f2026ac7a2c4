-- The faults of the heads of a program are what breaks the rules of classes.
use Rattle.std.proofs.Common.{◌≡◌, ◌⊎◌, ◌<◌, ◌≤◌, ◌+◌, ℕ, zero, suc, Bool, true, false, List, [], ◌∷◌, ◌++◌, length, get_or, map, Option, Some, None, inl, inr, refl, sym, ap, ◌∙◌, subst, arith}
use Rattle.std.specs.Prelude.{◌==◌, ◌≢◌, ◌&&◌, ◌||◌, nat_lt, is_none, slice_get, option_and_then}
use Rattle.std.specs.List.{Contains, list_any, flat_map}
use Rattle.std.proofs.lemmas.Bool.{true≢false, ltb-true, lt-ltb, eqb-true, eq-eqb, and_parts, and_from, or_cases, or_left, or_right, not-true, not_from_false, false_from_ne_true, MatchBool-at_true, MatchBool-at_false, cases_lt, cases_Bool}
use Rattle.std.proofs.lemmas.Option.{slice_get_past}
use Rattle.std.proofs.lemmas.List.{get_or_past}
use Rattle.std.proofs.lemmas.List.Elements.{Contains-append_left, Contains-append_right, Contains-append_cases}
use Rattle.dart_grammar.specs.declared.trees.Name.{Name}
use Rattle.dart_grammar.specs.declared.declarations.Class.{Class}
use Rattle.dart_syntax.specs.declared.rules.Rule.{Rule}
use Rattle.dart_syntax.specs.declared.rules.Rule.TheVariants.{C1, C2, C3, C4, C5}
use Rattle.dart_syntax.specs.declared.rules.Refusal.{Refusal}
use Rattle.dart_program.proofs.Firsts.{AreBroken, first_of_broken, none_of_broken}
use Rattle.dart_program.specs.Sooner.{first_with}
use Rattle.library_scopes.specs.Names.{is_among}
use Rattle.class_heads.specs.declared.nodes.ClassNode.{ClassNode}
use Rattle.class_heads.specs.declared.known.Known.{Known}
use Rattle.class_heads.specs.declared.written.WrittenClass.{WrittenClass}
use Rattle.class_heads.specs.Written.{own_name, mixin_names, supertypes, type_parameters, heads_from}
use Rattle.class_heads.specs.Heads.{is_behind_deferred, meant}
use Rattle.class_heads.specs.Supertypes.{Classes, named_by, supertypes_of, IsAbove, next, further, AreCycles}
use Rattle.class_heads.specs.Sources.{Sources, classes_in, written_in, naming_in}
use Rattle.class_heads.specs.Origins.{superclass_of, superclasses, origin}
use Rattle.class_heads.specs.Bodies.{class_of_node, class_at, body_class}
use Rattle.class_heads.specs.Rules.{IsNoMixin, has_superclass, has_constructor, has_super, has_fields, IsClosed, closed_names, IsHead, own_number, start, constructs, holds_fields, asks_super, IsBroken, no_class, own_supertype, no_mixin, closed, deferred}
use Rattle.class_heads.specs.Faults.{no_body, facts_of, node_facts, is_number, is_another, body_at, has_origin, is_above_with, is_bad_body, is_no_mixin, is_bad_mixin, is_closed_class, is_closed, fault_if, supertype_faults, mixin_fault, mixin_faults, is_cycle, cycle_fault, head_faults, faults_from}
use Rattle.class_heads.specs.First.{IsFirstOrNone, known_in}

-- ---- lists

here : {A : Type 0} (x : A) (xs : List A) → Contains (x ∷ xs) x
here x xs = (0, omega arith, refl)

there : {A : Type 0} (y x : A) (xs : List A) → Contains xs x → Contains (y ∷ xs) x
there y x xs h = (suc h.0, omega (arith, h.1), h.2)

either : {A : Type 0} (x : A) (xs : List A) (y : A) → Contains (x ∷ xs) y → (x ≡ y) ⊎ Contains xs y
either x xs y (zero, lt, e) = inl e
either x xs y (suc k, lt, e) = inr (k, omega (arith, lt), e)

nothing : {A : Type 0} (y : A) → Contains [] y → ⊥
nothing y c = omega (arith, c.1)

over : {A B : Type 0} (f : A → List B) (xs : List A) (y : B) → Contains (flat_map f xs) y → (x : A) × Contains xs x × Contains (f x) y
over {A = A} {B = B} f [] y c = absurd (nothing y c)
over {A = A} {B = B} f (x ∷ xs) y c = by (Contains-append_cases (f x) (flat_map f xs) y c) (over f xs y) where
  by : Contains (f x) y ⊎ Contains (flat_map f xs) y → (Contains (flat_map f xs) y → (z : A) × Contains xs z × Contains (f z) y) → (z : A) × Contains (x ∷ xs) z × Contains (f z) y
  by (inl h) more = (x, here x xs, h)
  by (inr h) more = let z = more h in (z.0, there x z.0 xs z.1, z.2)

over_from : {A B : Type 0} (f : A → List B) (xs : List A) (x : A) (y : B) → Contains xs x → Contains (f x) y → Contains (flat_map f xs) y
over_from {A = A} {B = B} f [] x y c h = absurd (nothing x c)
over_from {A = A} {B = B} f (z ∷ xs) x y c h = by (either z xs x c) (λ c. over_from f xs x y c h) where
  by : (z ≡ x) ⊎ Contains xs x → (Contains xs x → Contains (flat_map f xs) y) → Contains (flat_map f (z ∷ xs)) y
  by (inl e) more = Contains-append_left (f z) (flat_map f xs) y (subst (λ w. Contains (f w) y) (sym e) h)
  by (inr c) more = Contains-append_right (f z) (flat_map f xs) y (more c)

any_of : {A : Type 0} (p : A → Bool) (xs : List A) → list_any p xs ≡ true → (x : A) × Contains xs x × (p x ≡ true)
any_of {A = A} p [] e = absurd (true≢false (sym e))
any_of {A = A} p (x ∷ xs) e = by (or_cases (p x) (list_any p xs) e) (any_of p xs) where
  by : (p x ≡ true) ⊎ (list_any p xs ≡ true) → (list_any p xs ≡ true → (z : A) × Contains xs z × (p z ≡ true)) → (z : A) × Contains (x ∷ xs) z × (p z ≡ true)
  by (inl h) more = (x, here x xs, h)
  by (inr h) more = let z = more h in (z.0, there x z.0 xs z.1, z.2)

any_from : {A : Type 0} (p : A → Bool) (xs : List A) (x : A) → Contains xs x → p x ≡ true → list_any p xs ≡ true
any_from {A = A} p [] x c h = absurd (nothing x c)
any_from {A = A} p (z ∷ xs) x c h = by (either z xs x c) (λ c. any_from p xs x c h) where
  by : (z ≡ x) ⊎ Contains xs x → (Contains xs x → list_any p xs ≡ true) → (p z || list_any p xs) ≡ true
  by (inl e) more = or_left (p z) (list_any p xs) (subst (λ w. p w ≡ true) (sym e) h)
  by (inr c) more = or_right (p z) (list_any p xs) (more c)

-- ---- one fault

abbrev fault : Rule → ℕ → ℕ → Refusal
fault rule n at = record { rule = rule; file = n; at = at }

in_fault : (b : Bool) (rule : Rule) (n at : ℕ) (x : Refusal) → Contains (fault_if b rule n at) x → (b ≡ true) × (fault rule n at ≡ x)
in_fault true rule n at x c = by (either (fault rule n at) [] x c) where
  by : (fault rule n at ≡ x) ⊎ Contains [] x → (true ≡ true) × (fault rule n at ≡ x)
  by (inl e) = (refl, e)
  by (inr c) = absurd (nothing x c)
in_fault false rule n at x c = absurd (nothing x c)

the_fault : (b : Bool) (rule : Rule) (n at : ℕ) → b ≡ true → Contains (fault_if b rule n at) (fault rule n at)
the_fault true rule n at e = here (fault rule n at) []
the_fault false rule n at e = absurd (true≢false (sym e))

-- ---- answers that may be none

is_none_true : {A : Type 0} (o : Option A) → is_none o ≡ true → o ≡ None
is_none_true None e = refl
is_none_true (Some x) e = absurd (true≢false (sym e))

is_none_from : {A : Type 0} (o : Option A) → o ≡ None → is_none o ≡ true
is_none_from o e = subst (λ o. is_none o ≡ true) (sym e) refl

not_some : {A : Type 0} (x : A) → None ≡ Some x → ⊥
not_some x e = cc

the_same : {A : Type 0} (x y : A) → Some x ≡ Some y → x ≡ y
the_same x y e = cc

is_number_true : (o : Option ℕ) (c : ℕ) → is_number o c ≡ true → o ≡ Some c
is_number_true None c e = absurd (true≢false (sym e))
is_number_true (Some d) c e = ap Some (eqb-true d c e)

is_number_from : (o : Option ℕ) (c : ℕ) → o ≡ Some c → is_number o c ≡ true
is_number_from None c e = absurd (not_some c e)
is_number_from (Some d) c e = eq-eqb d c (the_same d c e)

-- ---- what is known of a program

module _ (p : Sources) (flags : List Bool) (are : AreCycles (classes_in p) flags) where
  abbrev cs : Classes
  cs = classes_in p

  abbrev k : Known
  k = known_in p flags

  -- ---- cycles

  stands : (c d : ℕ) → Contains (supertypes_of cs c) d → c < length cs
  unfolding supertypes_of
  stands c d h = by (cases_lt c (length cs)) where
    by : (c < length cs) ⊎ (length cs ≤ c) → c < length cs
    by (inl lt) = lt
    by (inr le) = absurd (nothing d (subst (λ o. Contains (named_by o) d) (slice_get_past cs c le) h))

  begins : {c d : ℕ} → IsAbove cs c d → c < length cs
  begins (next {c = c} {d = d} h) = stands c d h
  begins (further {c = c} {d = d} {e = e} h r) = stands c d h

  cycle_true : (c : ℕ) → is_cycle k c ≡ true → IsAbove cs c c
  cycle_true c e = by (cases_lt c (length cs)) where
    by : (c < length cs) ⊎ (length cs ≤ c) → IsAbove cs c c
    by (inl lt) = MatchBool-at_true (IsAbove cs c c) (IsAbove cs c c → ⊥) e (are.each c lt)
    by (inr le) = absurd (true≢false (sym e ∙ get_or_past flags c false (subst (λ n. n ≤ c) (sym are.long) le)))

  cycle_from : (c : ℕ) → IsAbove cs c c → is_cycle k c ≡ true
  cycle_from c r = by (cases_Bool (is_cycle k c)) where
    by : (is_cycle k c ≡ true) ⊎ (is_cycle k c ≡ false) → is_cycle k c ≡ true
    by (inl e) = e
    by (inr e) = absurd (MatchBool-at_false (IsAbove cs c c) (IsAbove cs c c → ⊥) e (are.each c (begins r)) r)

  -- ---- bodies

  facts_from : (xs : Classes) (c : ℕ) → get_or (map (node_facts (written_in p)) xs) c no_body ≡ facts_of (option_and_then (class_of_node (written_in p)) (slice_get xs c))
  facts_from [] c = refl
  facts_from (x ∷ xs) zero = refl
  facts_from (x ∷ xs) (suc c) = facts_from xs c

  body_is : (c : ℕ) → body_at k c ≡ facts_of (class_at p c)
  unfolding class_at
  body_is c = facts_from cs c

  constructs_true : (o : Option Class) → (facts_of o).constructs ≡ true → (x : Class) × (o ≡ Some x) × (constructs x ≡ true)
  constructs_true None e = absurd (true≢false (sym e))
  constructs_true (Some x) e = (x, refl, e)

  asks_true : (o : Option Class) → (facts_of o).asks_super ≡ true → (x : Class) × (o ≡ Some x) × (asks_super x ≡ true)
  asks_true None e = absurd (true≢false (sym e))
  asks_true (Some x) e = (x, refl, e)

  holds_true : (o : Option Class) → (facts_of o).holds_fields ≡ true → (x : Class) × (o ≡ Some x) × (holds_fields x ≡ true)
  holds_true None e = absurd (true≢false (sym e))
  holds_true (Some x) e = (x, refl, e)

  -- ---- mixins

  another_true : (object : Option ℕ) (o : Option ℕ) → is_another object o ≡ true → (s : ℕ) × (o ≡ Some s) × (object ≢ Some s)
  another_true object None e = absurd (true≢false (sym e))
  another_true object (Some s) e = (s, refl, λ same. true≢false (sym (is_number_from object s same) ∙ not-true (is_number object s) e))

  another_from : (object : Option ℕ) (o : Option ℕ) (s : ℕ) → o ≡ Some s → object ≢ Some s → is_another object o ≡ true
  another_from object o s e ne = subst (λ o. is_another object o ≡ true) (sym e) (not_from_false (is_number object s) (false_from_ne_true (is_number object s) (λ t. ne (is_number_true object s t))))

  body_of : (m o : ℕ) → origin cs m ≡ Some o → body_class p m ≡ class_at p o
  unfolding body_class
  body_of m o e = ap (option_and_then (class_at p)) e

  module _ (c m : ℕ) where
    bad_body_true : (o : Option ℕ) → origin cs m ≡ o → is_bad_body k c o ≡ true → IsNoMixin p c m
    bad_body_true None e h = absurd (true≢false (sym h))
    bad_body_true (Some o) e h = by (or_cases (body_at k o).asks_super ((body_at k o).holds_fields && is_above_with cs c o) h) where
      by : ((body_at k o).asks_super ≡ true) ⊎ (((body_at k o).holds_fields && is_above_with cs c o) ≡ true) → IsNoMixin p c m
      by (inl a) =
          let x = asks_true (class_at p o) (subst (λ f. f.asks_super ≡ true) (body_is o) a) in
          has_super (body_of m o e ∙ x.1) x.2
      by (inr a) =
          let both = and_parts (body_at k o).holds_fields (is_above_with cs c o) a in
          let x = holds_true (class_at p o) (subst (λ f. f.holds_fields ≡ true) (body_is o) both.0) in
          let s = any_of (has_origin cs o) (superclasses cs c) both.1 in
          has_fields (body_of m o e ∙ x.1) x.2 s.1 (is_number_true (origin cs s.0) o s.2 ∙ sym e)

    no_mixin_true : is_no_mixin k c m ≡ true → IsNoMixin p c m
    no_mixin_true h = by (or_cases (is_another (naming_in p).object (superclass_of cs m)) ((body_at k m).constructs || is_bad_body k c (origin cs m)) h) where
      later : ((body_at k m).constructs ≡ true) ⊎ (is_bad_body k c (origin cs m) ≡ true) → IsNoMixin p c m
      later (inl a) =
          let x = constructs_true (class_at p m) (subst (λ f. f.constructs ≡ true) (body_is m) a) in
          has_constructor x.1 x.2
      later (inr a) = bad_body_true (origin cs m) refl a

      by : (is_another (naming_in p).object (superclass_of cs m) ≡ true) ⊎ (((body_at k m).constructs || is_bad_body k c (origin cs m)) ≡ true) → IsNoMixin p c m
      by (inl a) =
          let s = another_true (naming_in p).object (superclass_of cs m) a in
          has_superclass s.1 s.2
      by (inr a) = later (or_cases (body_at k m).constructs (is_bad_body k c (origin cs m)) a)

    -- where its body is that of a class, it has an origin
    origin_of : (x : Class) → body_class p m ≡ Some x → (o : ℕ) × (origin cs m ≡ Some o) × (class_at p o ≡ Some x)
    unfolding body_class
    origin_of x e = by (origin cs m) refl e where
      by : (r : Option ℕ) → origin cs m ≡ r → option_and_then (class_at p) r ≡ Some x → (o : ℕ) × (origin cs m ≡ Some o) × (class_at p o ≡ Some x)
      by None f h = absurd (not_some x h)
      by (Some o) f h = (o, f, h)

    by_body : is_bad_body k c (origin cs m) ≡ true → is_no_mixin k c m ≡ true
    by_body h = or_right (is_another (naming_in p).object (superclass_of cs m)) ((body_at k m).constructs || is_bad_body k c (origin cs m)) (or_right (body_at k m).constructs (is_bad_body k c (origin cs m)) h)

    no_mixin_from : IsNoMixin p c m → is_no_mixin k c m ≡ true
    no_mixin_from (has_superclass {s = s} e ne) = or_left (is_another (naming_in p).object (superclass_of cs m)) ((body_at k m).constructs || is_bad_body k c (origin cs m)) (another_from (naming_in p).object (superclass_of cs m) s e ne)
    no_mixin_from (has_constructor {x = x} e h) =
        or_right (is_another (naming_in p).object (superclass_of cs m)) ((body_at k m).constructs || is_bad_body k c (origin cs m)) (or_left (body_at k m).constructs (is_bad_body k c (origin cs m)) (subst (λ f. f.constructs ≡ true) (sym (body_is m ∙ ap facts_of e)) h))
    no_mixin_from (has_super {x = x} e h) =
        let o = origin_of x e in
        by_body (subst (λ r. is_bad_body k c r ≡ true) (sym o.1) (or_left (body_at k o.0).asks_super ((body_at k o.0).holds_fields && is_above_with cs c o.0) (subst (λ f. f.asks_super ≡ true) (sym (body_is o.0 ∙ ap facts_of o.2)) h)))
    no_mixin_from (has_fields {x = x} {s = s} e h above same) =
        let o = origin_of x e in
        let holds : (body_at k o.0).holds_fields ≡ true = subst (λ f. f.holds_fields ≡ true) (sym (body_is o.0 ∙ ap facts_of o.2)) h in
        let found : is_above_with cs c o.0 ≡ true = any_from (has_origin cs o.0) (superclasses cs c) s above (is_number_from (origin cs s) o.0 (same ∙ o.1)) in
        by_body (subst (λ r. is_bad_body k c r ≡ true) (sym o.1) (or_right (body_at k o.0).asks_super ((body_at k o.0).holds_fields && is_above_with cs c o.0) (and_from (body_at k o.0).holds_fields (is_above_with cs c o.0) holds found)))

    bad_mixin_from : (o : Option ℕ) → o ≡ Some m → IsNoMixin p c m → is_bad_mixin k c o ≡ true
    bad_mixin_from o e h = subst (λ o. is_bad_mixin k c o ≡ true) (sym e) (no_mixin_from h)

  bad_mixin_true : (c : ℕ) (o : Option ℕ) → is_bad_mixin k c o ≡ true → (m : ℕ) × (o ≡ Some m) × IsNoMixin p c m
  bad_mixin_true c None e = absurd (true≢false (sym e))
  bad_mixin_true c (Some m) e = (m, refl, no_mixin_true c m e)

  -- ---- classes that only the prelude may name

  closed_class_true : (m : ℕ) (o : Option ClassNode) → slice_get cs m ≡ o → is_closed_class o ≡ true → IsClosed p m
  closed_class_true m None at e = absurd (true≢false (sym e))
  closed_class_true m (Some x) at e =
      let both = and_parts (x.file == 0) (is_among x.name closed_names) e in
      record { class = x; at = at; of_prelude = eqb-true x.file 0 both.0; named = both.1 }

  closed_true : (o : Option ℕ) → is_closed k o ≡ true → (m : ℕ) × (o ≡ Some m) × IsClosed p m
  closed_true None e = absurd (true≢false (sym e))
  closed_true (Some m) e = (m, refl, closed_class_true m (slice_get cs m) refl e)

  closed_from : (o : Option ℕ) (m : ℕ) → o ≡ Some m → IsClosed p m → is_closed k o ≡ true
  closed_from o m e h = subst (λ o. is_closed k o ≡ true) (sym e) (subst (λ x. is_closed_class x ≡ true) (sym h.at) (and_from (h.class.file == 0) (is_among h.class.name closed_names) (eq-eqb h.class.file 0 h.of_prelude) h.named))

  -- ---- one head

  abbrev Breaks : Refusal → Type 0
  Breaks x = IsBroken p x.rule x.file x.at

  module _ (n : ℕ) (w : WrittenClass) (head : IsHead p n w) where
    supertype_holds : (names : List Name) (x : Refusal) → Contains (supertypes w.class) names → Contains (supertype_faults k w names) x → Breaks x
    unfolding supertype_faults
    supertype_holds names x named c = by (Contains-append_cases first (second ++ third) x c) where
      first : List Refusal
      first = fault_if (is_none (meant (naming_in p) w names)) C1 w.file (start names)

      second : List Refusal
      second = fault_if (nat_lt 0 w.file && is_closed k (meant (naming_in p) w names)) C4 w.file (start names)

      third : List Refusal
      third = fault_if (is_behind_deferred p.scopes w.file (type_parameters w.class) names) C5 w.file (start names)

      by_third : Contains third x → Breaks x
      by_third c =
          let f = in_fault (is_behind_deferred p.scopes w.file (type_parameters w.class) names) C5 w.file (start names) x c in
          subst Breaks f.1 (deferred head named f.0)

      by_second : Contains second x → Breaks x
      by_second c =
          let f = in_fault (nat_lt 0 w.file && is_closed k (meant (naming_in p) w names)) C4 w.file (start names) x c in
          let both = and_parts (nat_lt 0 w.file) (is_closed k (meant (naming_in p) w names)) f.0 in
          let m = closed_true (meant (naming_in p) w names) both.1 in
          subst Breaks f.1 (closed head named (ltb-true 0 w.file both.0) m.1 m.2)

      by : Contains first x ⊎ Contains (second ++ third) x → Breaks x
      by (inl c) =
          let f = in_fault (is_none (meant (naming_in p) w names)) C1 w.file (start names) x c in
          subst Breaks f.1 (no_class head named (is_none_true (meant (naming_in p) w names) f.0))
      by (inr c) = elim (Contains-append_cases second third x c) [ inl c ↦ by_second c | inr c ↦ by_third c ]

    -- the mixins from the i-th on
    mixins_hold : (i : ℕ) (xs : List (List Name)) (x : Refusal) → ((j : ℕ) (names : List Name) → slice_get xs j ≡ Some names → slice_get (mixin_names w.class) (i + j) ≡ Some names) → Contains (mixin_faults k w (n + i) xs) x → Breaks x
    mixins_hold i [] x at c = absurd (nothing x c)
    mixins_hold i (names ∷ more) x at c = by (Contains-append_cases (mixin_fault k w (n + i) names) (mixin_faults k w (suc (n + i)) more) x c) (mixins_hold (suc i) more x (λ j y e. subst (λ l. slice_get (mixin_names w.class) l ≡ Some y) (omega arith) (at (suc j) y e))) where
      by : Contains (mixin_fault k w (n + i) names) x ⊎ Contains (mixin_faults k w (suc (n + i)) more) x → (Contains (mixin_faults k w (n + suc i) more) x → Breaks x) → Breaks x
      by (inl c) onward =
          let f = in_fault (is_bad_mixin k (n + i) (meant (naming_in p) w names)) C3 w.file (start names) x c in
          let m = bad_mixin_true (n + i) (meant (naming_in p) w names) f.0 in
          subst Breaks f.1 (no_mixin i head (subst (λ l. slice_get (mixin_names w.class) l ≡ Some names) (omega arith) (at 0 names refl)) m.1 m.2)
      by (inr c) onward = onward (subst (λ l. Contains (mixin_faults k w l more) x) (omega arith) c)

    head_holds : (x : Refusal) → Contains (head_faults k n w) x → Breaks x
    unfolding head_faults
    head_holds x c = by (Contains-append_cases (cycle_fault k w (own_number n w)) (flat_map (supertype_faults k w) (supertypes w.class) ++ mixin_faults k w n (mixin_names w.class)) x c) where
      by_supertype : Contains (flat_map (supertype_faults k w) (supertypes w.class)) x → Breaks x
      by_supertype c = let names = over (supertype_faults k w) (supertypes w.class) x c in supertype_holds names.0 x names.1 names.2

      by : Contains (cycle_fault k w (own_number n w)) x ⊎ Contains (flat_map (supertype_faults k w) (supertypes w.class) ++ mixin_faults k w n (mixin_names w.class)) x → Breaks x
      by (inl c) =
          let f = in_fault (is_cycle k (own_number n w)) C2 w.file (own_name w.class).span.from x c in
          subst Breaks f.1 (own_supertype head (cycle_true (own_number n w) f.0))
      by (inr c) = elim (Contains-append_cases (flat_map (supertype_faults k w) (supertypes w.class)) (mixin_faults k w n (mixin_names w.class)) x c) [ inl c ↦ by_supertype c | inr c ↦ mixins_hold 0 (mixin_names w.class) x (λ j y e. subst (λ l. slice_get (mixin_names w.class) l ≡ Some y) (omega arith) e) (subst (λ l. Contains (mixin_faults k w l (mixin_names w.class)) x) (omega arith) c) ]

  -- ---- all heads

  faults_over : (n : ℕ) (ws : List WrittenClass) → faults_from k n ws ≡ flat_map (λ (h : ℕ × WrittenClass). head_faults k h.0 h.1) (heads_from n ws)
  faults_over n [] = refl
  faults_over n (w ∷ ws) = ap (λ xs. head_faults k n w ++ xs) (faults_over (suc (own_number n w)) ws)

  abbrev all : List Refusal
  all = faults_from k 0 (written_in p)

  holds : (x : Refusal) → Contains all x → Breaks x
  holds x c =
      let h = over (λ (h : ℕ × WrittenClass). head_faults k h.0 h.1) (heads_from 0 (written_in p)) x (subst (λ xs. Contains xs x) (faults_over 0 (written_in p)) c) in
      head_holds h.0.0 h.0.1 h.1 x h.2

  of_head : (n : ℕ) (w : WrittenClass) (x : Refusal) → IsHead p n w → Contains (head_faults k n w) x → Contains all x
  of_head n w x head c = subst (λ xs. Contains xs x) (sym (faults_over 0 (written_in p))) (over_from (λ (h : ℕ × WrittenClass). head_faults k h.0 h.1) (heads_from 0 (written_in p)) (n, w) x head c)

  module _ (n : ℕ) (w : WrittenClass) (x : Refusal) (head : IsHead p n w) where
    of_cycle : Contains (cycle_fault k w (own_number n w)) x → Contains all x
    unfolding head_faults
    of_cycle c = of_head n w x head (Contains-append_left (cycle_fault k w (own_number n w)) (flat_map (supertype_faults k w) (supertypes w.class) ++ mixin_faults k w n (mixin_names w.class)) x c)

    of_mixins : Contains (mixin_faults k w n (mixin_names w.class)) x → Contains all x
    unfolding head_faults
    of_mixins c = of_head n w x head (Contains-append_right (cycle_fault k w (own_number n w)) (flat_map (supertype_faults k w) (supertypes w.class) ++ mixin_faults k w n (mixin_names w.class)) x (Contains-append_right (flat_map (supertype_faults k w) (supertypes w.class)) (mixin_faults k w n (mixin_names w.class)) x c))

    of_supertype : (names : List Name) → Contains (supertypes w.class) names → Contains (supertype_faults k w names) x → Contains all x
    unfolding head_faults
    of_supertype names named c = of_head n w x head (Contains-append_right (cycle_fault k w (own_number n w)) (flat_map (supertype_faults k w) (supertypes w.class) ++ mixin_faults k w n (mixin_names w.class)) x (Contains-append_left (flat_map (supertype_faults k w) (supertypes w.class)) (mixin_faults k w n (mixin_names w.class)) x (over_from (supertype_faults k w) (supertypes w.class) names x named c)))

  of_mixin : (w : WrittenClass) (c : ℕ) (xs : List (List Name)) (i : ℕ) (names : List Name) (x : Refusal) → slice_get xs i ≡ Some names → Contains (mixin_fault k w (c + i) names) x → Contains (mixin_faults k w c xs) x
  of_mixin w c [] i names x e h = absurd (not_some names e)
  of_mixin w c (y ∷ ys) zero names x e h = Contains-append_left (mixin_fault k w c y) (mixin_faults k w (suc c) ys) x (subst (λ z. Contains (mixin_fault k w c z) x) (sym (the_same y names e)) (subst (λ l. Contains (mixin_fault k w l names) x) (omega arith) h))
  of_mixin w c (y ∷ ys) (suc i) names x e h = Contains-append_right (mixin_fault k w c y) (mixin_faults k w (suc c) ys) x (of_mixin w (suc c) ys i names x e (subst (λ l. Contains (mixin_fault k w l names) x) (omega arith) h))

  covers : (rule : Rule) (file at : ℕ) → IsBroken p rule file at → Contains all (fault rule file at)
  unfolding supertype_faults
  covers rule file at (no_class {n = n} {w = w} {names = names} head named e) =
      of_supertype n w (fault C1 w.file (start names)) head names named (Contains-append_left (fault_if (is_none (meant (naming_in p) w names)) C1 w.file (start names)) (fault_if (nat_lt 0 w.file && is_closed k (meant (naming_in p) w names)) C4 w.file (start names) ++ fault_if (is_behind_deferred p.scopes w.file (type_parameters w.class) names) C5 w.file (start names)) (fault C1 w.file (start names)) (the_fault (is_none (meant (naming_in p) w names)) C1 w.file (start names) (is_none_from (meant (naming_in p) w names) e)))
  covers rule file at (own_supertype {n = n} {w = w} head r) =
      of_cycle n w (fault C2 w.file (own_name w.class).span.from) head (the_fault (is_cycle k (own_number n w)) C2 w.file (own_name w.class).span.from (cycle_from (own_number n w) r))
  covers rule file at (no_mixin {n = n} {w = w} {m = m} {names = names} i head e f h) =
      of_mixins n w (fault C3 w.file (start names)) head (of_mixin w n (mixin_names w.class) i names (fault C3 w.file (start names)) e (the_fault (is_bad_mixin k (n + i) (meant (naming_in p) w names)) C3 w.file (start names) (bad_mixin_from (n + i) m (meant (naming_in p) w names) f h)))
  covers rule file at (closed {n = n} {w = w} {m = m} {names = names} head named lt e h) =
      of_supertype n w (fault C4 w.file (start names)) head names named (Contains-append_right (fault_if (is_none (meant (naming_in p) w names)) C1 w.file (start names)) (fault_if (nat_lt 0 w.file && is_closed k (meant (naming_in p) w names)) C4 w.file (start names) ++ fault_if (is_behind_deferred p.scopes w.file (type_parameters w.class) names) C5 w.file (start names)) (fault C4 w.file (start names)) (Contains-append_left (fault_if (nat_lt 0 w.file && is_closed k (meant (naming_in p) w names)) C4 w.file (start names)) (fault_if (is_behind_deferred p.scopes w.file (type_parameters w.class) names) C5 w.file (start names)) (fault C4 w.file (start names)) (the_fault (nat_lt 0 w.file && is_closed k (meant (naming_in p) w names)) C4 w.file (start names) (and_from (nat_lt 0 w.file) (is_closed k (meant (naming_in p) w names)) (lt-ltb 0 w.file lt) (closed_from (meant (naming_in p) w names) m e h)))))
  covers rule file at (deferred {n = n} {w = w} {names = names} head named e) =
      of_supertype n w (fault C5 w.file (start names)) head names named (Contains-append_right (fault_if (is_none (meant (naming_in p) w names)) C1 w.file (start names)) (fault_if (nat_lt 0 w.file && is_closed k (meant (naming_in p) w names)) C4 w.file (start names) ++ fault_if (is_behind_deferred p.scopes w.file (type_parameters w.class) names) C5 w.file (start names)) (fault C5 w.file (start names)) (Contains-append_right (fault_if (nat_lt 0 w.file && is_closed k (meant (naming_in p) w names)) C4 w.file (start names)) (fault_if (is_behind_deferred p.scopes w.file (type_parameters w.class) names) C5 w.file (start names)) (fault C5 w.file (start names)) (the_fault (is_behind_deferred p.scopes w.file (type_parameters w.class) names) C5 w.file (start names) e)))

  are_broken : AreBroken (IsBroken p) all
  are_broken = record { holds = holds; all = λ x b. covers x.rule x.file x.at b }

pub first_is : (p : Sources) (flags : List Bool) (found : Option Refusal) → AreCycles (classes_in p) flags → found ≡ first_with None (faults_from (known_in p flags) 0 (written_in p)) → IsFirstOrNone p found
first_is p flags None are e = none_of_broken (IsBroken p) (faults_from (known_in p flags) 0 (written_in p)) (are_broken p flags are) e
first_is p flags (Some x) are e = first_of_broken (IsBroken p) (faults_from (known_in p flags) 0 (written_in p)) x (are_broken p flags are) e
