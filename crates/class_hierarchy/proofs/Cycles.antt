-- Where no class that is written stands above itself, none does. A class without a name is named by the class behind it
-- alone, as its superclass.
use Rattle.std.proofs.Common.{◌≡◌, ◌⊎◌, ◌<◌, ◌≤◌, ◌+◌, ℕ, zero, suc, Bool, true, false, List, [], ◌∷◌, ◌++◌, length, Option, Some, None, inl, inr, refl, sym, ap, ◌∙◌, subst, arith}
use Rattle.std.specs.Prelude.{◌==◌, if◌then◌else◌, slice_get, option_and_then, option_to_list, codes}
use Rattle.std.specs.List.{Contains, filter_map, cons_option}
use Rattle.std.proofs.lemmas.Bool.{cases_lt}
use Rattle.std.proofs.lemmas.Option.{slice_get_past}
use Rattle.std.proofs.lemmas.List.Elements.{Contains-append_cases}
use Rattle.dart_grammar.specs.declared.trees.Name.{Name}
use Rattle.dart_sites.specs.declared.surroundings.Owner.{Owner}
use Rattle.dart_sites.specs.declared.surroundings.Owner.TheVariants as o
use Rattle.dart_program.specs.First.{BreaksNone}
use Rattle.dart_syntax.specs.declared.rules.Rule.TheVariants.{C2}
use Rattle.library_scopes.specs.Lookups.{lookup}
use Rattle.class_heads.specs.declared.nodes.ClassNode.{ClassNode}
use Rattle.class_heads.specs.declared.naming.Naming.{Naming}
use Rattle.class_heads.specs.declared.written.WrittenClass.{WrittenClass}
use Rattle.class_heads.specs.Written.{own_name, type_parameters, superclass_names, interface_names, nameless, heads_from, numbers_from, class_numbers}
use Rattle.class_heads.specs.Heads.{meant, class_meant, class_named, object_number}
use Rattle.class_heads.specs.Classes.{unless_itself, first_superclass, nameless_class, named_class, with_body, without_body, of_head, with_head, with_heads, classes}
use Rattle.class_heads.specs.Supertypes.{Classes, named_by, supertypes_of, IsAbove, next, further}
use Rattle.class_heads.specs.Sources.{Sources, classes_in, written_in, naming_in}
use Rattle.class_heads.specs.Rules.{own_number, IsBroken, own_supertype}

-- ---- lists and answers

not_some : {A : Type 0} (x : A) → None ≡ Some x → ⊥
not_some x e = cc

the_same : {A : Type 0} (x y : A) → Some x ≡ Some y → x ≡ y
the_same x y e = cc

nothing : {A : Type 0} (y : A) → Contains [] y → ⊥
nothing y c = omega (arith, c.1)

here : {A : Type 0} (x : A) (xs : List A) → Contains (x ∷ xs) x
here x xs = (0, omega arith, refl)

there : {A : Type 0} (y x : A) (xs : List A) → Contains xs x → Contains (y ∷ xs) x
there y x xs h = (suc h.0, omega (arith, h.1), h.2)

either : {A : Type 0} (x : A) (xs : List A) (y : A) → Contains (x ∷ xs) y → (x ≡ y) ⊎ Contains xs y
either x xs y (zero, lt, e) = inl e
either x xs y (suc k, lt, e) = inr (k, omega (arith, lt), e)

in_slice : {A : Type 0} (xs : List A) (k : ℕ) (y : A) → slice_get xs k ≡ Some y → Contains xs y
in_slice {A = A} [] k y e = absurd (not_some y e)
in_slice {A = A} (x ∷ xs) zero y e = (0, omega arith, the_same x y e)
in_slice {A = A} (x ∷ xs) (suc k) y e = there x y xs (in_slice xs k y e)

-- what stands in a list with one more behind it
appended : {A : Type 0} (xs : List A) (x : A) (i : ℕ) (z : A) → slice_get (xs ++ x ∷ []) i ≡ Some z → (slice_get xs i ≡ Some z) ⊎ ((i ≡ length xs) × (x ≡ z))
appended {A = A} [] x zero z e = inr (refl, the_same x z e)
appended {A = A} [] x (suc i) z e = absurd (not_some z e)
appended {A = A} (y ∷ xs) x zero z e = inl e
appended {A = A} (y ∷ xs) x (suc i) z e = by (appended xs x i z e) where
  by : (slice_get xs i ≡ Some z) ⊎ ((i ≡ length xs) × (x ≡ z)) → (slice_get (y ∷ xs) (suc i) ≡ Some z) ⊎ ((suc i ≡ length (y ∷ xs)) × (x ≡ z))
  by (inl e) = inl e
  by (inr h) = inr (ap suc h.0, h.1)

longer : {A : Type 0} (xs : List A) (x : A) → length (xs ++ x ∷ []) ≡ suc (length xs)
longer [] x = refl
longer (y ∷ xs) x = ap suc (longer xs x)

answered : {A B : Type 0} (f : A → Option B) (o : Option A) (y : B) → option_and_then f o ≡ Some y → (x : A) × (f x ≡ Some y)
answered {A = A} {B = B} f None y e = absurd (not_some y e)
answered {A = A} {B = B} f (Some x) y e = (x, e)

in_option : {A : Type 0} (o : Option A) (y : A) → Contains (option_to_list o) y → o ≡ Some y
in_option {A = A} None y c = absurd (nothing y c)
in_option {A = A} (Some x) y c = by (either x [] y c) where
  by : (x ≡ y) ⊎ Contains [] y → Some x ≡ Some y
  by (inl e) = ap Some e
  by (inr c) = absurd (nothing y c)

in_filter : {A B : Type 0} (f : A → Option B) (xs : List A) (y : B) → Contains (filter_map f xs) y → (x : A) × (f x ≡ Some y)
in_filter {A = A} {B = B} f [] y c = absurd (nothing y c)
in_filter {A = A} {B = B} f (x ∷ xs) y c = by (f x) refl c (in_filter f xs y) where
  by : (o : Option B) → f x ≡ o → Contains (cons_option o (filter_map f xs)) y → (Contains (filter_map f xs) y → (z : A) × (f z ≡ Some y)) → (z : A) × (f z ≡ Some y)
  by None e c more = more c
  by (Some z) e c more = elim (either z (filter_map f xs) y c) [ inl s ↦ (x, e ∙ ap Some s) | inr c ↦ more c ]

-- ---- what the classes of heads name: a class that is written, or the one before

abbrev IsKnown : List ℕ → ℕ → ℕ → Type 0
IsKnown numbers i y = Contains numbers y ⊎ (i ≡ suc y)

abbrev AreKnown : List ℕ → Classes → Type 0
AreKnown numbers cs = (i : ℕ) (x : ClassNode) → slice_get cs i ≡ Some x → (y : ℕ) → Contains (named_by (Some x)) y → IsKnown numbers i y

none_known : (numbers : List ℕ) → AreKnown numbers []
none_known numbers i x e y c = absurd (not_some x e)

one_more_known : (numbers : List ℕ) (before : Classes) (x : ClassNode) → AreKnown numbers before → ((y : ℕ) → Contains (named_by (Some x)) y → IsKnown numbers (length before) y) → AreKnown numbers (before ++ x ∷ [])
one_more_known numbers before x known here i z e y c = by (appended before x i z e) where
  by : (slice_get before i ≡ Some z) ⊎ ((i ≡ length before) × (x ≡ z)) → IsKnown numbers i y
  by (inl e) = known i z e y c
  by (inr h) = subst (λ i. IsKnown numbers i y) (sym h.0) (here y (subst (λ z. Contains (named_by (Some z)) y) (sym h.1) c))

-- one class, by its superclass, its mixin and its interfaces
node_known : (numbers : List ℕ) (i : ℕ) (x : ClassNode) → ((y : ℕ) → x.superclass ≡ Some y → IsKnown numbers i y) → ((y : ℕ) → x.mixin ≡ Some y → Contains numbers y) → ((y : ℕ) → Contains x.interfaces y → Contains numbers y) → (y : ℕ) → Contains (named_by (Some x)) y → IsKnown numbers i y
node_known numbers i x superclass mixin interfaces y c = by (Contains-append_cases (option_to_list x.superclass) (option_to_list x.mixin ++ x.interfaces) y c) where
  by : Contains (option_to_list x.superclass) y ⊎ Contains (option_to_list x.mixin ++ x.interfaces) y → IsKnown numbers i y
  by (inl c) = superclass y (in_option x.superclass y c)
  by (inr c) = elim (Contains-append_cases (option_to_list x.mixin) x.interfaces y c) [ inl c ↦ inl (mixin y (in_option x.mixin y c)) | inr c ↦ inl (interfaces y c) ]

module _ (h : Naming) (object : (y : ℕ) → h.object ≡ Some y → Contains h.numbers y) where
  meant_known : (w : WrittenClass) (names : List Name) (y : ℕ) → meant h w names ≡ Some y → Contains h.numbers y
  meant_known w names y e =
      let k = answered (slice_get h.numbers) (class_meant h.scopes w.file (type_parameters w.class) names) y e in
      in_slice h.numbers k.0 y k.1

  unless_known : (c : ℕ) (o : Option ℕ) (y : ℕ) → unless_itself c o ≡ Some y → o ≡ Some y
  unless_known c None y e = e
  unless_known c (Some x) y e = by (x == c) e where
    by : (b : Bool) → (if b then None else Some x) ≡ Some y → Some x ≡ Some y
    by true e = absurd (not_some y e)
    by false e = e

  first_known : (w : WrittenClass) (c : ℕ) (names : Option (List Name)) (y : ℕ) → first_superclass h w c names ≡ Some y → Contains h.numbers y
  first_known w c None y e = object y (unless_known c h.object y e)
  first_known w c (Some names) y e = meant_known w names y e

  named_known : (w : WrittenClass) (i : ℕ) (superclass mixin : Option ℕ) → ((y : ℕ) → superclass ≡ Some y → IsKnown h.numbers i y) → ((y : ℕ) → mixin ≡ Some y → Contains h.numbers y) → (y : ℕ) → Contains (named_by (Some (named_class h w superclass mixin))) y → IsKnown h.numbers i y
  named_known w i superclass mixin above beside = node_known h.numbers i (named_class h w superclass mixin) above beside (λ y c. let names = in_filter (meant h w) (interface_names w.class) y c in meant_known w names.0 y names.1)

  nameless_known : (w : WrittenClass) (i : ℕ) (superclass : Option ℕ) (m : List Name) → ((y : ℕ) → superclass ≡ Some y → IsKnown h.numbers i y) → (y : ℕ) → Contains (named_by (Some (nameless_class h w superclass m))) y → IsKnown h.numbers i y
  nameless_known w i superclass m above = node_known h.numbers i (nameless_class h w superclass m) above (meant_known w m) (λ y c. absurd (nothing y c))

  -- the one before is known
  before_known : (w : WrittenClass) (before : Classes) (x : ClassNode) (y : ℕ) → Some (length before) ≡ Some y → IsKnown h.numbers (length (before ++ x ∷ [])) y
  before_known w before x y e = inr (longer before x ∙ ap suc (the_same (length before) y e))

  no_mixin : (y : ℕ) → None ≡ Some y → Contains h.numbers y
  no_mixin y e = absurd (not_some y e)

  with_body_known : (w : WrittenClass) (before : Classes) (superclass : Option ℕ) (ms : List (List Name)) → AreKnown h.numbers before → ((y : ℕ) → superclass ≡ Some y → IsKnown h.numbers (length before) y) → AreKnown h.numbers (with_body h w before superclass ms)
  with_body_known w before superclass [] known above = one_more_known h.numbers before (named_class h w superclass None) known (named_known w (length before) superclass None above no_mixin)
  with_body_known w before superclass (m ∷ ms) known above =
      with_body_known w (before ++ nameless_class h w superclass m ∷ []) (Some (length before)) ms (one_more_known h.numbers before (nameless_class h w superclass m) known (nameless_known w (length before) superclass m above)) (before_known w before (nameless_class h w superclass m))

  without_body_known : (w : WrittenClass) (before : Classes) (superclass : Option ℕ) (ms : List (List Name)) → AreKnown h.numbers before → ((y : ℕ) → superclass ≡ Some y → IsKnown h.numbers (length before) y) → AreKnown h.numbers (without_body h w before superclass ms)
  without_body_known w before superclass [] known above = one_more_known h.numbers before (named_class h w superclass None) known (named_known w (length before) superclass None above no_mixin)
  without_body_known w before superclass (m ∷ []) known above = one_more_known h.numbers before (named_class h w superclass (meant h w m)) known (named_known w (length before) superclass (meant h w m) above (meant_known w m))
  without_body_known w before superclass (m ∷ n ∷ ms) known above =
      without_body_known w (before ++ nameless_class h w superclass m ∷ []) (Some (length before)) (n ∷ ms) (one_more_known h.numbers before (nameless_class h w superclass m) known (nameless_known w (length before) superclass m above)) (before_known w before (nameless_class h w superclass m))

  of_head_known : (w : WrittenClass) (before : Classes) (x : Owner) (superclass : Option ℕ) → AreKnown h.numbers before → ((y : ℕ) → superclass ≡ Some y → IsKnown h.numbers (length before) y) → AreKnown h.numbers (of_head h w before x superclass)
  of_head_known w before (o.Class x) superclass known above = with_body_known w before superclass x.mixins known above
  of_head_known w before (o.Alias x) superclass known above = without_body_known w before superclass x.mixins known above

  heads_known : (before : Classes) (ws : List WrittenClass) → AreKnown h.numbers before → AreKnown h.numbers (with_heads h before ws)
  heads_known before [] known = known
  heads_known before (w ∷ ws) known =
      heads_known (with_head h before w) ws (of_head_known w before w.class (first_superclass h w (length before) (superclass_names w.class)) known (λ y e. inl (first_known w (length before) (superclass_names w.class) y e)))

-- ---- the numbers of classes that are written

in_heads : (n : ℕ) (ws : List WrittenClass) (y : ℕ) → Contains (numbers_from n ws) y → (k : ℕ) × (w : WrittenClass) × Contains (heads_from n ws) (k, w) × (own_number k w ≡ y)
in_heads n [] y c = absurd (nothing y c)
in_heads n (w ∷ ws) y c = by (either (n + nameless w.class) (numbers_from (suc (n + nameless w.class)) ws) y c) (in_heads (suc (n + nameless w.class)) ws y) where
  by : (n + nameless w.class ≡ y) ⊎ Contains (numbers_from (suc (n + nameless w.class)) ws) y
      → (Contains (numbers_from (suc (n + nameless w.class)) ws) y → (k : ℕ) × (v : WrittenClass) × Contains (heads_from (suc (n + nameless w.class)) ws) (k, v) × (own_number k v ≡ y))
      → (k : ℕ) × (v : WrittenClass) × Contains (heads_from n (w ∷ ws)) (k, v) × (own_number k v ≡ y)
  by (inl e) more = (n, w, here (n, w) (heads_from (suc (n + nameless w.class)) ws), e)
  by (inr c) more =
      let head = more c in
      (head.0, head.1, there (n, w) (head.0, head.1) (heads_from (suc (n + nameless w.class)) ws) head.2, head.3)

-- ---- a program in which no class that is written stands above itself

module _ (p : Sources) (keeps : BreaksNone (IsBroken p)) where
  abbrev cs : Classes
  cs = classes_in p

  object_is_written : (y : ℕ) → (naming_in p).object ≡ Some y → Contains (naming_in p).numbers y
  unfolding object_number
  object_is_written y e =
      let k = answered (slice_get (class_numbers p.files)) (option_and_then class_named (lookup p.scopes 0 (codes "Object"))) y e in
      in_slice (class_numbers p.files) k.0 y k.1

  all_known : AreKnown (class_numbers p.files) cs
  unfolding classes_in classes
  all_known = heads_known (naming_in p) object_is_written [] (written_in p) (none_known (class_numbers p.files))

  stands : (c d : ℕ) → Contains (supertypes_of cs c) d → c < length cs
  unfolding supertypes_of
  stands c d h = by (cases_lt c (length cs)) where
    by : (c < length cs) ⊎ (length cs ≤ c) → c < length cs
    by (inl lt) = lt
    by (inr le) = absurd (nothing d (subst (λ o. Contains (named_by o) d) (slice_get_past cs c le) h))

  -- what names a class is known
  named_is_known : (d c : ℕ) → Contains (supertypes_of cs d) c → IsKnown (class_numbers p.files) d c
  unfolding supertypes_of
  named_is_known d c h = by (slice_get cs d) refl h where
    by : (o : Option ClassNode) → slice_get cs d ≡ o → Contains (named_by o) c → IsKnown (class_numbers p.files) d c
    by None e h = absurd (nothing c h)
    by (Some x) e h = all_known d x e c h

  written_is_not : (c : ℕ) → Contains (class_numbers p.files) c → IsAbove cs c c → ⊥
  unfolding class_numbers
  written_is_not c known above =
      let head = in_heads 0 (written_in p) c known in
      keeps.none (record { rule = C2; file = head.1.file; at = (own_name head.1.class).span.from }) (own_supertype head.2 (subst (λ c. IsAbove cs c c) (sym head.3) above))

  -- the last step of a way, behind none or some others
  abbrev LastStep : ℕ → ℕ → Type 0
  LastStep c e = (d : ℕ) × ((c ≡ d) ⊎ IsAbove cs c d) × Contains (supertypes_of cs d) e

  last_step : (c e : ℕ) → IsAbove cs c e → LastStep c e
  last_step c e (next h) = (c, inl refl, h)
  last_step c e (further {d = d} h r) = by (last_step d e r) where
    by : LastStep d e → LastStep c e
    by (x, inl s, g) = (x, inr (next (subst (λ y. Contains (supertypes_of cs c) y) s h)), g)
    by (x, inr a, g) = (x, inr (further h a), g)

  begins : {c d : ℕ} → IsAbove cs c d → c < length cs
  begins (next {c = c} {d = d} h) = stands c d h
  begins (further {c = c} {d = d} {e = e} h r) = stands c d h

  -- A class that stands above itself is not written, so it is named by the one behind it, which then stands above itself too.
  behind_it : (c : ℕ) → IsAbove cs c c → (IsAbove cs (suc c) (suc c) → ⊥) → ⊥
  behind_it c above onward = by (last_step c c above) where
    turned : (d : ℕ) → (c ≡ d) ⊎ IsAbove cs c d → Contains (supertypes_of cs d) c → IsAbove cs d d
    turned d (inl s) g = subst (λ x. IsAbove cs x x) s above
    turned d (inr a) g = further g a

    by : LastStep c c → ⊥
    by (d, way, g) = elim (named_is_known d c g) [ inl known ↦ written_is_not c known above | inr s ↦ onward (subst (λ x. IsAbove cs x x) s (turned d way g)) ]

  none_from : (n c : ℕ) → length cs ≤ n + c → IsAbove cs c c → ⊥
  none_from zero c le above = omega (arith, le, begins above)
  none_from (suc n) c le above = behind_it c above (λ a. none_from n (suc c) (omega (arith, le)) a)

pub none_above_itself : (p : Sources) → BreaksNone (IsBroken p) → (c : ℕ) → IsAbove (classes_in p) c c → ⊥
none_above_itself p keeps c above = none_from p keeps (length (classes_in p)) c (omega arith) above

-- by the list of the classes
pub none_in_list : (p : Sources) → BreaksNone (IsBroken p) → (cs : Classes) → cs ≡ classes p.files p.scopes → (c : ℕ) → IsAbove cs c c → ⊥
unfolding classes_in
none_in_list p keeps cs e c above = none_above_itself p keeps c (subst (λ cs. IsAbove cs c c) e above)
