-- Where ranks fall on the way up, no class stands above itself.
use Rattle.std.proofs.Common.{◌≡◌, ◌<◌, ◌+◌, ℕ, zero, suc, Bool, true, false, List, [], ◌∷◌, ◌++◌, length, get_or, Some, inl, inr, refl, sym, ap, ◌∙◌, subst, arith}
use Rattle.std.specs.Prelude.{◌&&◌, slice_get, replicate, MatchBool}
use Rattle.std.specs.List.{Contains, list_all}
use Rattle.std.proofs.Math.Seq.{get_or-append_seam}
use Rattle.std.proofs.lemmas.Bool.{ltb-true, cases_lt}
use Rattle.std.proofs.lemmas.List.{get_or-replicate, length-replicate, length_push, get_or_append_left}
use Rattle.class_heads.specs.declared.nodes.ClassNode.{ClassNode}
use Rattle.class_heads.specs.Supertypes.{Classes, named_by, supertypes_of, IsAbove, next, further, AreCycles}
use Rattle.class_heads.specs.Ranks.{is_lower, falls_at, falls_from}
use Rattle.class_heads.proofs.Searches.{equal}

all_joined : {A : Type 0} (p : A → Bool) (xs ys : List A) → list_all p (xs ++ ys) ≡ (list_all p xs && list_all p ys)
all_joined p [] ys = refl
all_joined p (x ∷ xs) ys = by (p x) (all_joined p xs ys) where
  by : (b : Bool) → list_all p (xs ++ ys) ≡ (list_all p xs && list_all p ys) → (b && list_all p (xs ++ ys)) ≡ ((b && list_all p xs) && list_all p ys)
  by true e = e
  by false e = refl

pub all_of_three : {A : Type 0} (p : A → Bool) (xs ys zs : List A) → list_all p (xs ++ (ys ++ zs)) ≡ (list_all p xs && (list_all p ys && list_all p zs))
all_of_three p xs ys zs = all_joined p xs (ys ++ zs) ∙ ap (λ b. list_all p xs && b) (all_joined p ys zs)

and_left : (a b : Bool) → (a && b) ≡ true → a ≡ true
and_left true b e = refl
and_left false b e = e

and_right : (a b : Bool) → (a && b) ≡ true → b ≡ true
and_right true b e = e
and_right false b e = absurd (not_true e) where
  not_true : false ≡ true → ⊥
  not_true h = cc

all_each : {A : Type 0} (p : A → Bool) (xs : List A) → list_all p xs ≡ true → (x : A) → Contains xs x → p x ≡ true
all_each p [] e x c = absurd (omega (arith, c.1))
all_each p (y ∷ ys) e x (zero, lt, is) = ap p (sym is) ∙ and_left (p y) (list_all p ys) e
all_each p (y ∷ ys) e x (suc k, lt, is) = all_each p ys (and_right (p y) (list_all p ys) e) x (k, omega (arith, lt), is)

abbrev pub rank : List ℕ → ℕ → ℕ
rank ranks c = get_or ranks c 0

falls_each : (ranks : List ℕ) (n : ℕ) (cs : Classes) → falls_from ranks n cs ≡ true → (k d : ℕ) → Contains (named_by (slice_get cs k)) d → rank ranks d < rank ranks (n + k)
unfolding falls_at
falls_each ranks n [] e k d c = absurd (none d c) where
  none : (d : ℕ) → Contains (named_by (slice_get {X = ClassNode} [] k)) d → ⊥
  none d c = omega (arith, c.1)
falls_each ranks n (x ∷ xs) e zero d c =
    let all = all_each (is_lower ranks (rank ranks n)) (named_by (Some x)) (and_left (falls_at ranks (rank ranks n) x) (falls_from ranks (suc n) xs) e) d c in
    subst (λ m. rank ranks d < rank ranks m) (omega arith) (ltb-true (rank ranks d) (rank ranks n) all)
falls_each ranks n (x ∷ xs) e (suc k) d c =
    subst (λ m. rank ranks d < rank ranks m) (omega arith) (falls_each ranks (suc n) xs (and_right (falls_at ranks (rank ranks n) x) (falls_from ranks (suc n) xs) e) k d c)

module _ (ranks : List ℕ) (cs : Classes) (falls : falls_from ranks 0 cs ≡ true) where
  falls_once : (c d : ℕ) → Contains (supertypes_of cs c) d → rank ranks d < rank ranks c
  unfolding supertypes_of
  falls_once c d h = subst (λ m. rank ranks d < rank ranks m) (omega arith) (falls_each ranks 0 cs falls c d h)

  falls_above : {c d : ℕ} → IsAbove cs c d → rank ranks d < rank ranks c
  falls_above (next {c = c} {d = d} h) = falls_once c d h
  falls_above (further {c = c} {d = d} {e = e} h r) = below (rank ranks e) (rank ranks d) (rank ranks c) (falls_above r) (falls_once c d h) where
    below : (x y z : ℕ) → x < y → y < z → x < z
    below x y z p q = omega (arith, p, q)

  pub falls_never_back : (c : ℕ) → IsAbove cs c c → ⊥
  falls_never_back c r = omega (arith, falls_above r)

-- ---- for each class

pub none_above : (ranks : List ℕ) (cs : Classes) (flags : List Bool) → falls_from ranks 0 cs ≡ true → flags ≡ replicate (length cs) false → AreCycles cs flags
none_above ranks cs flags falls e =
    subst (AreCycles cs) (sym e)
    (record {
      long = length-replicate (length cs) false;
      each = λ c lt. subst (λ b. MatchBool b (IsAbove cs c c) (IsAbove cs c c → ⊥)) (sym (get_or-replicate (length cs) c false false lt)) (falls_never_back ranks cs falls c);
    })

pub record AreCyclesTo (cs : Classes) (n : ℕ) (flags : List Bool) : Type 0 where
  pub long : length flags ≡ n
  pub each : (c : ℕ) → c < n → MatchBool (get_or flags c false) (IsAbove cs c c) (IsAbove cs c c → ⊥)

pub no_class : (cs : Classes) → AreCyclesTo cs 0 []
no_class cs = record { long = refl; each = λ c lt. absurd (omega (arith, lt)) }

pub one_class_more : (cs : Classes) (n : ℕ) (flags new : List Bool) (found : Bool) → AreCyclesTo cs n flags → MatchBool found (IsAbove cs n n) (IsAbove cs n n → ⊥) → new ≡ flags ++ found ∷ [] → AreCyclesTo cs (n + 1) new
one_class_more cs n flags new found so here e = subst (AreCyclesTo cs (n + 1)) (sym e) (record { long = length_push flags found ∙ ap (λ m. m + 1) so.long; each = each }) where
  last : get_or (flags ++ found ∷ []) n false ≡ found
  last = ap (λ m. get_or (flags ++ found ∷ []) m false) (sym so.long) ∙ get_or-append_seam flags found [] false

  each : (c : ℕ) → c < n + 1 → MatchBool (get_or (flags ++ found ∷ []) c false) (IsAbove cs c c) (IsAbove cs c c → ⊥)
  each c lt =
      elim (cases_lt c n) [
        | inl below ↦ subst (λ b. MatchBool b (IsAbove cs c c) (IsAbove cs c c → ⊥)) (sym (get_or_append_left flags (found ∷ []) false c (subst (λ m. c < m) (sym so.long) below))) (so.each c below)
        | inr past ↦ subst (λ m. MatchBool (get_or (flags ++ found ∷ []) m false) (IsAbove cs m m) (IsAbove cs m m → ⊥)) (sym (equal c n lt past)) (subst (λ b. MatchBool b (IsAbove cs n n) (IsAbove cs n n → ⊥)) (sym last) here)
      ]

pub each_class : (cs : Classes) (n : ℕ) (flags : List Bool) → n ≡ length cs → AreCyclesTo cs n flags → AreCycles cs flags
each_class cs n flags e so = record { long = so.long ∙ e; each = λ c lt. so.each c (subst (λ m. c < m) (sym e) lt) }
