-- The body that a class has is that of its mixin, so along an order each is found from one that is known.
use Rattle.std.proofs.Common.{◌≡◌, ℕ, zero, suc, ◌+◌, ◌<◌, ◌≤◌, cond, List, [], ◌++◌, length, get_or, set, replicate, Option, Some, None, inl, inr, refl, sym, ap, ◌∙◌, subst, arith}
use Rattle.std.specs.Prelude.{slice_get, option_and_then, option_to_list}
use Rattle.std.specs.List.{Contains}
use Rattle.std.specs.Option.{unwrap_or}
use Rattle.std.proofs.lemmas.Bool.{cases_lt, le-ltb}
use Rattle.std.proofs.lemmas.Bool.Decides.{eqb_tells}
use Rattle.std.proofs.lemmas.Option.{none-some, same_Some, slice_get_past, slice_get-get_or, unwrap_or-slice_get}
use Rattle.std.proofs.lemmas.List.{get_or_default, length-set, length-replicate}
use Rattle.class_heads.specs.declared.nodes.ClassNode.{ClassNode}
use Rattle.class_heads.specs.Sources.{Sources, classes_in}
use Rattle.class_heads.specs.Supertypes.{Classes, supertypes_of, named_by}
use Rattle.class_heads.specs.Origins.{mixin_of, through_mixin, origin_to, origin}
use Rattle.class_heads.specs.Bodies.{class_count}
use Rattle.class_members.specs.Owners.{own_members}
use Rattle.supertypes.specs.Upward.{IsUpward}
use Rattle.member_tables.specs.Lookup.{members_of}
use Rattle.member_tables.specs.Origins.{members_if, body_behind, AreOrigins, AreOriginsTo}
use Rattle.member_tables.proofs.Placed.{place_same, place_other}
use Rattle.member_tables.proofs.Walks.{count_is, is_class, at_named}

mixin_none : (cs : Classes) (c : ℕ) → slice_get cs c ≡ None → mixin_of cs c ≡ None
unfolding mixin_of
mixin_none cs c e = ap (option_and_then (λ x. x.mixin)) e

mixin_named : (cs : Classes) (c d : ℕ) → mixin_of cs c ≡ Some d → Contains (supertypes_of cs c) d
unfolding mixin_of supertypes_of
mixin_named cs c d e = by (slice_get cs c) e where
  second : (s o : Option ℕ) (more : List ℕ) → o ≡ Some d → Contains (option_to_list s ++ (option_to_list o ++ more)) d
  second s None more e = absurd (none-some d e)
  second None (Some x) more e = (0, omega arith, same_Some x d e)
  second (Some s) (Some x) more e = (1, omega arith, same_Some x d e)

  by : (o : Option ClassNode) → option_and_then (λ x. x.mixin) o ≡ Some d → Contains (named_by o) d
  by None e = absurd (none-some d e)
  by (Some x) e = second x.superclass x.mixin x.interfaces e

origin_is : (cs : Classes) (c : ℕ) → origin cs c ≡ origin_to (length cs) cs c
unfolding origin
origin_is cs c = refl

module _ (p : Sources) where
  abbrev cs : Classes
  cs = classes_in p

  no_members : (d : ℕ) → length cs ≤ d → members_of p d ≡ []
  no_members d le = ap (λ b. cond b (own_members p d) []) (le-ltb d (class_count p) (omega (arith, le, count_is p)))

  past_members : (n d : ℕ) → length cs ≤ d → members_if p (origin_to n cs d) ≡ []
  past_members zero d le = refl
  past_members (suc n) d le = ap (λ o. members_if p (through_mixin (origin_to n cs) d o)) (mixin_none cs d (slice_get_past cs d le)) ∙ no_members d le

  -- where the mixin has the same members, so does the class
  same_behind : (n m c : ℕ) (o : Option ℕ) → ((d : ℕ) → o ≡ Some d → members_if p (origin_to n cs d) ≡ members_if p (origin_to m cs d)) → members_if p (through_mixin (origin_to n cs) c o) ≡ members_if p (through_mixin (origin_to m cs) c o)
  same_behind n m c None same = refl
  same_behind n m c (Some d) same = same d refl

  module _ (order : List ℕ) (up : IsUpward cs order) where
    at_mixin : (P : ℕ → Type 0) (i : ℕ) → i < length order → ((j : ℕ) → j < i → P (get_or order j 0)) → ((d : ℕ) → length cs ≤ d → P d) → (d : ℕ) → mixin_of cs (get_or order i 0) ≡ Some d → P d
    at_mixin P i lt earlier past d e = at_named p order up P i lt earlier past d (mixin_named cs (get_or order i 0) d e)

    stable : (k i n m : ℕ) → i < k → i < length order → i < n → i < m → members_if p (origin_to n cs (get_or order i 0)) ≡ members_if p (origin_to m cs (get_or order i 0))
    stable zero i n m below lt a b = absurd (omega (arith, below))
    stable (suc k) i zero m below lt a b = absurd (omega (arith, a))
    stable (suc k) i (suc n) zero below lt a b = absurd (omega (arith, b))
    stable (suc k) i (suc n) (suc m) below lt a b =
        same_behind n m (get_or order i 0) (mixin_of cs (get_or order i 0))
        (at_mixin (λ d. members_if p (origin_to n cs d) ≡ members_if p (origin_to m cs d)) i lt
        (λ j earlier. stable k j n m (omega (arith, below, earlier)) (omega (arith, lt, earlier)) (omega (arith, a, earlier)) (omega (arith, b, earlier)))
        (λ d le. past_members n d le ∙ sym (past_members m d le)))

    steps_to : (i m : ℕ) → i < length order → i < m → members_if p (origin_to m cs (get_or order i 0)) ≡ members_if p (through_mixin (origin_to m cs) (get_or order i 0) (mixin_of cs (get_or order i 0)))
    steps_to i zero lt a = absurd (omega (arith, a))
    steps_to i (suc m) lt a =
        same_behind m (suc m) (get_or order i 0) (mixin_of cs (get_or order i 0))
        (at_mixin (λ d. members_if p (origin_to m cs d) ≡ members_if p (origin_to (suc m) cs d)) i lt
        (λ j earlier. stable i j m (suc m) earlier (omega (arith, lt, earlier)) (omega (arith, a, earlier)) (omega (arith, a, earlier)))
        (λ d le. past_members m d le ∙ sym (past_members (suc m) d le)))

    -- ---- the list of them

    pub origins_begin : (count : ℕ) (origins : List ℕ) → origins ≡ replicate count 0 → count ≡ length cs → AreOriginsTo p order 0 origins
    origins_begin count origins all many = record { long = ap length all ∙ length-replicate count 0 ∙ many ∙ sym (count_is p); each = λ j lt. absurd (omega (arith, lt)) }

    module _ (i c o : ℕ) (origins : List ℕ) (lt : i < length order) (is : c ≡ get_or order i 0) (so : AreOriginsTo p order i origins) (made : o ≡ body_behind origins c (mixin_of cs c)) where
      pub origin_inside : c < length origins
      origin_inside = omega (arith, is_class p order up i c lt is, so.long, count_is p)

      known : (d : ℕ) → mixin_of cs (get_or order i 0) ≡ Some d → members_of p (get_or origins d d) ≡ members_if p (origin_to (length cs) cs d)
      known = at_mixin (λ d. members_of p (get_or origins d d) ≡ members_if p (origin_to (length cs) cs d)) i lt before past where
        before : (j : ℕ) → j < i → members_of p (get_or origins (get_or order j 0) (get_or order j 0)) ≡ members_if p (origin_to (length cs) cs (get_or order j 0))
        before j earlier =
            let class : get_or order j 0 < length cs = is_class p order up j (get_or order j 0) (omega (arith, lt, earlier)) refl in
            sym (ap (members_if p) (slice_get-get_or origins (get_or order j 0) (get_or order j 0) (omega (arith, class, so.long, count_is p))))
            ∙ so.each j earlier ∙ ap (members_if p) (origin_is cs (get_or order j 0))

        past : (d : ℕ) → length cs ≤ d → members_of p (get_or origins d d) ≡ members_if p (origin_to (length cs) cs d)
        past d le =
            ap (members_of p) (sym (unwrap_or-slice_get origins d d) ∙ ap (λ r. unwrap_or r d) (slice_get_past origins d (omega (arith, le, so.long, count_is p))))
            ∙ no_members d le ∙ sym (past_members (length cs) d le)

      at_class : members_of p o ≡ members_if p (origin cs c)
      at_class =
          ap (members_of p) (made ∙ ap (λ k. body_behind origins k (mixin_of cs k)) is)
          ∙ by (mixin_of cs (get_or order i 0)) known
          ∙ sym (steps_to i (length cs) lt (omega (arith, lt, up.long)))
          ∙ ap (members_if p) (sym (origin_is cs (get_or order i 0)) ∙ ap (origin cs) (sym is))
        where
          by : (r : Option ℕ) → ((d : ℕ) → r ≡ Some d → members_of p (get_or origins d d) ≡ members_if p (origin_to (length cs) cs d)) → members_of p (body_behind origins (get_or order i 0) r) ≡ members_if p (through_mixin (origin_to (length cs) cs) (get_or order i 0) r)
          by None same = refl
          by (Some d) same = same d refl

      each_origin : (j : ℕ) → j < i + 1 → members_if p (slice_get (set origins c o) (get_or order j 0)) ≡ members_if p (origin cs (get_or order j 0))
      each_origin j below =
          elim (eqb_tells (get_or order j 0) c) [
            | inl same ↦ subst (λ k. members_if p (slice_get (set origins c o) k) ≡ members_if p (origin cs k)) (sym same.1) (ap (members_if p) (place_same origins c o origin_inside) ∙ at_class)
            | inr other ↦
                elim (cases_lt j i) [
                  | inl earlier ↦ ap (members_if p) (place_other origins c (get_or order j 0) o other.1) ∙ so.each j earlier
                  | inr here ↦ let at : j ≡ i = omega (arith, below, here) in absurd (other.1 (ap (λ k. get_or order k 0) at ∙ sym is))
                ]
          ]

      pub one_origin_more : (new : List ℕ) → new ≡ set origins c o → AreOriginsTo p order (i + 1) new
      one_origin_more new e = subst (AreOriginsTo p order (i + 1)) (sym e) (record { long = length-set origins c o ∙ so.long; each = each_origin })

    pub all_origins : (i : ℕ) (origins : List ℕ) → length order ≤ i → AreOriginsTo p order i origins → AreOrigins p origins
    all_origins i origins le so = record { long = so.long; each = each } where
      each : (c : ℕ) → c < class_count p → members_if p (slice_get origins c) ≡ members_if p (origin cs c)
      each c small = by (up.all c (omega (arith, small, count_is p))) where
        by : Contains order c → members_if p (slice_get origins c) ≡ members_if p (origin cs c)
        by (k, lt, e) = subst (λ c. members_if p (slice_get origins c) ≡ members_if p (origin cs c)) (get_or_default order k 0 c lt ∙ e) (so.each k (omega (arith, lt, le)))
