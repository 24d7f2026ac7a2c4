-- Where each class names only later ones, none stands above itself.
use Rattle.std.proofs.Common.{◌≡◌, ℕ, zero, suc, ◌+◌, ◌<◌, ◌≤◌, [], ◌∷◌, ◌++◌, length, Some, inl, inr, refl, sym, ap, ◌∙◌, subst, arith}
use Rattle.std.specs.Prelude.{slice_get}
use Rattle.std.specs.List.{Contains}
use Rattle.std.proofs.lemmas.Bool.{cases_lt}
use Rattle.std.proofs.lemmas.Option.{slice_get-get_or, slice_get_past}
use Rattle.std.proofs.lemmas.List.{get_or_append_left, get_or_push, length_push}
use Rattle.class_heads.specs.declared.nodes.ClassNode.{ClassNode}
use Rattle.class_heads.specs.Supertypes.{Classes, supertypes_of, named_by, IsAbove, next, further}
use Rattle.supertypes.proofs.Climbing.{nothing_in, equal}

pub record Rises (cs : Classes) : Type 0 where
  pub each : (c d : ℕ) → Contains (supertypes_of cs c) d → c < d

rises_above : (cs : Classes) → Rises cs → {c d : ℕ} → IsAbove cs c d → c < d
rises_above cs so (next {c = c} {d = d} h) = so.each c d h
rises_above cs so (further {c = c} {d = d} {e = e} h r) = on (so.each c d h) (rises_above cs so r) where
  on : c < d → d < e → c < e
  on p q = omega (arith, p, q)

pub rises_never_back : (cs : Classes) → Rises cs → (c : ℕ) → IsAbove cs c c → ⊥
rises_never_back cs so c h = omega (arith, rises_above cs so h)

pub none_rise : Rises []
unfolding supertypes_of
none_rise = record { each = λ c d h. absurd (nothing_in d h) }

kept : (cs : Classes) (x : ClassNode) (c : ℕ) → c < length cs → slice_get (cs ++ x ∷ []) c ≡ slice_get cs c
kept cs x c lt = slice_get-get_or (cs ++ x ∷ []) c x (omega (arith, lt, length_push cs x)) ∙ ap Some (get_or_append_left cs (x ∷ []) x c lt) ∙ sym (slice_get-get_or cs c x lt)

last : (cs : Classes) (x : ClassNode) → slice_get (cs ++ x ∷ []) (length cs) ≡ Some x
last cs x = slice_get-get_or (cs ++ x ∷ []) (length cs) x (omega (arith, length_push cs x)) ∙ ap Some (get_or_push cs x x (length cs) refl)

two : (a b d : ℕ) → Contains (a ∷ b ∷ []) d → (a ≤ b) → a ≤ d
two a b d (zero, lt, e) le = omega (arith, e)
two a b d (suc zero, lt, e) le = omega (arith, e, le)
two a b d (suc (suc k), lt, e) le = absurd (omega (arith, lt))

pub one_more_rises : (cs new : Classes) (x : ClassNode) (number : ℕ) → Rises cs → length cs ≡ number → named_by (Some x) ≡ (number + 1) ∷ (number + 2) ∷ [] → new ≡ cs ++ x ∷ [] → Rises new
unfolding supertypes_of
one_more_rises cs new x number so long names e = subst Rises (sym e) (record { each = each }) where
  each : (c d : ℕ) → Contains (named_by (slice_get (cs ++ x ∷ []) c)) d → c < d
  each c d h =
      elim (cases_lt c (length cs)) [
        | inl lt ↦ so.each c d (subst (λ o. Contains (named_by o) d) (kept cs x c lt) h)
        | inr le ↦
            elim (cases_lt c (length cs + 1)) [
              | inl here ↦
                  let at : c ≡ length cs = equal c (length cs) here le in
                  let there : Contains ((number + 1) ∷ (number + 2) ∷ []) d = subst (λ l. Contains l d) (ap named_by (ap (slice_get (cs ++ x ∷ [])) at ∙ last cs x) ∙ names) h in
                  omega (arith, at, long, two (number + 1) (number + 2) d there (omega arith))
              | inr past ↦ absurd (nothing_in d (subst (λ o. Contains (named_by o) d) (slice_get_past (cs ++ x ∷ []) c (omega (arith, past, length_push cs x))) h))
            ]
      ]
