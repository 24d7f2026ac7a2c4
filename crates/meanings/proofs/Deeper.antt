-- More depth changes nothing, unless it was nested too deep.
use Rattle.std.proofs.Common.{◌≡◌, ℕ, zero, suc, ◌+◌, ◌-◌, ◌≤◌, List, Option, Some, None, refl, sym, ap, ◌∙◌, subst, arith}
use Rattle.meanings.specs.Act.{Act, fin, quit, sub, loop, Lang, Res, Fin, Spent, Cut, Deep, add_text, then_on, turn_or, Begin, ActOf, turns, go, begin, means}
use Rattle.meanings.proofs.Acts.{at_depth}

-- the same, or the first is too deep
abbrev pub Same : {S R O : Type 0} → Res S R O → Res S R O → Type 0
Same (Fin r s n o) q = q ≡ Fin r s n o
Same (Spent o) q = q ≡ Spent o
Same (Cut why o) q = q ≡ Cut why o
Same (Deep o) q = Unit {0}

same_refl : {S R O : Type 0} (p : Res S R O) → Same p p
same_refl (Fin r s n o) = refl
same_refl (Spent o) = refl
same_refl (Cut why o) = refl
same_refl (Deep o) = tt

then_goes : {S R O : Type 0} (p q : Res S R O) (k l : R → S → ℕ → List O → Res S R O) → Same p q → ((r : R) (s : S) (n : ℕ) (o : List O) → Same (k r s n o) (l r s n o)) → Same (then_on p k) (then_on q l)
then_goes (Fin r s n o) q k l e h = subst (λ q. Same (k r s n o) (then_on q l)) (sym e) (h r s n o)
then_goes (Spent o) q k l e h = ap (λ q. then_on q l) e
then_goes (Cut why o) q k l e h = ap (λ q. then_on q l) e
then_goes (Deep o) q k l e h = tt

abbrev Grows : {X S R O : Type 0} → Begin X S R O → Begin X S R O → Type 0
Grows {X} {S} {R} {O} b c = (x : X) (s : S) (n : ℕ) (o : List O) → Same (b x s n o) (c x s n o)

turns_grow : {X S R O : Type 0} (b c : Begin X S R O) → Grows b c → (f : ℕ) (x : X) (more : R → Option X) (s : S) (n : ℕ) (o : List O) → Same (turns b f x more s n o) (turns c f x more s n o)
turns_grow b c h zero x more s n o = refl
turns_grow {X} {S} {R} {O} b c h (suc f) x more s n o =
    then_goes (b x s n o) (c x s n o) _ _ (h x s n o) (λ r s m o. by_more (λ y s m o. turns_grow b c h f y more s m o) (more r) r s m o)
  where
    by_more : ((y : X) (s : S) (m : ℕ) (o : List O) → Same (turns b f y more s m o) (turns c f y more s m o)) → (t : Option X) (r : R) (s : S) (m : ℕ) (o : List O) → Same (turn_or t (λ y. turns b f y more s m o) (Fin r s m o)) (turn_or t (λ y. turns c f y more s m o) (Fin r s m o))
    by_more again (Some y) r s m o = again y s m o
    by_more again None r s m o = refl

go_grow : {X S R O : Type 0} (b c : Begin X S R O) → Grows b c → (a : Act X S R) (n : ℕ) (o : List O) → Same (go b a n o) (go c a n o)
go_grow b c h (fin r s) n o = refl
go_grow b c h (quit why) n o = refl
go_grow b c h (sub x s k) n o = then_goes (b x s n o) (c x s n o) _ _ (h x s n o) (λ r s m o. go_grow b c h (k r s) m o)
go_grow b c h (loop x more s k) n o = then_goes (turns b n x more s n o) (turns c n x more s n o) _ _ (turns_grow b c h n x more s n o) (λ r s m o. go_grow b c h (k r s) m o)

module _ {O : Type 0} (L : Lang O) where
  grows : (d : ℕ) → Grows (begin L d) (begin L (suc d))
  unfolding begin
  grows zero x s zero o = refl
  grows zero x s (suc n) o = tt
  grows (suc d) x s zero o = refl
  grows (suc d) x s (suc n) o = go_grow (begin L d) (begin L (suc d)) (grows d) (L.view x s) n (add_text o (L.says x s))

  same_trans : (p q r : Res L.Store L.Comp O) → Same p q → Same q r → Same p r
  same_trans (Fin c s n o) q r e h = at q e h
    where
      at : (q : Res L.Store L.Comp O) → q ≡ Fin c s n o → Same q r → r ≡ Fin c s n o
      at (Fin c' s' n' o') e h = h ∙ e
      at (Spent o') e h = h ∙ e
      at (Cut why' o') e h = h ∙ e
      at (Deep o') e h = cc
  same_trans (Spent o) q r e h = at q e h
    where
      at : (q : Res L.Store L.Comp O) → q ≡ Spent o → Same q r → r ≡ Spent o
      at (Fin c' s' n' o') e h = h ∙ e
      at (Spent o') e h = h ∙ e
      at (Cut why' o') e h = h ∙ e
      at (Deep o') e h = cc
  same_trans (Cut why o) q r e h = at q e h
    where
      at : (q : Res L.Store L.Comp O) → q ≡ Cut why o → Same q r → r ≡ Cut why o
      at (Fin c' s' n' o') e h = h ∙ e
      at (Spent o') e h = h ∙ e
      at (Cut why' o') e h = h ∙ e
      at (Deep o') e h = cc
  same_trans (Deep o) q r e h = tt

  more_depth : (d k : ℕ) (a : ActOf L) (n : ℕ) (o : List O) → Same (go (begin L d) a n o) (go (begin L (k + d)) a n o)
  more_depth d zero a n o = let e : d ≡ zero + d = omega arith in subst (λ m. Same (go (begin L d) a n o) (go (begin L m) a n o)) e (same_refl (go (begin L d) a n o))
  more_depth d (suc k) a n o =
      let e : suc (k + d) ≡ suc k + d = omega arith in
      subst (λ m. Same (go (begin L d) a n o) (go (begin L m) a n o)) e (same_trans (go (begin L d) a n o) (go (begin L (k + d)) a n o) (go (begin L (suc (k + d))) a n o) (more_depth d k a n o) (go_grow (begin L (k + d)) (begin L (suc (k + d))) (grows (k + d)) a n o))

  -- at any depth what it means, or it is too deep
  pub means_or_deep : (d : ℕ) (a : ActOf L) (n : ℕ) (o : List O) → Same (go (begin L d) a n o) (means L a n o)
  means_or_deep d a n o = subst (Same (go (begin L d) a n o)) (at_depth L (n + d) a n o (omega arith)) (more_depth d n a n o)
