-- What holds of the runs of any language.
use Rattle.std.proofs.Common.{◌≡◌, ℕ, zero, suc, ◌+◌, ◌-◌, ◌<◌, ◌≤◌, List, Option, Some, None, refl, sym, ap, ◌∙◌, subst, arith}
use Rattle.meanings.specs.Act.{Act, fin, quit, sub, loop, Lang, Res, Fin, Spent, Cut, Deep, add_text, then_on, turn_or, Begin, BeginOf, ActOf, turns, go, begin, means, bind}
use Rattle.meanings.specs.Laws.{go_bind}

-- no more than so many steps are left, and it isn't nested too deep
abbrev pub LeftOver : {S R O : Type 0} → ℕ → Res S R O → Type 0
LeftOver n (Fin r s m o) = m ≤ n
LeftOver n (Spent o) = Unit {0}
LeftOver n (Cut why o) = Unit {0}
LeftOver n (Deep o) = ⊥

-- with a step taken
abbrev pub Stepped : {S R O : Type 0} → ℕ → Res S R O → Type 0
Stepped n (Fin r s m o) = m < n
Stepped n (Spent o) = Unit {0}
Stepped n (Cut why o) = Unit {0}
Stepped n (Deep o) = ⊥

stepped_left : {S R O : Type 0} (n : ℕ) (p : Res S R O) → Stepped n p → LeftOver n p
stepped_left n (Fin r s m o) h = omega arith
stepped_left n (Spent o) h = tt
stepped_left n (Cut why o) h = tt
stepped_left n (Deep o) h = h

left_stepped : {S R O : Type 0} (n : ℕ) (p : Res S R O) → LeftOver n p → Stepped (suc n) p
left_stepped n (Fin r s m o) h = omega arith
left_stepped n (Spent o) h = tt
left_stepped n (Cut why o) h = tt
left_stepped n (Deep o) h = h

up : {S R O : Type 0} (m n : ℕ) → m ≤ n → (q : Res S R O) → LeftOver m q → LeftOver n q
up m n le (Fin r s k o) x = omega arith
up m n le (Spent o) x = tt
up m n le (Cut why o) x = tt
up m n le (Deep o) x = x

-- two ways to go on, that agree on what is left
then_same : {S R O : Type 0} (n : ℕ) (p : Res S R O) (k l : R → S → ℕ → List O → Res S R O) → LeftOver n p → ((r : R) (s : S) (m : ℕ) (o : List O) → m ≤ n → (k r s m o ≡ l r s m o) × LeftOver m (k r s m o)) → (then_on p k ≡ then_on p l) × LeftOver n (then_on p k)
then_same n (Fin r s m o) k l le h = ((h r s m o le).0, up m n le (k r s m o) (h r s m o le).1)
then_same n (Spent o) k l le h = (refl, tt)
then_same n (Cut why o) k l le h = (refl, tt)
then_same n (Deep o) k l le h = absurd le

-- up to so many steps the same, and each takes one
pub record Alike {X S R O : Type 0} (N : ℕ) (b c : Begin X S R O) : Type 0 where
  pub same : (x : X) (s : S) (n : ℕ) (o : List O) → n ≤ N → b x s n o ≡ c x s n o
  pub steps : (x : X) (s : S) (n : ℕ) (o : List O) → n ≤ N → Stepped n (b x s n o)

then_to : {S R O : Type 0} (n : ℕ) (p q : Res S R O) (k l : R → S → ℕ → List O → Res S R O) → p ≡ q → LeftOver n p → ((r : R) (s : S) (m : ℕ) (o : List O) → m ≤ n → (k r s m o ≡ l r s m o) × LeftOver m (k r s m o)) → (then_on p k ≡ then_on q l) × LeftOver n (then_on p k)
then_to n p q k l e le h = let t = then_same n p k l le h in (t.0 ∙ ap (λ r. then_on r l) e, t.1)

turns_same : {X S R O : Type 0} (N : ℕ) (b c : Begin X S R O) → Alike N b c → (f : ℕ) (x : X) (more : R → Option X) (s : S) (n : ℕ) (o : List O) → n ≤ N → (turns b f x more s n o ≡ turns c f x more s n o) × LeftOver n (turns b f x more s n o)
turns_same N b c h zero x more s n o le = (refl, tt)
turns_same {X} {S} {R} {O} N b c h (suc f) x more s n o le =
    then_to n (b x s n o) (c x s n o) _ _ (h.same x s n o le) (stepped_left n (b x s n o) (h.steps x s n o le)) (λ r s m o l. by_more (λ y s m o l. turns_same N b c h f y more s m o l) (more r) r s m o (omega arith))
  where
    by_more : ((y : X) (s : S) (m : ℕ) (o : List O) → m ≤ N → (turns b f y more s m o ≡ turns c f y more s m o) × LeftOver m (turns b f y more s m o)) → (t : Option X) (r : R) (s : S) (m : ℕ) (o : List O) → m ≤ N → (turn_or t (λ y. turns b f y more s m o) (Fin r s m o) ≡ turn_or t (λ y. turns c f y more s m o) (Fin r s m o)) × LeftOver m (turn_or t (λ y. turns b f y more s m o) (Fin r s m o))
    by_more again (Some y) r s m o le = again y s m o le
    by_more again None r s m o le = (refl, omega arith)

pub go_same : {X S R O : Type 0} (N : ℕ) (b c : Begin X S R O) → Alike N b c → (a : Act X S R) (n : ℕ) (o : List O) → n ≤ N → (go b a n o ≡ go c a n o) × LeftOver n (go b a n o)
go_same N b c h (fin r s) n o le = (refl, omega arith)
go_same N b c h (quit why) n o le = (refl, tt)
go_same N b c h (sub x s k) n o le =
    then_to n (b x s n o) (c x s n o) _ _ (h.same x s n o le) (stepped_left n (b x s n o) (h.steps x s n o le)) (λ r s' m o' l. go_same N b c h (k r s') m o' (omega arith))
go_same N b c h (loop x more s k) n o le =
    let t = turns_same N b c h n x more s n o le in
    then_to n (turns b n x more s n o) (turns c n x more s n o) _ _ t.0 t.1 (λ r s' m o' l. go_same N b c h (k r s') m o' (omega arith))

module _ {O : Type 0} (L : Lang O) where
  pub spent : (d : ℕ) (x : L.Node) (s : L.Store) (o : List O) → begin L d x s 0 o ≡ Spent o
  unfolding begin
  spent zero x s o = refl
  spent (suc d) x s o = refl

  -- more depth than steps changes nothing
  pub deeper : (d : ℕ) → Alike d (begin L d) (begin L (suc d))
  unfolding begin
  deeper zero = record { same = at_none; steps = no_step }
    where
      at_none : (x : L.Node) (s : L.Store) (n : ℕ) (o : List O) → n ≤ 0 → begin L zero x s n o ≡ begin L 1 x s n o
      at_none x s zero o le = refl
      at_none x s (suc n) o le = absurd (let e : ⊥ = omega arith in e)

      no_step : (x : L.Node) (s : L.Store) (n : ℕ) (o : List O) → n ≤ 0 → Stepped n (begin L zero x s n o)
      no_step x s zero o le = tt
      no_step x s (suc n) o le = absurd (let e : ⊥ = omega arith in e)
  deeper (suc d) = record { same = λ x s n o le. (by_steps x s n o le (deeper d)).0; steps = λ x s n o le. (by_steps x s n o le (deeper d)).1 }
    where
      by_steps : (x : L.Node) (s : L.Store) (n : ℕ) (o : List O) → n ≤ suc d → Alike d (begin L d) (begin L (suc d)) → (begin L (suc d) x s n o ≡ begin L (suc (suc d)) x s n o) × Stepped n (begin L (suc d) x s n o)
      by_steps x s zero o le h = (refl, tt)
      by_steps x s (suc n) o le h =
          let g = go_same d (begin L d) (begin L (suc d)) h (L.view x s) n (add_text o (L.says x s)) (omega arith) in
          (g.0, left_stepped n (go (begin L d) (L.view x s) n (add_text o (L.says x s))) g.1)

  pub enough : (d k : ℕ) (a : ActOf L) (n : ℕ) (o : List O) → n ≤ d → go (begin L (k + d)) a n o ≡ go (begin L d) a n o
  enough d zero a n o le = let e : zero + d ≡ d = omega arith in ap (λ m. go (begin L m) a n o) e
  enough d (suc k) a n o le =
      let e : suc k + d ≡ suc (k + d) = omega arith in
      ap (λ m. go (begin L m) a n o) e ∙ sym (go_same (k + d) (begin L (k + d)) (begin L (suc (k + d))) (deeper (k + d)) a n o (omega arith)).0 ∙ enough d k a n o le

  pub left_over : (a : ActOf L) (n : ℕ) (o : List O) → LeftOver n (means L a n o)
  left_over a n o = (go_same n (begin L n) (begin L (suc n)) (deeper n) a n o (omega arith)).1

  pub at_depth : (d : ℕ) (a : ActOf L) (n : ℕ) (o : List O) → n ≤ d → go (begin L d) a n o ≡ means L a n o
  at_depth d a n o le = let e : d ≡ (d - n) + n = omega arith in ap (λ m. go (begin L m) a n o) e ∙ enough n (d - n) a n o (omega arith)

  -- one step, and the rest
  pub means_sub : (x : L.Node) (s : L.Store) (k : L.Comp → L.Store → ActOf L) (n : ℕ) (o : List O) → means L (sub x s k) (suc n) o ≡ then_on (means L (L.view x s) n (add_text o (L.says x s))) (λ r s' m o'. means L (k r s') m o')
  unfolding begin
  means_sub x s k n o =
      (then_same n (means L (L.view x s) n (add_text o (L.says x s))) (λ r s' m o'. go (begin L (suc n)) (k r s') m o') (λ r s' m o'. means L (k r s') m o') (left_over (L.view x s) n (add_text o (L.says x s))) (λ r s' m o' le. (at_depth (suc n) (k r s') m o' (omega arith), subst (LeftOver m) (sym (at_depth (suc n) (k r s') m o' (omega arith))) (left_over (k r s') m o')))).0

  pub means_bind : (a : ActOf L) (f : L.Comp → L.Store → ActOf L) (n : ℕ) (o : List O) → means L (bind a f) n o ≡ then_on (means L a n o) (λ r s m o'. means L (f r s) m o')
  means_bind a f n o =
      go_bind (begin L n) a f n o
      ∙ (then_same n (means L a n o) (λ r s m o'. go (begin L n) (f r s) m o') (λ r s m o'. means L (f r s) m o') (left_over a n o) (λ r s m o' le. (at_depth n (f r s) m o' le, subst (LeftOver m) (sym (at_depth n (f r s) m o' le)) (left_over (f r s) m o')))).0

  -- as many turns as one likes, from the number of steps on
  turns_fuel : (N : ℕ) (f g : ℕ) (x : L.Node) (more : L.Comp → Option L.Node) (s : L.Store) (n : ℕ) (o : List O) → n ≤ f → n ≤ g → n ≤ N → turns (begin L N) f x more s n o ≡ turns (begin L N) g x more s n o
  turns_fuel N zero zero x more s n o lf lg le = refl
  turns_fuel N zero (suc g) x more s n o lf lg le =
      let z : 0 ≡ n = omega arith in
      subst (λ n. turns (begin L N) zero x more s n o ≡ turns (begin L N) (suc g) x more s n o) z (sym (ap (λ p. then_on p (λ r s' n' o'. turn_or (more r) (λ y. turns (begin L N) g y more s' n' o') (Fin r s' n' o'))) (spent N x s o)))
  turns_fuel N (suc f) zero x more s n o lf lg le =
      let z : 0 ≡ n = omega arith in
      subst (λ n. turns (begin L N) (suc f) x more s n o ≡ turns (begin L N) zero x more s n o) z (ap (λ p. then_on p (λ r s' n' o'. turn_or (more r) (λ y. turns (begin L N) f y more s' n' o') (Fin r s' n' o'))) (spent N x s o))
  turns_fuel N (suc f) (suc g) x more s n o lf lg le = next (λ y s m o l. turns_fuel N f g y more s m o (omega arith) (omega arith) (omega arith)) (begin L N x s n o) ((deeper N).steps x s n o le)
    where
      by_more : ((y : L.Node) (s : L.Store) (m : ℕ) (o : List O) → m < n → turns (begin L N) f y more s m o ≡ turns (begin L N) g y more s m o) → (t : Option L.Node) (r : L.Comp) (s : L.Store) (m : ℕ) (o : List O) → m < n → turn_or t (λ y. turns (begin L N) f y more s m o) (Fin r s m o) ≡ turn_or t (λ y. turns (begin L N) g y more s m o) (Fin r s m o)
      by_more again (Some y) r s m o l = again y s m o l
      by_more again None r s m o l = refl

      next : ((y : L.Node) (s : L.Store) (m : ℕ) (o : List O) → m < n → turns (begin L N) f y more s m o ≡ turns (begin L N) g y more s m o) → (p : Res L.Store L.Comp O) → Stepped n p → then_on p (λ r s' n' o'. turn_or (more r) (λ y. turns (begin L N) f y more s' n' o') (Fin r s' n' o')) ≡ then_on p (λ r s' n' o'. turn_or (more r) (λ y. turns (begin L N) g y more s' n' o') (Fin r s' n' o'))
      next again (Fin r s m o) h = by_more again (more r) r s m o h
      next again (Spent o) h = refl
      next again (Cut why o) h = refl
      next again (Deep o) h = refl

  -- one turn, and the rest
  pub means_loop : (x : L.Node) (more : L.Comp → Option L.Node) (s : L.Store) (k : L.Comp → L.Store → ActOf L) (n : ℕ) (o : List O) → means L (loop x more s k) n o ≡ then_on (begin L n x s n o) (λ r s' m o'. turn_or (more r) (λ y. means L (loop y more s' k) m o') (means L (k r s') m o'))
  means_loop x more s k zero o = sym (ap (λ p. then_on p (λ r s' m o'. turn_or (more r) (λ y. means L (loop y more s' k) m o') (means L (k r s') m o'))) (spent zero x s o))
  means_loop x more s k (suc n) o = next (begin L (suc n) x s (suc n) o) ((deeper (suc n)).steps x s (suc n) o (omega arith))
    where
      by_more : (t : Option L.Node) (r : L.Comp) (s : L.Store) (m : ℕ) (o : List O) → m < suc n → then_on (turn_or t (λ y. turns (begin L (suc n)) n y more s m o) (Fin r s m o)) (λ r s m o. go (begin L (suc n)) (k r s) m o) ≡ turn_or t (λ y. means L (loop y more s k) m o) (means L (k r s) m o)
      by_more (Some y) r s m o l =
          ap (λ p. then_on p (λ r s m o. go (begin L (suc n)) (k r s) m o)) (turns_fuel (suc n) n m y more s m o (omega arith) (omega arith) (omega arith))
          ∙ at_depth (suc n) (loop y more s k) m o (omega arith)
      by_more None r s m o l = at_depth (suc n) (k r s) m o (omega arith)

      next : (p : Res L.Store L.Comp O) → Stepped (suc n) p → then_on (then_on p (λ r s' n' o'. turn_or (more r) (λ y. turns (begin L (suc n)) n y more s' n' o') (Fin r s' n' o'))) (λ r s m o. go (begin L (suc n)) (k r s) m o) ≡ then_on p (λ r s' m o'. turn_or (more r) (λ y. means L (loop y more s' k) m o') (means L (k r s') m o'))
      next (Fin r s m o) h = by_more (more r) r s m o h
      next (Spent o) h = refl
      next (Cut why o) h = refl
      next (Deep o) h = refl

  pub means_none : (x : L.Node) (s : L.Store) (k : L.Comp → L.Store → ActOf L) (o : List O) → means L (sub x s k) 0 o ≡ Spent o
  means_none x s k o = ap (λ p. then_on p (λ r s' m o'. go (begin L 0) (k r s') m o')) (spent 0 x s o)

  -- a loop is its first turn, and the rest
  pub means_unroll : (x : L.Node) (more : L.Comp → Option L.Node) (s : L.Store) (k : L.Comp → L.Store → ActOf L) (n : ℕ) (o : List O) → means L (loop x more s k) n o ≡ means L (sub x s (λ r s'. turn_or (more r) (λ y. loop y more s' k) (k r s'))) n o
  means_unroll x more s k n o = means_loop x more s k n o ∙ next (begin L n x s n o) ((deeper n).steps x s n o (omega arith))
    where
      by_more : (t : Option L.Node) (r : L.Comp) (s : L.Store) (m : ℕ) (o : List O) → m < n → turn_or t (λ y. means L (loop y more s k) m o) (means L (k r s) m o) ≡ go (begin L n) (turn_or t (λ y. loop y more s k) (k r s)) m o
      by_more (Some y) r s m o l = sym (at_depth n (loop y more s k) m o (omega arith))
      by_more None r s m o l = sym (at_depth n (k r s) m o (omega arith))

      next : (p : Res L.Store L.Comp O) → Stepped n p → then_on p (λ r s' m o'. turn_or (more r) (λ y. means L (loop y more s' k) m o') (means L (k r s') m o')) ≡ then_on p (λ r s' m o'. go (begin L n) (turn_or (more r) (λ y. loop y more s' k) (k r s')) m o')
      next (Fin r s m o) h = by_more (more r) r s m o h
      next (Spent o) h = refl
      next (Cut why o) h = refl
      next (Deep o) h = refl
