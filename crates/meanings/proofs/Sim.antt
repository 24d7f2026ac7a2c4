-- One language's runs are followed by another's.
use Rattle.std.proofs.Common.{◌≡◌, ℕ, zero, suc, ◌+◌, ◌*◌, ◌≤◌, ◌⊎◌, inl, inr, List, None, refl, sym, ap, ◌∙◌, subst, ⊎_elim, arith}
use Rattle.meanings.specs.Act.{Halt, begin, fin, quit, sub, loop, Lang, Fin, Spent, Cut, Deep, add_text, then_on, ActOf, ResOf, means, bind}
use Rattle.meanings.proofs.Acts.{means_none, means_sub, means_bind, LeftOver, left_over}

abbrev pub Post : {O : Type 0} → Lang O → Lang O → Type 1
Post L K = L.Comp → L.Store → K.Comp → K.Store → Type 0

module _ {O : Type 0} (K : Lang O) where
  -- it doesn't leave the numbers without a step
  abbrev pub Calm : ActOf K → Type 0
  Calm (fin r s) = Unit {0}
  Calm (quit why) = ⊥
  Calm (sub x s k) = Unit {0}
  Calm (loop x more s k) = Unit {0}

  -- it is done without a step
  abbrev pub Idle : ActOf K → Type 0
  Idle (fin r s) = Unit {0}
  Idle (quit why) = ⊥
  Idle (sub x s k) = ⊥
  Idle (loop x more s k) = ⊥

  -- its last step, if it takes any, prints nothing
  abbrev pub Quiet : ActOf K → ℕ → List O → List O → Type 0
  Quiet b c o o' = ((c ≡ 0) × (o ≡ o') × Idle b) ⊎ ((d : ℕ) × (c ≡ suc d) × (means K b d o ≡ Spent o'))

  idle_bind : (b : ActOf K) (g : K.Comp → K.Store → ActOf K) (o : List O) (r : K.Comp) (t : K.Store) (n : ℕ) (o' : List O) → Idle b → means K b 0 o ≡ Fin r t n o' → Idle (g r t) → Idle (bind b g)
  idle_bind (fin r s) g o r' t n o' i e h = let er : r ≡ r' = cc e in let es : s ≡ t = cc e in subst (λ x. Idle (g x s)) (sym er) (subst (λ x. Idle (g r' x)) (sym es) h)
  idle_bind (quit why) g o r' t n o' i e h = absurd i
  idle_bind (sub x s k) g o r' t n o' i e h = absurd i
  idle_bind (loop x more s k) g o r' t n o' i e h = absurd i

  idle_calm : (b : ActOf K) → Idle b → Calm b
  idle_calm (fin r s) i = tt
  idle_calm (quit why) i = i
  idle_calm (sub x s k) i = tt
  idle_calm (loop x more s k) i = tt

  pub calm_bind : (b : ActOf K) (g : K.Comp → K.Store → ActOf K) → Calm b → ((r : K.Comp) (t : K.Store) → Calm (g r t)) → Calm (bind b g)
  calm_bind (fin r s) g i c = c r s
  calm_bind (quit why) g i c = absurd i
  calm_bind (sub x s k) g i c = tt
  calm_bind (loop x more s k) g i c = tt

  spent_bind : (b : ActOf K) (g : K.Comp → K.Store → ActOf K) (m : ℕ) (o o' : List O) → means K b m o ≡ Spent o' → means K (bind b g) m o ≡ Spent o'
  spent_bind b g m o o' e = means_bind K b g m o ∙ ap (λ p. then_on p (λ r t m o. means K (g r t) m o)) e

-- C: how many steps of the first language a step of the second pays for
module _ {O : Type 0} (L K : Lang O) (C : ℕ) where
  -- where the first is out of steps: so is the second, or it is done without a step
  abbrev pub Halts : ℕ → ℕ → List O → ActOf K → List O → Type 0
  Halts n w o b o' = ((m : ℕ) × (n ≤ C * m + C + w) × (means K b m o ≡ Spent o')) ⊎ ((n ≤ w) × (o ≡ o') × Idle K b)

  -- what the second does, where the first came to this from n steps; w: steps that are not paid for
  abbrev pub Meets : ℕ → ℕ → List O → Post L K → ActOf K → ResOf L → Type 0
  Meets n w o P b (Fin r s n' o') = (c : ℕ) × (r' : K.Comp) × (t : K.Store) × P r s r' t × ((j : ℕ) → means K b (c + j) o ≡ Fin r' t j o') × (n ≤ n' + C * c + w) × Quiet K b c o o'
  Meets n w o P b (Spent o') = Halts n w o b o'
  Meets n w o P b (Cut why o') = (m : ℕ) × (means K b m o ≡ Cut why o')
  Meets n w o P b (Deep o') = ⊥

  pub record Sim (N w : ℕ) (P : Post L K) (a : ActOf L) (b : ActOf K) : Type 0 where
    pub by : (n : ℕ) (o : List O) → n ≤ N → Meets n w o P b (means L a n o)

  pub halts_now : (n w : ℕ) (o : List O) (b : ActOf K) → Calm K b → n ≤ w → Halts n w o b o
  halts_now n w o (fin r s) c le = inr (le, refl, tt)
  halts_now n w o (quit why) c le = absurd c
  halts_now n w o (sub x s k) c le = inl (0, omega arith, means_none K x s k o)
  halts_now n w o (loop x more s k) c le = inl (0, omega arith, refl)

  halts_more : (n n' w w' : ℕ) (o : List O) (b : ActOf K) (o' : List O) → n' + w ≤ n + w' → Halts n w o b o' → Halts n' w' o b o'
  halts_more n n' w w' o b o' le h = ⊎_elim (λ x. inl (x.0, omega (arith, x.1), x.2)) (λ x. inr (omega (arith, x.0), x.1, x.2)) h

  pub sim_fin : (N : ℕ) (P : Post L K) (r : L.Comp) (s : L.Store) (r' : K.Comp) (t : K.Store) → P r s r' t → Sim N 0 P (fin r s) (fin r' t)
  sim_fin N P r s r' t p = record { by = λ n o le. (0, r', t, p, (λ j. let z : 0 + j ≡ j = omega arith in ap (λ k. Fin r' t k o) z), omega arith, inl (refl, refl, tt)) }

  pub sim_quit : (N : ℕ) (P : Post L K) (why : Halt) → Sim N 0 P (quit why) (quit why)
  sim_quit N P why = record { by = λ n o le. (0, refl) }

  meets_more : (n n' w w' : ℕ) (o : List O) (P P' : Post L K) (b : ActOf K) (p : ResOf L) → n' + w ≤ n + w' → ((r : L.Comp) (s : L.Store) (r' : K.Comp) (t : K.Store) → P r s r' t → P' r s r' t) → Meets n w o P b p → Meets n' w' o P' b p
  meets_more n n' w w' o P P' b (Fin r s m o') le pp h = (h.0, h.1, h.2, pp r s h.1 h.2 h.3, h.4, omega (arith, h.5), h.6)
  meets_more n n' w w' o P P' b (Spent o') le pp h = halts_more n n' w w' o b o' le h
  meets_more n n' w w' o P P' b (Cut why o') le pp h = h
  meets_more n n' w w' o P P' b (Deep o') le pp h = h

  pub sim_weak : (N w w' : ℕ) (P : Post L K) (a : ActOf L) (b : ActOf K) → w ≤ w' → Sim N w P a b → Sim N w' P a b
  sim_weak N w w' P a b le h = record { by = λ n o l. meets_more n n w w' o P P b (means L a n o) (omega arith) (λ r s r' t p. p) (h.by n o l) }

  pub sim_post : (N w : ℕ) (P P' : Post L K) (a : ActOf L) (b : ActOf K) → ((r : L.Comp) (s : L.Store) (r' : K.Comp) (t : K.Store) → P r s r' t → P' r s r' t) → Sim N w P a b → Sim N w P' a b
  sim_post N w P P' a b pp h = record { by = λ n o l. meets_more n n w w o P P' b (means L a n o) (omega arith) pp (h.by n o l) }

  -- one after the other
  meets_bind : (N w w' n : ℕ) (o : List O) (P P' : Post L K) (p : ResOf L) (f : L.Comp → L.Store → ActOf L) (b : ActOf K) (g : K.Comp → K.Store → ActOf K) → n ≤ N → LeftOver n p → Meets n w o P b p → ((r : K.Comp) (t : K.Store) → Calm K (g r t)) → ((r : L.Comp) (s : L.Store) (r' : K.Comp) (t : K.Store) → P r s r' t → Sim N w' P' (f r s) (g r' t)) → Meets n (w + w') o P' (bind b g) (then_on p (λ r s m o. means L (f r s) m o))
  meets_bind N w w' n o P P' (Fin r s n' o') f b g le lo h calm next = goes (means L (f r s) n' o') ((next r s h.1 h.2 h.3).by n' o' (omega arith))
    where
      on : (m : ℕ) → means K (bind b g) (h.0 + m) o ≡ means K (g h.1 h.2) m o'
      on m = means_bind K b g (h.0 + m) o ∙ ap (λ p. then_on p (λ r t m o. means K (g r t) m o)) (h.4 m)

      idle : h.0 ≡ 0 → Idle K b → Idle K (g h.1 h.2) → Idle K (bind b g)
      idle e i g' = let z : 0 ≡ h.0 + 0 = omega arith in idle_bind K b g o h.1 h.2 0 o' i (ap (λ k. means K b k o) z ∙ h.4 0) g'

      goes : (q : ResOf L) → Meets n' w' o' P' (g h.1 h.2) q → Meets n (w + w') o P' (bind b g) q
      goes (Fin r2 s2 n2 o2) q = (
        h.0 + q.0,
        q.1,
        q.2,
        q.3,
        (λ j. let z : h.0 + q.0 + j ≡ h.0 + (q.0 + j) = omega arith in ap (λ k. means K (bind b g) k o) z ∙ on (q.0 + j) ∙ q.4 j),
        omega (arith, h.5, q.5),
        ⊎_elim
            (λ x. ⊎_elim
            (λ y. inl ((let z : h.0 + q.0 ≡ 0 = omega (arith, x.0, y.0) in z), y.1 ∙ x.1, idle y.0 y.2 x.2))
            (λ y. inr (y.0, (let z : h.0 + q.0 ≡ suc y.0 = omega (arith, x.0, y.1) in z), spent_bind K b g y.0 o o' y.2 ∙ ap Spent x.1))
            h.6)
            (λ x. inr (h.0 + x.0, (let z : h.0 + q.0 ≡ suc (h.0 + x.0) = omega (arith, x.1) in z), on x.0 ∙ x.2))
            q.6,
      )
      goes (Spent o2) q =
          ⊎_elim
          (λ x. inl (h.0 + x.0, omega (arith, h.5, x.1), on x.0 ∙ x.2))
          (λ x. ⊎_elim
          (λ y. inr ((let z : n ≤ w + w' = omega (arith, h.5, x.0, ap (λ k. C * k) y.0) in z), y.1 ∙ x.1, idle y.0 y.2 x.2))
          (λ y. inl (y.0, (let z : n ≤ C * y.0 + C + (w + w') = omega (arith, h.5, x.0, ap (λ k. C * k) y.1) in z), spent_bind K b g y.0 o o' y.2 ∙ ap Spent x.1))
          h.6)
          q
      goes (Cut why o2) q = (h.0 + q.0, on q.0 ∙ q.1)
      goes (Deep o2) q = q
  meets_bind N w w' n o P P' (Spent o') f b g le lo h calm next =
      ⊎_elim
      (λ x. inl (x.0, omega (arith, x.1), spent_bind K b g x.0 o o' x.2))
      (λ x. subst (Halts n (w + w') o (bind b g)) x.1 (halts_now n (w + w') o (bind b g) (calm_bind K b g (idle_calm K b x.2) calm) (omega (arith, x.0))))
      h
  meets_bind N w w' n o P P' (Cut why o') f b g le lo h calm next =
      (h.0, means_bind K b g h.0 o ∙ ap (λ p. then_on p (λ r t m o. means K (g r t) m o)) h.1)
  meets_bind N w w' n o P P' (Deep o') f b g le lo h calm next = h

  pub sim_bind : (N w w' : ℕ) (P P' : Post L K) (a : ActOf L) (f : L.Comp → L.Store → ActOf L) (b : ActOf K) (g : K.Comp → K.Store → ActOf K) → Sim N w P a b → ((r : K.Comp) (t : K.Store) → Calm K (g r t)) → ((r : L.Comp) (s : L.Store) (r' : K.Comp) (t : K.Store) → P r s r' t → Sim N w' P' (f r s) (g r' t)) → Sim N (w + w') P' (bind a f) (bind b g)
  sim_bind N w w' P P' a f b g h calm next =
      record { by = λ n o le. subst (Meets n (w + w') o P' (bind b g)) (sym (means_bind L a f n o)) (meets_bind N w w' n o P P' (means L a n o) f b g le (left_over L a n o) (h.by n o le) calm next) }

  bind_fin : (a : ActOf L) → bind a fin ≡ a
  bind_fin (fin r s) = refl
  bind_fin (quit why) = refl
  bind_fin (sub x s k) = λ i. sub x s (λ r s'. bind_fin (k r s') i)
  bind_fin (loop x more s k) = λ i. loop x more s (λ r s'. bind_fin (k r s') i)

  -- something behind the second alone
  pub sim_after : (N w : ℕ) (P P' : Post L K) (a : ActOf L) (b : ActOf K) (g : K.Comp → K.Store → ActOf K) → Sim N w P a b → ((r : K.Comp) (t : K.Store) → Calm K (g r t)) → ((r : L.Comp) (s : L.Store) (r' : K.Comp) (t : K.Store) → P r s r' t → Sim N 0 P' (fin r s) (g r' t)) → Sim N w P' a (bind b g)
  sim_after N w P P' a b g h calm next =
      let z : w + 0 ≡ w = omega arith in
      subst (λ v. Sim N v P' a (bind b g)) z (subst (λ u. Sim N (w + 0) P' u (bind b g)) (bind_fin a) (sim_bind N w 0 P P' a fin b g h calm next))

  then_fin : (p : ResOf L) → then_on p (λ r s m o. means L (fin r s) m o) ≡ p
  then_fin (Fin r s n o) = refl
  then_fin (Spent o) = refl
  then_fin (Cut why o) = refl
  then_fin (Deep o) = refl

  enters : (x : L.Node) (s : L.Store) (n : ℕ) (o : List O) → means L (sub x s fin) (suc n) o ≡ means L (L.view x s) n (add_text o (L.says x s))
  enters x s n o = means_sub L x s fin n o ∙ then_fin (means L (L.view x s) n (add_text o (L.says x s)))

  enters' : (y : K.Node) (t : K.Store) (k : K.Comp → K.Store → ActOf K) (m : ℕ) (o : List O) → means K (sub y t k) (suc m) o ≡ means K (bind (K.view y t) k) m (add_text o (K.says y t))
  enters' y t k m o = means_sub K y t k m o ∙ sym (means_bind K (K.view y t) k m (add_text o (K.says y t)))

  -- no steps at all
  pub sim_zero : (w : ℕ) (P : Post L K) (x : L.Node) (s : L.Store) (b : ActOf K) → Calm K b → Sim 0 w P (sub x s fin) b
  sim_zero w P x s b calm = record { by = λ n o le. at n o le }
    where
      at : (n : ℕ) (o : List O) → n ≤ 0 → Meets n w o P b (means L (sub x s fin) n o)
      at zero o le = subst (Meets 0 w o P b) (sym (means_none L x s fin o)) (halts_now 0 w o b calm (omega arith))
      at (suc n) o le = absurd (let e : ⊥ = omega arith in e)

  -- a step of the first
  pub sim_src : (N w : ℕ) (P : Post L K) (x : L.Node) (s : L.Store) (b : ActOf K) → Calm K b → L.says x s ≡ None → Sim N w P (L.view x s) b → Sim (suc N) (w + 1) P (sub x s fin) b
  sim_src N w P x s b calm q h = record { by = λ n o le. at n o le }
    where
      at : (n : ℕ) (o : List O) → n ≤ suc N → Meets n (w + 1) o P b (means L (sub x s fin) n o)
      at zero o le = subst (Meets 0 (w + 1) o P b) (sym (means_none L x s fin o)) (halts_now 0 (w + 1) o b calm (omega arith))
      at (suc n) o le =
          let e = enters x s n o ∙ ap (λ t. means L (L.view x s) n (add_text o t)) q in
          subst (Meets (suc n) (w + 1) o P b) (sym e) (late n o (means L (L.view x s) n o) (h.by n o (omega arith)))
        where
          late : (n : ℕ) (o : List O) (p : ResOf L) → Meets n w o P b p → Meets (suc n) (w + 1) o P b p
          late n o (Fin r s n' o') h = (h.0, h.1, h.2, h.3, h.4, omega (arith, h.5), h.6)
          late n o (Spent o') h = halts_more n (suc n) w (w + 1) o b o' (omega arith) h
          late n o (Cut why o') h = h
          late n o (Deep o') h = h

  -- a step of the second, with what it prints: from what is behind it
  pub meets_late : (n n' w w' : ℕ) (o : List O) (P : Post L K) (y : K.Node) (t : K.Store) (k : K.Comp → K.Store → ActOf K) (p : ResOf L) → n' + w' ≤ n + (w + C) → (K.says y t ≡ None) ⊎ (Idle K (bind (K.view y t) k) → ⊥) → Meets n w' (add_text o (K.says y t)) P (bind (K.view y t) k) p → Meets n' w o P (sub y t k) p
  unfolding begin
  meets_late n n' w w' o P y t k (Fin r s m o') le q h = (
    suc h.0,
    h.1,
    h.2,
    h.3,
    (λ j. let z : suc h.0 + j ≡ suc (h.0 + j) = omega arith in ap (λ i. means K (sub y t k) i o) z ∙ enters' y t k (h.0 + j) o ∙ h.4 j),
    omega (arith, h.5),
    ⊎_elim
        (λ x. ⊎_elim (λ e. inr (0, ap suc x.0, ap Spent (ap (add_text o) (sym e) ∙ x.1))) (λ no. absurd (no x.2)) q)
        (λ x. inr (suc x.0, ap suc x.1, enters' y t k x.0 o ∙ x.2))
        h.6,
  )
  meets_late n n' w w' o P y t k (Spent o') le q h =
      ⊎_elim
      (λ x. inl (suc x.0, omega (arith, x.1), enters' y t k x.0 o ∙ x.2))
      (λ x. ⊎_elim (λ e. inl (0, omega (arith, x.0), ap Spent (ap (add_text o) (sym e) ∙ x.1))) (λ no. absurd (no x.2)) q)
      h
  meets_late n n' w w' o P y t k (Cut why o') le q h = (suc h.0, enters' y t k h.0 o ∙ h.1)
  meets_late n n' w w' o P y t k (Deep o') le q h = h

  -- a step of the second, which pays for C of the first
  pub sim_ker : (N w w' : ℕ) (P : Post L K) (a : ActOf L) (y : K.Node) (t : K.Store) (k : K.Comp → K.Store → ActOf K) → w' ≤ w + C → K.says y t ≡ None → Sim N w' P a (bind (K.view y t) k) → Sim N w P a (sub y t k)
  sim_ker N w w' P a y t k le q h =
      record { by = λ n o l. meets_late n n w w' o P y t k (means L a n o) (omega arith) (inl q) (subst (λ u. Meets n w' (add_text o u) P (bind (K.view y t) k) (means L a n o)) (sym q) (h.by n o l)) }

  -- a step of both, that prints the same; where it prints, the second has a further step
  pub sim_both : (N w w' : ℕ) (P : Post L K) (x : L.Node) (s : L.Store) (y : K.Node) (t : K.Store) (k : K.Comp → K.Store → ActOf K) → w' + 1 ≤ w + C → L.says x s ≡ K.says y t → (K.says y t ≡ None) ⊎ (Idle K (bind (K.view y t) k) → ⊥) → Sim N w' P (L.view x s) (bind (K.view y t) k) → Sim (suc N) w P (sub x s fin) (sub y t k)
  sim_both N w w' P x s y t k le q z h = record { by = λ n o le. at n o le }
    where
      at : (n : ℕ) (o : List O) → n ≤ suc N → Meets n w o P (sub y t k) (means L (sub x s fin) n o)
      at zero o le = subst (Meets 0 w o P (sub y t k)) (sym (means_none L x s fin o)) (halts_now 0 w o (sub y t k) tt (omega arith))
      at (suc n) o l =
          let e = enters x s n o ∙ ap (λ u. means L (L.view x s) n (add_text o u)) q in
          subst (Meets (suc n) w o P (sub y t k)) (sym e) (meets_late n (suc n) w w' o P y t k (means L (L.view x s) n (add_text o (K.says y t))) (omega arith) z (h.by n (add_text o (K.says y t)) (omega arith)))
