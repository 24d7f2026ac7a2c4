-- A loop of one language is followed by a loop of the other.
use Rattle.std.proofs.Common.{◌≡◌, ℕ, zero, suc, ◌+◌, ◌≤◌, ◌⊎◌, inl, inr, List, Option, Some, None, refl, sym, ap, ◌∙◌, subst, ⊎_elim, arith}
use Rattle.meanings.specs.Act.{fin, quit, sub, loop, Lang, Fin, Spent, Cut, Deep, add_text, turn_or, ActOf, ResOf, means, bind}
use Rattle.meanings.proofs.Acts.{means_none, means_sub, means_bind, means_unroll}
use Rattle.meanings.proofs.Sim.{Post, Calm, Idle, Meets, Sim, sim_fin, sim_weak, sim_bind, halts_now, meets_late}

-- both have a further turn, or neither
abbrev pub BothTurn : {X Y : Type 0} → Option X → Option Y → (X → Y → Type 0) → Type 0 → Type 0
BothTurn (Some x) (Some y) I P = I x y
BothTurn None None I P = P
BothTurn (Some x) None I P = ⊥
BothTurn None (Some y) I P = ⊥

module _ {O : Type 0} (L K : Lang O) (C : ℕ) where
  abbrev pub SimLK : ℕ → ℕ → Post L K → ActOf L → ActOf K → Type 0
  SimLK N w P a b = Sim L K C N w P a b

  -- a step of both, that print nothing, with what comes behind them
  pub sim_step : (N w w' : ℕ) (P : Post L K) (x : L.Node) (s : L.Store) (f : L.Comp → L.Store → ActOf L) (y : K.Node) (t : K.Store) (g : K.Comp → K.Store → ActOf K) → w' + 1 ≤ w + C → L.says x s ≡ None → K.says y t ≡ None → SimLK N w' P (bind (L.view x s) f) (bind (K.view y t) g) → SimLK (suc N) w P (sub x s f) (sub y t g)
  sim_step N w w' P x s f y t g le q q' h = record { by = λ n o le. at n o le }
    where
      at : (n : ℕ) (o : List O) → n ≤ suc N → Meets L K C n w o P (sub y t g) (means L (sub x s f) n o)
      at zero o l = subst (Meets L K C 0 w o P (sub y t g)) (sym (means_none L x s f o)) (halts_now L K C 0 w o (sub y t g) tt (omega arith))
      at (suc n) o l =
          let e = means_sub L x s f n o ∙ sym (means_bind L (L.view x s) f n (add_text o (L.says x s))) ∙ ap (λ u. means L (bind (L.view x s) f) n (add_text o u)) q in
          subst (Meets L K C (suc n) w o P (sub y t g)) (sym e) (meets_late L K C n (suc n) w w' o P y t g (means L (bind (L.view x s) f) n o) (omega arith) (inl q') (subst (λ u. Meets L K C n w' (add_text o u) P (bind (K.view y t) g) (means L (bind (L.view x s) f) n o)) (sym q') (h.by n o (omega arith))))

  unrolled : (n w : ℕ) (o : List O) (P : Post L K) (y : K.Node) (more : K.Comp → Option K.Node) (t : K.Store) (g : K.Comp → K.Store → ActOf K) (p : ResOf L) → Meets L K C n w o P (sub y t (λ r t. turn_or (more r) (λ y. loop y more t g) (g r t))) p → Meets L K C n w o P (loop y more t g) p
  unrolled n w o P y more t g (Fin r s m o') h = (
    h.0,
    h.1,
    h.2,
    h.3,
    (λ j. means_unroll K y more t g (h.0 + j) o ∙ h.4 j),
    h.5,
    ⊎_elim (λ x. absurd x.2) (λ x. inr (x.0, x.1, means_unroll K y more t g x.0 o ∙ x.2)) h.6,
  )
  unrolled n w o P y more t g (Spent o') h = ⊎_elim (λ x. inl (x.0, x.1, means_unroll K y more t g x.0 o ∙ x.2)) (λ x. absurd x.2) h
  unrolled n w o P y more t g (Cut why o') h = (h.0, means_unroll K y more t g h.0 o ∙ h.1)
  unrolled n w o P y more t g (Deep o') h = h

  -- I: what holds of two nodes and two stores as a turn of each begins
  module _ (I : L.Node → L.Store → K.Node → K.Store → Type 0) (P : Post L K) (more : L.Comp → Option L.Node) (more' : K.Comp → Option K.Node) where
    -- how a turn ends
    abbrev pub Turn : Post L K
    Turn r s r' t = BothTurn (more r) (more' r') (λ x y. I x s y t) (P r s r' t)

    pub sim_loop : (w : ℕ) → w + 1 ≤ C → ((x : L.Node) (s : L.Store) (y : K.Node) (t : K.Store) → I x s y t → (L.says x s ≡ None) × (K.says y t ≡ None)) → ((N : ℕ) (x : L.Node) (s : L.Store) (y : K.Node) (t : K.Store) → I x s y t → SimLK N w Turn (L.view x s) (K.view y t)) → (N : ℕ) (x : L.Node) (s : L.Store) (y : K.Node) (t : K.Store) → I x s y t → SimLK N 0 P (loop x more s fin) (loop y more' t fin)
    sim_loop w le q turn zero x s y t i = record { by = λ n o le. at n o le }
      where
        at : (n : ℕ) (o : List O) → n ≤ 0 → Meets L K C n 0 o P (loop y more' t fin) (means L (loop x more s fin) n o)
        at zero o l = halts_now L K C 0 0 o (loop y more' t fin) tt (omega arith)
        at (suc n) o l = absurd (let e : ⊥ = omega arith in e)
    sim_loop w le q turn (suc N) x s y t i = rolled (sim_step N 0 w P x s _ y t _ (omega arith) (q x s y t i).0 (q x s y t i).1 (two (λ x s y t i. sim_loop w le q turn N x s y t i)))
      where
        by_more : (b : Option L.Node) (d : Option K.Node) (r : L.Comp) (s : L.Store) (r' : K.Comp) (t : K.Store) → ((x : L.Node) (y : K.Node) → I x s y t → SimLK N 0 P (loop x more s fin) (loop y more' t fin)) → BothTurn b d (λ x y. I x s y t) (P r s r' t) → SimLK N 0 P (turn_or b (λ x. loop x more s fin) (fin r s)) (turn_or d (λ y. loop y more' t fin) (fin r' t))
        by_more (Some x) (Some y) r s r' t again h = again x y h
        by_more None None r s r' t again h = sim_fin L K C N P r s r' t h
        by_more (Some x) None r s r' t again h = absurd h
        by_more None (Some y) r s r' t again h = absurd h

        calm : (d : Option K.Node) (r : K.Comp) (t : K.Store) → Calm K (turn_or d (λ y. loop y more' t fin) (fin r t))
        calm (Some y) r t = tt
        calm None r t = tt

        two : ((x : L.Node) (s : L.Store) (y : K.Node) (t : K.Store) → I x s y t → SimLK N 0 P (loop x more s fin) (loop y more' t fin)) → SimLK N w P (bind (L.view x s) (λ r s. turn_or (more r) (λ x. loop x more s fin) (fin r s))) (bind (K.view y t) (λ r t. turn_or (more' r) (λ y. loop y more' t fin) (fin r t)))
        two again =
            let z : w + 0 ≡ w = omega arith in
            subst (λ v. SimLK N v P (bind (L.view x s) (λ r s. turn_or (more r) (λ x. loop x more s fin) (fin r s))) (bind (K.view y t) (λ r t. turn_or (more' r) (λ y. loop y more' t fin) (fin r t)))) z
            (sim_bind L K C N w 0 Turn P (L.view x s) _ (K.view y t) _ (turn N x s y t i) (λ r t. calm (more' r) r t) (λ r s r' t h. by_more (more r) (more' r') r s r' t (λ x y. again x s y t) h))

        rolled : SimLK (suc N) 0 P (sub x s (λ r s. turn_or (more r) (λ x. loop x more s fin) (fin r s))) (sub y t (λ r t. turn_or (more' r) (λ y. loop y more' t fin) (fin r t))) → SimLK (suc N) 0 P (loop x more s fin) (loop y more' t fin)
        rolled h = record { by = λ n o le. unrolled n 0 o P y more' t fin (means L (loop x more s fin) n o) (subst (Meets L K C n 0 o P (sub y t (λ r t. turn_or (more' r) (λ y. loop y more' t fin) (fin r t)))) (sym (means_unroll L x more s fin n o)) (h.by n o le)) }
