-- From one half, for all budgets, to the same run.
use Rattle.std.proofs.Common.{◌≡◌, ◌≢◌, ℕ, ◌+◌, ◌*◌, ◌≤◌, ◌⊎◌, inl, inr, [], sym, ap, ◌∙◌, ⊎_elim, arith}
use Rattle.meanings.specs.Act.{Halt, Lang, ActOf, ResOf, Fin, Spent, Cut, Deep, means}
use Rattle.meanings.specs.Runs.{Over, Going, Follows, SameRun, shown, run_of}
use Rattle.std.proofs.lemmas.Bool.{cases_lt}
use Rattle.meanings.proofs.Sim.{Post, Sim, Meets, Idle}
use Rattle.meanings.proofs.Halves.{half_enough}
use Rattle.meanings.proofs.Further.{is_meaning}

times_up : (c m b : ℕ) → m + 1 ≤ b → c * m + c ≤ c * b
times_up c m b le = grind arith

module _ {O E : Type 0} (L K : Lang O) (C w : ℕ) (over : L.Comp → E) (over' : K.Comp → E) (cut : Halt → E) (P : Post L K) (a : ActOf L) (b : ActOf K) where
  abbrev Found : ℕ → ResOf L → Type 0
  Found n p = (m : ℕ) × (shown over cut p ≡ run_of K over' cut b m) × (((shown over cut p).end ≢ Going) ⊎ (n ≤ C * m + C + w))

  found : ((r : L.Comp) (s : L.Store) (r' : K.Comp) (t : K.Store) → P r s r' t → over r ≡ over' r') → (Idle K b → ⊥) → (n : ℕ) (p : ResOf L) → Meets L K C n w [] P b p → Found n p
  found ends busy n (Fin r s n' o) h = (h.0 + 0, (λ i. record { texts = o; end = Over (ends r s h.1 h.2 h.3 i) }) ∙ sym (ap (shown over' cut) (h.4 0)), inl (λ e. let no : ⊥ = cc e in no))
  found ends busy n (Spent o) h = ⊎_elim (λ x. (x.0, sym (ap (shown over' cut) x.2), inr x.1)) (λ x. absurd (busy x.2)) h
  found ends busy n (Deep o) h = absurd h
  found ends busy n (Cut why o) h = (h.0, sym (ap (shown over' cut) h.1), inl (λ e. let no : ⊥ = cc e in no))

  follows : ((r : L.Comp) (s : L.Store) (r' : K.Comp) (t : K.Store) → P r s r' t → over r ≡ over' r') → (Idle K b → ⊥) → ((N : ℕ) → Sim L K C N w P a b) → Follows (run_of L over cut a) (run_of K over' cut b)
  follows ends busy sims = record {
    at = λ n. (at n).0;
    same = λ n. (at n).1;
    far = λ x. (C * x + C + w + 1, ⊎_elim (λ e. inl e) (λ le. inr (far_enough x (at (C * x + C + w + 1)).0 le)) (at (C * x + C + w + 1)).2);
  }
    where
      at : (n : ℕ) → Found n (means L a n [])
      at n = found ends busy n (means L a n []) ((sims n).by n [] (omega arith))

      far_enough : (x m : ℕ) → C * x + C + w + 1 ≤ C * m + C + w → x ≤ m
      far_enough x m le = ⊎_elim (λ lt. absurd (let up = times_up C m x (omega (arith, lt)) in let no : ⊥ = omega (arith, up, le) in no)) (λ ge. ge) (cases_lt m x)

  pub same_run : ((r : L.Comp) (s : L.Store) (r' : K.Comp) (t : K.Store) → P r s r' t → over r ≡ over' r') → (Idle K b → ⊥) → ((N : ℕ) → Sim L K C N w P a b) → SameRun (run_of L over cut a) (run_of K over' cut b)
  same_run ends busy sims = half_enough (run_of L over cut a) (run_of K over' cut b) (is_meaning L over cut a) (is_meaning K over' cut b) (follows ends busy sims)
