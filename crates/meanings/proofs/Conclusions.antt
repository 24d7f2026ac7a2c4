-- Runs that come to an end: to one value or one cut, given enough steps. Two such runs with one end are the same run.
use Rattle.std.proofs.Common.{◌≡◌, ◌≢◌, ℕ, suc, ◌+◌, ◌≤◌, ◌<◌, ◌⊎◌, inl, inr, List, [], ◌∷◌, ◌++◌, Option, Some, None, refl, sym, ap, ◌∙◌, ⊎_elim, arith, append_assoc, append-nil}
use Rattle.std.proofs.lemmas.Bool.{cases_lt}
use Rattle.meanings.specs.Act.{Halt, fin, quit, sub, Lang, Fin, Cut, add_text, then_on, ActOf, means, bind}
use Rattle.meanings.specs.Runs.{Over, Going, Run, IsMeaning, Matches, SameRun, shown, run_of}
use Rattle.meanings.proofs.Acts.{means_sub, means_bind}
use Rattle.meanings.proofs.Further.{is_meaning}
use Rattle.meanings.proofs.Halves.{Front, is_over, going_or, stays_to, front_to, printed, matches_same, same_back}

abbrev pub said : {O : Type 0} → Option O → List O
said None = []
said (Some t) = t ∷ []

add_said : {O : Type 0} (o : List O) (t : Option O) → add_text o t ≡ o ++ said t
add_said o None = sym (append-nil o)
add_said o (Some t) = refl

module _ {O : Type 0} (L : Lang O) where
  -- given enough steps it is done so, and has printed these texts
  pub record Comes (a : ActOf L) (r : L.Comp) (s : L.Store) (texts : List O) : Type 0 where
    pub cost : ℕ
    pub then : (n : ℕ) (o : List O) → means L a (cost + n) o ≡ Fin r s n (o ++ texts)

  -- given enough steps it is cut short, and has printed these texts
  pub record Cuts (a : ActOf L) (why : Halt) (texts : List O) : Type 0 where
    pub cost : ℕ
    pub then : (n : ℕ) (o : List O) → means L a (cost + n) o ≡ Cut why (o ++ texts)

  pub comes_fin : (r : L.Comp) (s : L.Store) → Comes (fin r s) r s []
  comes_fin r s = record { cost = 0; then = λ n o. let z : 0 + n ≡ n = omega arith in (λ i. Fin r s (z i) (sym (append-nil o) i)) }

  pub cuts_quit : (why : Halt) → Cuts (quit why) why []
  cuts_quit why = record { cost = 0; then = λ n o. ap (Cut why) (sym (append-nil o)) }

  pub comes_bind : (a : ActOf L) (f : L.Comp → L.Store → ActOf L) (r r' : L.Comp) (s s' : L.Store) (texts more : List O) → Comes a r s texts → Comes (f r s) r' s' more → Comes (bind a f) r' s' (texts ++ more)
  comes_bind a f r r' s s' texts more h g = record {
    cost = h.cost + g.cost;
    then = λ n o.
        let e : h.cost + g.cost + n ≡ h.cost + (g.cost + n) = omega arith in
        ap (λ m. means L (bind a f) m o) e ∙ means_bind L a f (h.cost + (g.cost + n)) o
        ∙ ap (λ p. then_on p (λ r s m o'. means L (f r s) m o')) (h.then (g.cost + n) o)
        ∙ g.then n (o ++ texts) ∙ ap (Fin r' s' n) (append_assoc o texts more);
  }

  pub cuts_first : (a : ActOf L) (f : L.Comp → L.Store → ActOf L) (why : Halt) (texts : List O) → Cuts a why texts → Cuts (bind a f) why texts
  cuts_first a f why texts h = record {
    cost = h.cost;
    then = λ n o. means_bind L a f (h.cost + n) o ∙ ap (λ p. then_on p (λ r s m o'. means L (f r s) m o')) (h.then n o);
  }

  pub cuts_then : (a : ActOf L) (f : L.Comp → L.Store → ActOf L) (r : L.Comp) (s : L.Store) (why : Halt) (texts more : List O) → Comes a r s texts → Cuts (f r s) why more → Cuts (bind a f) why (texts ++ more)
  cuts_then a f r s why texts more h g = record {
    cost = h.cost + g.cost;
    then = λ n o.
        let e : h.cost + g.cost + n ≡ h.cost + (g.cost + n) = omega arith in
        ap (λ m. means L (bind a f) m o) e ∙ means_bind L a f (h.cost + (g.cost + n)) o
        ∙ ap (λ p. then_on p (λ r s m o'. means L (f r s) m o')) (h.then (g.cost + n) o)
        ∙ g.then n (o ++ texts) ∙ ap (Cut why) (append_assoc o texts more);
  }

  begins : (x : L.Node) (s : L.Store) (cost n : ℕ) (o : List O) → means L (sub x s fin) (suc cost + n) o ≡ then_on (means L (L.view x s) (cost + n) (o ++ said (L.says x s))) (λ r s m o'. means L (fin r s) m o')
  begins x s cost n o =
      let e : suc cost + n ≡ suc (cost + n) = omega arith in
      ap (λ m. means L (sub x s fin) m o) e ∙ means_sub L x s fin (cost + n) o
      ∙ ap (λ o. then_on (means L (L.view x s) (cost + n) o) (λ r s m o'. means L (fin r s) m o')) (add_said o (L.says x s))

  -- a node, by what its view comes to
  pub comes_sub : (x : L.Node) (s t : L.Store) (r : L.Comp) (texts : List O) → Comes (L.view x s) r t texts → Comes (sub x s fin) r t (said (L.says x s) ++ texts)
  comes_sub x s t r texts h = record {
    cost = suc h.cost;
    then = λ n o.
        begins x s h.cost n o
        ∙ ap (λ p. then_on p (λ r s m o'. means L (fin r s) m o')) (h.then n (o ++ said (L.says x s)))
        ∙ ap (Fin r t n) (append_assoc o (said (L.says x s)) texts);
  }

  pub cuts_sub : (x : L.Node) (s : L.Store) (why : Halt) (texts : List O) → Cuts (L.view x s) why texts → Cuts (sub x s fin) why (said (L.says x s) ++ texts)
  cuts_sub x s why texts h = record {
    cost = suc h.cost;
    then = λ n o.
        begins x s h.cost n o
        ∙ ap (λ p. then_on p (λ r s m o'. means L (fin r s) m o')) (h.then n (o ++ said (L.says x s)))
        ∙ ap (Cut why) (append_assoc o (said (L.says x s)) texts);
  }

  module _ {E : Type 0} (over : L.Comp → E) (cut : Halt → E) where
    pub comes_run : (a : ActOf L) (r : L.Comp) (s : L.Store) (texts : List O) (h : Comes a r s texts) → run_of L over cut a (h.cost + 0) ≡ record { texts = texts; end = Over (over r) }
    comes_run a r s texts h = ap (shown over cut) (h.then 0 [])

    pub cuts_run : (a : ActOf L) (why : Halt) (texts : List O) (h : Cuts a why texts) → run_of L over cut a (h.cost + 0) ≡ record { texts = texts; end = Over (cut why) }
    cuts_run a why texts h = ap (shown over cut) (h.then 0 [])

-- two meanings that come to one end, at whatever numbers of steps
module _ {O E : Type 0} where
  half : (F G : ℕ → Run O E) → IsMeaning F → IsMeaning G → (a b : ℕ) (texts : List O) (e : E) → F a ≡ record { texts = texts; end = Over e } → G b ≡ record { texts = texts; end = Over e } → (n : ℕ) → (m : ℕ) × Matches (F n) (G m)
  half F G mf mg a b texts e fa gb n = ⊎_elim (λ lt. before (omega (arith, lt))) (λ ge. late ge) (cases_lt n a)
    where
      late : a ≤ n → (m : ℕ) × Matches (F n) (G m)
      late ge = (b, matches_same (F n) (G b) (stays_to F mf a n e ge (ap (λ r. r.end) fa) ∙ fa ∙ sym gb))

      before : n ≤ a → (m : ℕ) × Matches (F n) (G m)
      before le =
          let f = front_to F mf n a le in
          let f' : Front (F n).texts (G b).texts = (f.0, f.1 ∙ ap (λ r. r.texts) (fa ∙ sym gb)) in
          ⊎_elim
          (λ going. let k = printed G mg b (F n).texts f' in (k.0, (sym k.1, λ x o. let no : ⊥ = cc (going, o) in absurd no)))
          (λ over. (b, matches_same (F n) (G b) (sym (stays_to F mf n a over.0 le over.1) ∙ fa ∙ sym gb)))
          (going_or (F n).end)

  pub one_conclusion : (F G : ℕ → Run O E) → IsMeaning F → IsMeaning G → (a b : ℕ) (texts : List O) (e : E) → F a ≡ record { texts = texts; end = Over e } → G b ≡ record { texts = texts; end = Over e } → SameRun F G
  one_conclusion F G mf mg a b texts e fa gb = record { forth = half F G mf mg a b texts e fa gb; back = half G F mg mf b a texts e gb fa }
