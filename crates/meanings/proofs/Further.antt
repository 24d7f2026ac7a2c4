-- A further step: what it prints, and that an end stays.
use Rattle.std.proofs.Common.{◌≡◌, ℕ, zero, suc, ◌+◌, ◌<◌, ◌≤◌, inl, inr, List, [], Option, Some, None, refl, sym, ap, ◌∙◌, subst, arith}
use Rattle.meanings.specs.Act.{Halt, fin, quit, sub, loop, Lang, Res, Fin, Spent, Cut, Deep, add_text, then_on, ActOf, ResOf, means}
use Rattle.meanings.specs.Runs.{AddsOne, Over, IsMeaning, shown, run_of}
use Rattle.meanings.proofs.Acts.{LeftOver, left_over, means_none, means_sub, means_unroll}

-- it stopped where this was printed
abbrev StopsAt : {S R O : Type 0} → Res S R O → List O → Type 0
StopsAt (Fin r s n o) o' = (n ≡ 0) × (o ≡ o')
StopsAt (Spent o) o' = o ≡ o'
StopsAt (Cut why o) o' = o ≡ o'
StopsAt (Deep o) o' = ⊥

-- the second result, of one more step
abbrev OneMore : {S R O : Type 0} → Res S R O → Res S R O → Type 0
OneMore (Fin r s n o) q = q ≡ Fin r s (suc n) o
OneMore {S} {R} {O} (Spent o) q = (o' : List O) × AddsOne o o' × StopsAt q o'
OneMore (Cut why o) q = q ≡ Cut why o
OneMore (Deep o) q = ⊥

adds_text : {O : Type 0} (o : List O) (t : Option O) → AddsOne o (add_text o t)
adds_text o None = inl refl
adds_text o (Some t) = inr (t, refl)

module _ {O : Type 0} (L : Lang O) where
  -- no steps print nothing
  stops : (a : ActOf L) (o : List O) → StopsAt (means L a 0 o) o
  stops (fin r s) o = (refl, refl)
  stops (quit why) o = refl
  stops (sub x s k) o = subst (λ p. StopsAt p o) (sym (means_none L x s k o)) refl
  stops (loop x more s k) o = refl

  then_stops : (p : ResOf L) (o : List O) (k : L.Comp → L.Store → ActOf L) → StopsAt p o → StopsAt (then_on p (λ r s m o'. means L (k r s) m o')) o
  then_stops (Fin r s n o') o k h =
      let e : means L (k r s) 0 o ≡ means L (k r s) n o' = (λ i. means L (k r s) (sym h.0 i) (sym h.1 i)) in
      subst (λ q. StopsAt q o) e (stops (k r s) o)
  then_stops (Spent o') o k h = h
  then_stops (Cut why o') o k h = h
  then_stops (Deep o') o k h = h

  then_more : (b : ℕ) (p q : ResOf L) (k : L.Comp → L.Store → ActOf L) → LeftOver b p → OneMore p q → ((r : L.Comp) (s : L.Store) (n : ℕ) (o : List O) → n ≤ b → OneMore (means L (k r s) n o) (means L (k r s) (suc n) o)) → OneMore (then_on p (λ r s m o'. means L (k r s) m o')) (then_on q (λ r s m o'. means L (k r s) m o'))
  then_more b (Fin r s n o) q k le m km = subst (λ q. OneMore (means L (k r s) n o) (then_on q (λ r s m o'. means L (k r s) m o'))) (sym m) (km r s n o le)
  then_more b (Spent o) q k le m km = (m.0, m.1, then_stops q m.0 k m.2)
  then_more b (Cut why o) q k le m km = ap (λ q. then_on q (λ r s m o'. means L (k r s) m o')) m
  then_more b (Deep o) q k le m km = m

  sub_more : (b : ℕ) → ((a : ActOf L) (n : ℕ) (o : List O) → n < b → OneMore (means L a n o) (means L a (suc n) o)) → (x : L.Node) (s : L.Store) (k : L.Comp → L.Store → ActOf L) (n : ℕ) (o : List O) → n < suc b → OneMore (means L (sub x s k) n o) (means L (sub x s k) (suc n) o)
  sub_more b less x s k zero o lt =
      let o' = add_text o (L.says x s) in
      subst (λ p. OneMore p (means L (sub x s k) 1 o)) (sym (means_none L x s k o)) (subst (OneMore (Spent o)) (sym (means_sub L x s k 0 o)) (o', adds_text o (L.says x s), then_stops (means L (L.view x s) 0 o') o' k (stops (L.view x s) o')))
  sub_more b less x s k (suc n) o lt =
      let o' = add_text o (L.says x s) in
      let m = then_more n (means L (L.view x s) n o') (means L (L.view x s) (suc n) o') k (left_over L (L.view x s) n o') (less (L.view x s) n o' (omega arith)) (λ r s' m o2 le. less (k r s') m o2 (omega arith)) in
      let e = means_sub L x s k n o in
      let e' = means_sub L x s k (suc n) o in
      subst (λ p. OneMore p (means L (sub x s k) (suc (suc n)) o)) (sym e) (subst (OneMore _) (sym e') m)

  one_more_to : (b : ℕ) (a : ActOf L) (n : ℕ) (o : List O) → n < b → OneMore (means L a n o) (means L a (suc n) o)
  one_more_to zero a n o lt = absurd (let e : ⊥ = omega arith in e)
  one_more_to (suc b) (fin r s) n o lt = refl
  one_more_to (suc b) (quit why) n o lt = refl
  one_more_to (suc b) (sub x s k) n o lt = sub_more b (one_more_to b) x s k n o lt
  one_more_to (suc b) (loop x more s k) n o lt =
      subst (λ p. OneMore p (means L (loop x more s k) (suc n) o)) (sym (means_unroll L x more s k n o))
      (subst (OneMore _) (sym (means_unroll L x more s k (suc n) o)) (sub_more b (one_more_to b) x s _ n o lt))

  pub one_more : (a : ActOf L) (n : ℕ) (o : List O) → OneMore (means L a n o) (means L a (suc n) o)
  one_more a n o = one_more_to (suc n) a n o (omega arith)

  -- an end stays, however many steps are added
  pub more_fin : (a : ActOf L) (n m d : ℕ) (o o' : List O) (r : L.Comp) (s : L.Store) → means L a n o ≡ Fin r s m o' → means L a (d + n) o ≡ Fin r s (d + m) o'
  more_fin a n m zero o o' r s e =
      let z : 0 + n ≡ n = omega arith in
      let y : m ≡ 0 + m = omega arith in
      ap (λ k. means L a k o) z ∙ e ∙ ap (λ k. Fin r s k o') y
  more_fin a n m (suc d) o o' r s e =
      let z : suc d + n ≡ suc (d + n) = omega arith in
      let y : suc (d + m) ≡ suc d + m = omega arith in
      ap (λ k. means L a k o) z ∙ subst (λ p. OneMore p (means L a (suc (d + n)) o)) (more_fin a n m d o o' r s e) (one_more a (d + n) o) ∙ ap (λ k. Fin r s k o') y

  module _ {E : Type 0} (over : L.Comp → E) (cut : Halt → E) where
    shown_adds : (p q : ResOf L) → OneMore p q → AddsOne (shown over cut p).texts (shown over cut q).texts
    shown_adds (Fin r s n o) q m = inl (ap (λ p. (shown over cut p).texts) m)
    shown_adds (Spent o) q m = subst (AddsOne o) (sym (texts_at q m.0 m.2)) m.1
      where
        texts_at : (q : ResOf L) (o : List O) → StopsAt q o → (shown over cut q).texts ≡ o
        texts_at (Fin r s n o') o h = h.1
        texts_at (Spent o') o h = h
        texts_at (Cut why o') o h = h
        texts_at (Deep o') o h = absurd h
    shown_adds (Cut why o) q m = inl (ap (λ p. (shown over cut p).texts) m)
    shown_adds (Deep o) q m = absurd m

    shown_stays : (p q : ResOf L) (e : E) → OneMore p q → (shown over cut p).end ≡ Over e → shown over cut q ≡ shown over cut p
    shown_stays (Fin r s n o) q e m h = ap (shown over cut) m
    shown_stays (Spent o) q e m h = absurd (let no : ⊥ = cc h in no)
    shown_stays (Cut why o) q e m h = ap (shown over cut) m
    shown_stays (Deep o) q e m h = absurd m

    shown_starts : (a : ActOf L) → (shown over cut (means L a 0 [])).texts ≡ []
    shown_starts (fin r s) = refl
    shown_starts (quit why) = refl
    shown_starts (sub x s k) = ap (λ p. (shown over cut p).texts) (means_none L x s k [])
    shown_starts (loop x more s k) = refl

    pub is_meaning : (a : ActOf L) → IsMeaning (run_of L over cut a)
    is_meaning a = record {
      starts = shown_starts a;
      adds = λ n. shown_adds (means L a n []) (means L a (suc n) []) (one_more a n []);
      stays = λ n e h. shown_stays (means L a n []) (means L a (suc n) []) e (one_more a n []) h;
    }
