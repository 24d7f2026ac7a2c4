-- One half of the same run gives the other.
use Rattle.std.proofs.Common.{◌≡◌, ◌≢◌, ℕ, zero, suc, ◌+◌, ◌-◌, ◌≤◌, ◌⊎◌, inl, inr, List, [], ◌∷◌, ◌++◌, refl, sym, ap, ◌∙◌, ⊎_elim, arith, append_assoc, append-nil}
use Rattle.meanings.specs.Runs.{End, Over, Going, Run, IsMeaning, Matches, SameRun, Follows}
use Rattle.std.proofs.lemmas.Bool.{cases_lt}

-- the front of a list
abbrev pub Front : {O : Type 0} → List O → List O → Type 0
Front {O} p xs = (z : List O) × (p ++ z ≡ xs)

module _ {O : Type 0} where
  no_back : (p z : List O) → p ++ z ≡ [] → p ≡ []
  no_back [] z e = refl
  no_back (a ∷ p) z e = cc

  front_or : (p xs : List O) (t : O) (z : List O) → p ++ z ≡ xs ++ t ∷ [] → Front p xs ⊎ (p ≡ xs ++ t ∷ [])
  front_or [] xs t z e = inl (xs, refl)
  front_or (a ∷ p) [] t z e =
      let e' : p ++ z ≡ [] = cc in
      let n = no_back p z e' in
      inr cc
  front_or (a ∷ p) (b ∷ xs) t z e =
      let h : a ≡ b = cc in
      let e' : p ++ z ≡ xs ++ t ∷ [] = cc in
      ⊎_elim (λ (f : Front p xs). inl (f.0, cc f.1)) (λ q. inr cc) (front_or p xs t z e')

pub is_over : {E : Type 0} (x : End E) → x ≢ Going → (e : E) × (x ≡ Over e)
is_over (Over e) h = (e, refl)
is_over Going h = absurd (h refl)

pub going_or : {E : Type 0} (x : End E) → (x ≡ Going) ⊎ ((e : E) × (x ≡ Over e))
going_or (Over e) = inr (e, refl)
going_or Going = inl refl

module _ {O E : Type 0} where
  -- an end stays for all further steps
  stays_by : (F : ℕ → Run O E) → IsMeaning F → (d n : ℕ) (e : E) → (F n).end ≡ Over e → F (d + n) ≡ F n
  stays_by F m zero n e h = let z : 0 + n ≡ n = omega arith in ap F z
  stays_by F m (suc d) n e h =
      let z : suc d + n ≡ suc (d + n) = omega arith in
      let i = stays_by F m d n e h in
      ap F z ∙ m.stays (d + n) e (ap (λ r. r.end) i ∙ h) ∙ i

  pub stays_to : (F : ℕ → Run O E) → IsMeaning F → (n k : ℕ) (e : E) → n ≤ k → (F n).end ≡ Over e → F k ≡ F n
  stays_to F m n k e le h = let z : k ≡ (k - n) + n = omega arith in ap F z ∙ stays_by F m (k - n) n e h

  -- what was printed is the front of what is printed later
  front_by : (F : ℕ → Run O E) → IsMeaning F → (d n : ℕ) → Front (F n).texts (F (d + n)).texts
  front_by F m zero n = let z : n ≡ 0 + n = omega arith in ([], append-nil (F n).texts ∙ ap (λ k. (F k).texts) z)
  front_by F m (suc d) n =
      let z : suc (d + n) ≡ suc d + n = omega arith in
      let i = front_by F m d n in
      let at = ap (λ k. (F k).texts) z in
      ⊎_elim (λ same. (i.0, i.1 ∙ sym same ∙ at)) (λ more. (i.0 ++ more.0 ∷ [], sym (append_assoc (F n).texts i.0 (more.0 ∷ [])) ∙ ap (λ l. l ++ more.0 ∷ []) i.1 ∙ sym more.1 ∙ at)) (m.adds (d + n))

  pub front_to : (F : ℕ → Run O E) → IsMeaning F → (n k : ℕ) → n ≤ k → Front (F n).texts (F k).texts
  front_to F m n k le = let z : (k - n) + n ≡ k = omega arith in let f = front_by F m (k - n) n in (f.0, f.1 ∙ ap (λ j. (F j).texts) z)

  -- each front was printed at some time
  pub printed : (F : ℕ → Run O E) → IsMeaning F → (n : ℕ) (p : List O) → Front p (F n).texts → (k : ℕ) × ((F k).texts ≡ p)
  printed F m zero p f = (0, m.starts ∙ sym (no_back p f.0 (f.1 ∙ m.starts)))
  printed F m (suc n) p f =
      ⊎_elim
      (λ same. printed F m n p (f.0, f.1 ∙ same))
      (λ more. ⊎_elim (λ g. printed F m n p g) (λ q. (suc n, more.1 ∙ sym q)) (front_or p (F n).texts more.0 f.0 (f.1 ∙ more.1)))
      (m.adds n)

  pub matches_same : (a b : Run O E) → a ≡ b → Matches a b
  matches_same a b h = (ap (λ r. r.texts) h, λ e o. sym (ap (λ r. r.end) h) ∙ o)

  pub half_enough : (F G : ℕ → Run O E) → IsMeaning F → IsMeaning G → Follows F G → SameRun F G
  half_enough F G mf mg fol = record {
    forth = λ n. (fol.at n, matches_same (F n) (G (fol.at n)) (fol.same n));
    back = λ m. let w = fol.far m in ⊎_elim (λ ov. ended m w.0 ov) (λ le. early m w.0 le) w.1;
  }
    where
      -- G has not come further than where it follows F
      early : (m n : ℕ) → m ≤ fol.at n → (k : ℕ) × Matches (G m) (F k)
      early m n le =
          let f = front_to G mg m (fol.at n) le in
          let f' : Front (G m).texts (F n).texts = (f.0, f.1 ∙ sym (ap (λ r. r.texts) (fol.same n))) in
          ⊎_elim
          (λ going. let k = printed F mf n (G m).texts f' in (k.0, (sym k.1, λ e o. let no : ⊥ = cc (going, o) in absurd no)))
          (λ over. (n, matches_same (G m) (F n) (sym (fol.same n ∙ stays_to G mg m (fol.at n) over.0 le over.1))))
          (going_or (G m).end)

      ended : (m n : ℕ) → (F n).end ≢ Going → (k : ℕ) × Matches (G m) (F k)
      ended m n ov =
          let o = is_over (F n).end ov in
          ⊎_elim
          (λ lt. early m n (omega arith))
          (λ le. (n, matches_same (G m) (F n) (stays_to G mg (fol.at n) m o.0 le (sym (ap (λ r. r.end) (fol.same n)) ∙ o.1) ∙ sym (fol.same n))))
          (cases_lt m (fol.at n))

  pub same_back : (F G : ℕ → Run O E) → SameRun F G → SameRun G F
  same_back F G s = record { forth = s.back; back = s.forth }

  matches_then : (a b c : Run O E) → Matches a b → Matches b c → Matches a c
  matches_then a b c h k = (h.0 ∙ k.0, λ e o. k.1 e (h.1 e o))

  pub same_then : (F G H : ℕ → Run O E) → SameRun F G → SameRun G H → SameRun F H
  same_then F G H s r = record {
    forth = λ n. let a = s.forth n in let b = r.forth a.0 in (b.0, matches_then (F n) (G a.0) (H b.0) a.1 b.1);
    back = λ n. let b = r.back n in let a = s.back b.0 in (a.0, matches_then (H n) (G b.0) (F a.0) b.1 a.1);
  }
