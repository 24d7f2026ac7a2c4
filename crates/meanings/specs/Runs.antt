-- Two meanings have the same runs.
use Rattle.std.specs.Prelude.{◌≡◌, ◌≢◌, ℕ, suc, ◌≤◌, ◌⊎◌, List, [], ◌∷◌, ◌++◌}
use Rattle.meanings.specs.Act.{Halt, Res, Fin, Spent, Cut, Deep, Lang, ActOf, means}

pub data End (E : Type 0) : Type 0 where
  Over : E → End E
  Going : End E

pub record Run (O E : Type 0) : Type 0 where
  pub texts : List O
  pub end : End E

abbrev pub AddsOne : {O : Type 0} → List O → List O → Type 0
AddsOne {O} a b = (b ≡ a) ⊎ ((t : O) × (b ≡ a ++ t ∷ []))

-- no steps print nothing, a further step prints at most one text, an end stays
pub record IsMeaning {O E : Type 0} (F : ℕ → Run O E) : Type 0 where
  pub starts : (F 0).texts ≡ []
  pub adds : (n : ℕ) → AddsOne (F n).texts (F (suc n)).texts
  pub stays : (n : ℕ) (e : E) → (F n).end ≡ Over e → F (suc n) ≡ F n

-- the same texts, and where the first is over, the same end
abbrev pub Matches : {O E : Type 0} → Run O E → Run O E → Type 0
Matches {O} {E} a b = (a.texts ≡ b.texts) × ((e : E) → a.end ≡ Over e → b.end ≡ Over e)

pub record SameRun {O E : Type 0} (F G : ℕ → Run O E) : Type 0 where
  pub forth : (n : ℕ) → (m : ℕ) × Matches (F n) (G m)
  pub back : (m : ℕ) → (n : ℕ) × Matches (G m) (F n)

-- each n has an m with the same run, and these pass every bound unless the first meaning ends
pub record Follows {O E : Type 0} (F G : ℕ → Run O E) : Type 0 where
  pub at : ℕ → ℕ
  pub same : (n : ℕ) → F n ≡ G (at n)
  pub far : (b : ℕ) → (n : ℕ) × (((F n).end ≢ Going) ⊎ (b ≤ at n))

-- A run of a language: `over` says how a completion shows, and `cut` how a run shows that is cut short.
abbrev pub shown : {S R O E : Type 0} → (R → E) → (Halt → E) → Res S R O → Run O E
shown over cut (Fin r s n o) = record { texts = o; end = Over (over r) }
shown over cut (Spent o) = record { texts = o; end = Going }
shown over cut (Cut why o) = record { texts = o; end = Over (cut why) }
-- no run whose depth has no bound ends so
shown over cut (Deep o) = record { texts = o; end = Going }

abbrev pub run_of : {O E : Type 0} (L : Lang O) → (L.Comp → E) → (Halt → E) → ActOf L → ℕ → Run O E
run_of L over cut a n = shown over cut (means L a n [])
