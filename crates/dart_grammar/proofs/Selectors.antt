-- Where the last of selectors ends.
use Rattle.std.proofs.Common.{◌≡◌, ℕ, zero, suc, List, [], ◌∷◌, length, ◌-◌, Some, slice_get, arith}
use Rattle.dart_grammar.specs.declared.trees.Selector.{Selector}
use Rattle.dart_grammar.specs.Trees.{selector_span, selectors_end}

last_ends : (j n : ℕ) (xs : List Selector) (x : Selector) → length xs ≡ suc n → slice_get xs n ≡ Some x → selectors_end j xs ≡ (selector_span x).to
last_ends j n [] x e h = absurd (omega arith)
last_ends j n (y ∷ []) x e h = let k : n ≡ 0 = omega arith in let h = rw k at h in cc
last_ends j zero (y ∷ z ∷ xs) x e h = absurd (omega arith)
last_ends j (suc n) (y ∷ z ∷ xs) x e h = last_ends (selector_span y).to n (z ∷ xs) x (omega arith) h

pub ends_at_last : (j : ℕ) (xs : List Selector) (x : Selector) → slice_get xs (length xs - 1) ≡ Some x → selectors_end j xs ≡ (selector_span x).to
ends_at_last j [] x h = absurd cc
ends_at_last j (y ∷ xs) x h = last_ends j (length (y ∷ xs) - 1) (y ∷ xs) x (omega arith) h
