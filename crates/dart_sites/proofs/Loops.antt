-- Going through what stands in the items of a list, one after another.
use Rattle.std.proofs.Common.{◌≡◌, ℕ, Bool, suc, ◌+◌, ◌<◌, ◌≤◌, List, ◌∷◌, map, drop, length, get_or, sym, ap, ◌∙◌, drop-cons, arith}
use Rattle.std.specs.List.{flat_map}
use Rattle.std.proofs.lemmas.List.{drop_all}
use Rattle.std.proofs.lemmas.List.Concat.{flat_map-cons}
use Rattle.dart_sites.specs.declared.scopes.Scope.{Scope}
use Rattle.dart_sites.specs.declared.sites.Site.{Site}
use Rattle.dart_sites.specs.declared.surroundings.Surroundings.{Surroundings}
use Rattle.dart_grammar.specs.declared.trees.Selector.{Selector}
use Rattle.dart_grammar.specs.declared.declarations.Initialiser.{Initialiser}
use Rattle.dart_sites.specs.declared.place.Place.{Place}
use Rattle.dart_sites.specs.declared.sites.Use.{Use}
use Rattle.dart_sites.specs.declared.sites.Receiver.{Receiver}
use Rattle.dart_sites.specs.Expressions.{use_before, selectors_sites}
use Rattle.dart_sites.specs.Trees.{selector_in}
use Rattle.dart_sites.specs.Files.{initialiser_in, initialisers_in, is_end}
use Rattle.dart_sites.specs.Visits.{visited, around}
use Rattle.dart_sites.proofs.Visits.{visited_append}

next_item : {A : Type 0} (xs : List A) (i : ℕ) (x : A) → x ≡ get_or xs i x → i < length xs → drop i xs ≡ x ∷ drop (i + 1) xs
next_item xs i x is below =
    let one : suc i ≡ i + 1 = omega arith in
    drop-cons xs i x below ∙ ap (λ y. y ∷ drop (suc i) xs) (sym is) ∙ ap (λ k. x ∷ drop k xs) one

module _ {V : Type 0} (step : V → Surroundings → Site → V) where
  one_first : {B : Type 0} (f : B → List (Surroundings × Site)) (y : B) (ys : List B) (v w : V) → w ≡ visited step (f y) v → visited step (flat_map f ys) w ≡ visited step (flat_map f (y ∷ ys)) v
  one_first f y ys v w now =
      ap (visited step (flat_map f ys)) now ∙ sym (visited_append step (f y) (flat_map f ys) v) ∙ ap (λ l. visited step l v) (sym (flat_map-cons f y ys))

  -- an item of what a list is mapped to
  pub one_turn : {A B : Type 0} (h : A → B) (f : B → List (Surroundings × Site)) (xs : List A) (i : ℕ) (x : A) (v w u : V) → x ≡ get_or xs i x → i < length xs → w ≡ visited step (f (h x)) v
      → visited step (flat_map f (map h (drop i xs))) v ≡ u → visited step (flat_map f (map h (drop (i + 1) xs))) w ≡ u
  one_turn h f xs i x v w u is below now so =
      one_first f (h x) (map h (drop (i + 1) xs)) v w now ∙ sym (ap (λ l. visited step (flat_map f (map h l)) v) (next_item xs i x is below)) ∙ so

  -- behind the last item
  pub last_turn : {A B : Type 0} (h : A → B) (f : B → List (Surroundings × Site)) (xs : List A) (i : ℕ) (v u : V) → length xs ≤ i → visited step (flat_map f (map h (drop i xs))) v ≡ u → v ≡ u
  last_turn h f xs i v u over so =
      sym (ap (λ l. visited step (flat_map f (map h l)) v) (drop_all i xs over)) ∙ so

  -- an item of a list
  pub plain_turn : {A : Type 0} (f : A → List (Surroundings × Site)) (xs : List A) (i : ℕ) (x : A) (v w u : V) → x ≡ get_or xs i x → i < length xs → w ≡ visited step (f x) v
      → visited step (flat_map f (drop i xs)) v ≡ u → visited step (flat_map f (drop (i + 1) xs)) w ≡ u
  plain_turn f xs i x v w u is below now so =
      one_first f x (drop (i + 1) xs) v w now ∙ sym (ap (λ l. visited step (flat_map f l) v) (next_item xs i x is below)) ∙ so

  -- the same, where the scopes around are known to be those at the start
  pub later_turn : {A B : Type 0} (h : A → B) (f : List Scope → B → List (Surroundings × Site)) (xs : List A) (i : ℕ) (x : A) (v w u : V) (s s0 : List Scope) → x ≡ get_or xs i x → i < length xs → s ≡ s0
      → w ≡ visited step (f s (h x)) v → visited step (flat_map (f s0) (map h (drop i xs))) v ≡ u → visited step (flat_map (f s0) (map h (drop (i + 1) xs))) w ≡ u
  later_turn h f xs i x v w u s s0 is below same now so =
      one_turn h (f s0) xs i x v w u is below (now ∙ ap (λ z. visited step (f z (h x)) v) same) so

  pub later_plain_turn : {A : Type 0} (f : List Scope → A → List (Surroundings × Site)) (xs : List A) (i : ℕ) (x : A) (v w u : V) (s s0 : List Scope) → x ≡ get_or xs i x → i < length xs → s ≡ s0
      → w ≡ visited step (f s x) v → visited step (flat_map (f s0) (drop i xs)) v ≡ u → visited step (flat_map (f s0) (drop (i + 1) xs)) w ≡ u
  later_plain_turn f xs i x v w u s s0 is below same now so =
      plain_turn (f s0) xs i x v w u is below (now ∙ ap (λ z. visited step (f z x) v) same) so

  pub selector_turn : (p : Place) (last how : Use) (x : Selector) (after rest : List Selector) (r r' : Receiver) (s s0 : List Scope) (v w u : V) → rest ≡ x ∷ after → s ≡ s0 → how ≡ use_before (map selector_in after) last
      → r' ≡ (selector_in x).receiver r → w ≡ visited step ((selector_in x).sites r how (around p s)) v → visited step (selectors_sites r (map selector_in rest) last (around p s0)) v ≡ u
      → visited step (selectors_sites r' (map selector_in after) last (around p s0)) w ≡ u
  selector_turn p last how x after rest r r' s s0 v w u split same used became now so =
      let here_now : w ≡ visited step ((selector_in x).sites r (use_before (map selector_in after) last) (around p s0)) v =
      now ∙ ap (λ k. visited step ((selector_in x).sites r k (around p s)) v) used ∙ ap (λ k. visited step ((selector_in x).sites r (use_before (map selector_in after) last) (around p k)) v) same in
      ap (λ k. visited step (selectors_sites k (map selector_in after) last (around p s0)) w) became
      ∙ ap (visited step (selectors_sites ((selector_in x).receiver r) (map selector_in after) last (around p s0))) here_now
      ∙ sym (visited_append step ((selector_in x).sites r (use_before (map selector_in after) last) (around p s0)) (selectors_sites ((selector_in x).receiver r) (map selector_in after) last (around p s0)) v)
      ∙ sym (ap (λ k. visited step (selectors_sites r (map selector_in k) last (around p s0)) v) split)
      ∙ so

  pub initialiser_turn : (p : Place) (is_last : Bool) (x : Initialiser) (after rest : List Initialiser) (s s0 : List Scope) (v w u : V) → rest ≡ x ∷ after → s ≡ s0 → is_last ≡ is_end after
      → w ≡ visited step (initialiser_in is_last x (around p s)) v → visited step (initialisers_in rest (around p s0)) v ≡ u
      → visited step (initialisers_in after (around p s0)) w ≡ u
  initialiser_turn p is_last x after rest s s0 v w u split same told now so =
      let here_now : w ≡ visited step (initialiser_in (is_end after) x (around p s0)) v =
      now ∙ ap (λ k. visited step (initialiser_in k x (around p s)) v) told ∙ ap (λ k. visited step (initialiser_in (is_end after) x (around p k)) v) same in
      ap (visited step (initialisers_in after (around p s0))) here_now
      ∙ sym (visited_append step (initialiser_in (is_end after) x (around p s0)) (initialisers_in after (around p s0)) v)
      ∙ sym (ap (λ k. visited step (initialisers_in k (around p s0)) v) split)
      ∙ so
