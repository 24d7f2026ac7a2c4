-- The search for what stands above a class finds all of it.
use Rattle.std.proofs.Common.{◌≡◌, ℕ, zero, suc, ◌+◌, ◌-◌, ◌<◌, ◌≤◌, Bool, true, false, cond, List, [], ◌∷◌, ◌++◌, length, get_or, set, replicate, Some, None, inl, inr, refl, sym, ap, ◌∙◌, subst, arith}
use Rattle.std.specs.Prelude.{slice_get, MatchBool}
use Rattle.std.specs.List.{Contains, sum_by}
use Rattle.std.specs.Option.{unwrap_or}
use Rattle.std.proofs.lemmas.Bool.{true≢false, cases_lt}
use Rattle.std.proofs.lemmas.Option.{slice_get_past, slice_get_cases, unwrap_or-slice_get}
use Rattle.std.proofs.lemmas.Bool.Decides.{eqb_tells}
use Rattle.std.proofs.lemmas.List.{get_or-set_same, get_or-set_other, get_or_past, get_or_default, get_or_append_left, get_or-replicate, length-replicate, length_push, length-set}
use Rattle.std.proofs.lemmas.List.Folds.{sum_by-replicate}
use Rattle.std.proofs.lemmas.List.Sums.{sum_by-set}
use Rattle.std.proofs.lemmas.List.Elements.{Contains-append_left, Contains-append_right, Contains-push_cases}
use Rattle.class_heads.specs.declared.search.Search.{Search}
use Rattle.class_heads.specs.Supertypes.{Classes, supertypes_of, named_by, IsAbove, next, further}
use Rattle.class_heads.specs.Search.{seen_one, seen_all, none_seen}

pub seen_joined : (s : Search) (xs ys : List ℕ) → seen_all s (xs ++ ys) ≡ seen_all (seen_all s xs) ys
seen_joined s [] ys = refl
seen_joined s (x ∷ xs) ys = seen_joined (seen_one s x) xs ys

pub equal : (j k : ℕ) → j < k + 1 → k ≤ j → j ≡ k
equal j k lt le = omega (arith, lt, le)

-- ---- what is read of a list

pub none_read : {A : Type 0} (xs : List A) (i : ℕ) (d : A) → None ≡ slice_get xs i → d ≡ get_or xs i d
none_read xs i d e = ap (λ o. unwrap_or o d) e ∙ unwrap_or-slice_get xs i d

not_some : {A : Type 0} (x : A) → Some x ≡ None → ⊥
not_some x e = cc

some_within : {A : Type 0} (xs : List A) (i : ℕ) (x : A) → Some x ≡ slice_get xs i → i < length xs
some_within xs i x e = elim (slice_get_cases xs i).1 [ inl y ↦ y.1 | inr y ↦ absurd (not_some x (e ∙ y.1)) ]

some_read : {A : Type 0} (xs : List A) (i : ℕ) (x d : A) → Some x ≡ slice_get xs i → x ≡ get_or xs i d
some_read xs i x d e = ap (λ o. unwrap_or o d) e ∙ unwrap_or-slice_get xs i d

none_past : {A : Type 0} (xs : List A) (i : ℕ) → None ≡ slice_get xs i → length xs ≤ i
none_past xs i e = elim (slice_get_cases xs i).1 [ inl y ↦ absurd (not_some y.0 (sym (e ∙ y.2))) | inr y ↦ y.0 ]

-- ---- one class more

abbrev pub is_seen : Search → ℕ → Bool
is_seen s x = get_or s.is_seen x true

-- how many were not
abbrev pub one_if_not : Bool → ℕ
one_if_not true = 0
one_if_not false = 1

abbrev pub unseen : Search → ℕ
unseen s = sum_by one_if_not s.is_seen

-- what stays when others are seen, of which P holds
pub record Grows (P : ℕ → Type 0) (s t : Search) : Type 0 where
  pub long : length t.is_seen ≡ length s.is_seen
  pub keeps : (x : ℕ) → is_seen s x ≡ true → is_seen t x ≡ true
  pub front : (j : ℕ) → j < length s.seen → get_or t.seen j 0 ≡ get_or s.seen j 0
  pub more : length s.seen ≤ length t.seen
  pub counts : unseen t + length t.seen ≡ unseen s + length s.seen
  pub listed : ((x : ℕ) → get_or s.is_seen x false ≡ true → Contains s.seen x) → (x : ℕ) → get_or t.is_seen x false ≡ true → Contains t.seen x
  pub all : ((x : ℕ) → Contains s.seen x → P x) → (x : ℕ) → Contains t.seen x → P x

grows_not : (P : ℕ → Type 0) (s : Search) → Grows P s s
grows_not P s = record { long = refl; keeps = λ x h. h; front = λ j lt. refl; more = omega arith; counts = refl; listed = λ h. h; all = λ h. h }

grows_on : (P : ℕ → Type 0) (s t u : Search) → Grows P s t → Grows P t u → Grows P s u
grows_on P s t u g h =
    record {
      long = h.long ∙ g.long;
      keeps = λ x k. h.keeps x (g.keeps x k);
      front = λ j lt. h.front j (omega (arith, lt, g.more)) ∙ g.front j lt;
      more = omega (arith, g.more, h.more);
      counts = h.counts ∙ g.counts;
      listed = λ k. h.listed (g.listed k);
      all = λ k. h.all (g.all k);
    }

module _ (s : Search) (d : ℕ) (new : is_seen s d ≡ false) where
  within : d < length s.is_seen
  within = elim (cases_lt d (length s.is_seen)) [ inl lt ↦ lt | inr le ↦ absurd (true≢false (sym (get_or_past s.is_seen d true le) ∙ new)) ]

  abbrev with_it : Search
  with_it = record { is_seen = set s.is_seen d true; seen = s.seen ++ d ∷ [] }

  seen_here : (x : ℕ) (def : Bool) → x ≡ d → get_or (set s.is_seen d true) x def ≡ true
  seen_here x def e = ap (λ k. get_or (set s.is_seen d true) k def) e ∙ get_or-set_same s.is_seen d true def within

  keeps_seen : (x : ℕ) → is_seen s x ≡ true → is_seen with_it x ≡ true
  keeps_seen x h = elim (eqb_tells x d) [ inl is ↦ seen_here x true is.1 | inr is ↦ get_or-set_other s.is_seen d x true true is.1 ∙ h ]

  counts_it : (k : ℕ) → sum_by one_if_not (set s.is_seen d true) + one_if_not (get_or s.is_seen d true) ≡ sum_by one_if_not s.is_seen + 0 → length (s.seen ++ d ∷ []) ≡ length s.seen + 1 → unseen with_it + length with_it.seen ≡ unseen s + length s.seen
  counts_it k sum long = let one : one_if_not (get_or s.is_seen d true) ≡ 1 = ap one_if_not new in omega (arith, sum, long, one)

  lists_it : ((x : ℕ) → get_or s.is_seen x false ≡ true → Contains s.seen x) → (x : ℕ) → get_or (set s.is_seen d true) x false ≡ true → Contains (s.seen ++ d ∷ []) x
  lists_it before x h =
      elim (eqb_tells x d) [
        | inl is ↦ Contains-append_right s.seen (d ∷ []) x (0, omega arith, sym is.1)
        | inr is ↦ Contains-append_left s.seen (d ∷ []) x (before x (sym (get_or-set_other s.is_seen d x true false is.1) ∙ h))
      ]

  pub one_grows : (P : ℕ → Type 0) → P d → Grows P s with_it
  one_grows P holds =
      record {
        long = length-set s.is_seen d true;
        keeps = keeps_seen;
        front = λ j lt. get_or_append_left s.seen (d ∷ []) 0 j lt;
        more = omega (arith, length_push s.seen d);
        counts = counts_it 0 (sum_by-set one_if_not s.is_seen d true true within) (length_push s.seen d);
        listed = lists_it;
        all = λ before x c. elim (Contains-push_cases s.seen d x c) [ inl there ↦ before x there | inr is ↦ subst P is holds ];
      }

pub seen_grows : (P : ℕ → Type 0) (s : Search) (d : ℕ) → P d → Grows P s (seen_one s d)
seen_grows P s d holds = by (is_seen s d) refl where
  by : (b : Bool) → is_seen s d ≡ b → Grows P s (cond b s (record { is_seen = set s.is_seen d true; seen = s.seen ++ d ∷ [] }))
  by true e = grows_not P s
  by false e = one_grows s d e P holds

-- what was asked for is seen, unless it is no class
pub seen_then : (s : Search) (d : ℕ) → is_seen (seen_one s d) d ≡ true
seen_then s d = by (is_seen s d) refl where
  by : (b : Bool) → is_seen s d ≡ b → is_seen (cond b s (record { is_seen = set s.is_seen d true; seen = s.seen ++ d ∷ [] })) d ≡ true
  by true e = e
  by false e = seen_here s d e d true refl

-- ---- several more

abbrev pub Each : (ℕ → Type 0) → List ℕ → Type 0
Each P ds = (d : ℕ) → Contains ds d → P d

pub all_grow : (P : ℕ → Type 0) (s : Search) (ds : List ℕ) → Each P ds → Grows P s (seen_all s ds)
all_grow P s [] holds = grows_not P s
all_grow P s (d ∷ ds) holds =
    grows_on P s (seen_one s d) (seen_all (seen_one s d) ds) (seen_grows P s d (holds d (0, omega arith, refl)))
    (all_grow P (seen_one s d) ds (λ x c. holds x (suc c.0, omega (arith, c.1), c.2)))

pub all_seen : (s : Search) (ds : List ℕ) → (d : ℕ) → Contains ds d → is_seen (seen_all s ds) d ≡ true
all_seen s (x ∷ ds) d (zero, lt, e) = (all_grow (λ y. ℕ) (seen_one s x) ds (λ y c. 0)).keeps d (ap (is_seen (seen_one s x)) (sym e) ∙ seen_then s x)
all_seen s (x ∷ ds) d (suc k, lt, e) = all_seen (seen_one s x) ds d (k, omega (arith, lt), e)
all_seen s [] d (k, lt, e) = absurd (omega (arith, lt))

-- ---- the search

-- So far, when those before this place were gone through.
pub record IsSearch (cs : Classes) (c done : ℕ) (s : Search) : Type 0 where
  pub long : length s.is_seen ≡ length cs
  pub room : unseen s + length s.seen ≤ length cs
  pub above : (x : ℕ) → Contains s.seen x → IsAbove cs c x
  pub listed : (x : ℕ) → get_or s.is_seen x false ≡ true → Contains s.seen x
  pub first : (d : ℕ) → Contains (supertypes_of cs c) d → is_seen s d ≡ true
  pub each : (j : ℕ) → j < done → (d : ℕ) → Contains (supertypes_of cs (get_or s.seen j 0)) d → is_seen s d ≡ true
  pub known : done ≤ length s.seen

pub above_then : (cs : Classes) {a b d : ℕ} → IsAbove cs a b → Contains (supertypes_of cs b) d → IsAbove cs a d
above_then cs (next h) k = further h (next k)
above_then cs (further h r) k = further h (above_then cs r k)

none_is_seen : (n x : ℕ) → get_or (replicate n false) x false ≡ true → ⊥
none_is_seen n x h =
    elim (cases_lt x n) [
      | inl lt ↦ true≢false (sym h ∙ get_or-replicate n x false false lt)
      | inr le ↦ true≢false (sym h ∙ get_or_past (replicate n false) x false (subst (λ k. k ≤ x) (sym (length-replicate n false)) le))
    ]

nothing_in : {A : Type 0} (x : A) → Contains [] x → ⊥
nothing_in x c = omega (arith, c.1)

pub search_begins : (cs : Classes) (c : ℕ) (s : Search) → s ≡ seen_all (none_seen (length cs)) (supertypes_of cs c) → IsSearch cs c 0 s
search_begins cs c s e = subst (IsSearch cs c 0) (sym e) begun where
  begun : IsSearch cs c 0 (seen_all (none_seen (length cs)) (supertypes_of cs c))
  begun =
      let grows : Grows (IsAbove cs c) (none_seen (length cs)) (seen_all (none_seen (length cs)) (supertypes_of cs c)) = all_grow (IsAbove cs c) (none_seen (length cs)) (supertypes_of cs c) (λ d h. next h) in
      record {
        long = grows.long ∙ length-replicate (length cs) false;
        room = omega (arith, grows.counts, sum_by-replicate one_if_not (length cs) false);
        above = grows.all (λ x k. absurd (nothing_in x k));
        listed = grows.listed (λ x h. absurd (none_is_seen (length cs) x h));
        first = all_seen (none_seen (length cs)) (supertypes_of cs c);
        each = λ j lt. absurd (omega (arith, lt));
        known = omega arith;
      }

pub search_goes_on : (cs : Classes) (c done x : ℕ) (s t : Search) → IsSearch cs c done s → done < length s.seen → x ≡ get_or s.seen done 0 → t ≡ seen_all s (supertypes_of cs x) → IsSearch cs c (done + 1) t
search_goes_on cs c done x s t so lt is e = subst (IsSearch cs c (done + 1)) (sym e) after where
  there : Contains s.seen x
  there = (done, lt, get_or_default s.seen done x 0 lt ∙ sym is)

  grows : Grows (IsAbove cs c) s (seen_all s (supertypes_of cs x))
  grows = all_grow (IsAbove cs c) s (supertypes_of cs x) (λ d h. above_then cs (so.above x there) h)

  each : (j : ℕ) → j < done + 1 → (d : ℕ) → Contains (supertypes_of cs (get_or (seen_all s (supertypes_of cs x)).seen j 0)) d → is_seen (seen_all s (supertypes_of cs x)) d ≡ true
  each j below d h =
      let same = grows.front j (omega (arith, below, lt)) in
      let k : Contains (supertypes_of cs (get_or s.seen j 0)) d = subst (λ y. Contains (supertypes_of cs y) d) same h in
      elim (cases_lt j done) [
        | inl before ↦ grows.keeps d (so.each j before d k)
        | inr past ↦ all_seen s (supertypes_of cs x) d (subst (λ y. Contains (supertypes_of cs y) d) (ap (λ i. get_or s.seen i 0) (equal j done below past) ∙ sym is) k)
      ]

  after : IsSearch cs c (done + 1) (seen_all s (supertypes_of cs x))
  after =
      record {
        long = grows.long ∙ so.long;
        room = omega (arith, grows.counts, so.room);
        above = grows.all so.above;
        listed = grows.listed so.listed;
        first = λ d h. grows.keeps d (so.first d h);
        each = each;
        known = omega (arith, grows.more, lt);
      }

pub search_steps : (cs : Classes) (c done x : ℕ) (s t : Search) → IsSearch cs c done s → Some x ≡ slice_get s.seen done → t ≡ seen_all s (supertypes_of cs x) → IsSearch cs c (done + 1) t
search_steps cs c done x s t so is e = search_goes_on cs c done x s t so (some_within s.seen done x is) (some_read s.seen done x 0 is) e

-- each step leaves less to see and to go through
pub search_shrinks : (cs : Classes) (done x : ℕ) (s t : Search) → Some x ≡ slice_get s.seen done → t ≡ seen_all s (supertypes_of cs x) → unseen t + length t.seen - (done + 1) < unseen s + length s.seen - done
search_shrinks cs done x s t is e = subst (λ u. unseen u + length u.seen - (done + 1) < unseen s + length s.seen - done) (sym e) smaller where
  smaller : unseen (seen_all s (supertypes_of cs x)) + length (seen_all s (supertypes_of cs x)).seen - (done + 1) < unseen s + length s.seen - done
  smaller = omega (arith, (all_grow (λ y. ℕ) s (supertypes_of cs x) (λ y h. 0)).counts, some_within s.seen done x is)

-- ---- its end

nothing_past : (cs : Classes) (d : ℕ) → length cs ≤ d → supertypes_of cs d ≡ []
unfolding supertypes_of
nothing_past cs d le = ap named_by (slice_get_past cs d le)

module _ (cs : Classes) (c done : ℕ) (s : Search) (so : IsSearch cs c done s) (all : length s.seen ≤ done) where
  past_none : (d e : ℕ) → length cs ≤ d → Contains (supertypes_of cs d) e → ⊥
  past_none d e le h = nothing_in e (subst (λ ds. Contains ds e) (nothing_past cs d le) h)

  each_seen : (d : ℕ) → is_seen s d ≡ true → (e : ℕ) → Contains (supertypes_of cs d) e → is_seen s e ≡ true
  each_seen d h e k =
      elim (cases_lt d (length cs)) [
        | inl lt ↦ by_list lt
        | inr le ↦ absurd (past_none d e le k)
      ]
    where
      by_list : d < length cs → is_seen s e ≡ true
      by_list lt =
          let place = so.listed d (sym (get_or_default s.is_seen d true false (subst (λ n. d < n) (sym so.long) lt)) ∙ h) in
          so.each place.0 (omega (arith, place.1, all)) e (subst (λ y. Contains (supertypes_of cs y) e) (sym (sym (get_or_default s.seen place.0 d 0 place.1) ∙ place.2)) k)

  all_above : (x e : ℕ) → ((d : ℕ) → Contains (supertypes_of cs x) d → is_seen s d ≡ true) → IsAbove cs x e → is_seen s e ≡ true
  all_above x e from (next h) = from e h
  all_above x e from (further {d = d} h r) = all_above d e (each_seen d (from d h)) r

  first_step : {x e : ℕ} → IsAbove cs x e → (d : ℕ) × Contains (supertypes_of cs x) d
  first_step (next {d = d} h) = (d, h)
  first_step (further {d = d} h r) = (d, h)

  not_found : get_or s.is_seen c false ≡ false → IsAbove cs c c → ⊥
  not_found none r =
      elim (cases_lt c (length cs)) [
        | inl lt ↦ true≢false (sym (all_above c c so.first r) ∙ get_or_default s.is_seen c true false (subst (λ n. c < n) (sym so.long) lt) ∙ none)
        | inr le ↦ let step = first_step r in past_none c step.0 le step.1
      ]

  search_tells : (found : Bool) → found ≡ get_or s.is_seen c false → MatchBool found (IsAbove cs c c) (IsAbove cs c c → ⊥)
  search_tells true e = so.above c (so.listed c (sym e))
  search_tells false e = not_found (sym e)

pub search_ends : (cs : Classes) (c done : ℕ) (s : Search) → IsSearch cs c done s → None ≡ slice_get s.seen done → (found : Bool) → found ≡ get_or s.is_seen c false → MatchBool found (IsAbove cs c c) (IsAbove cs c c → ⊥)
search_ends cs c done s so is = search_tells cs c done s so (none_past s.seen done is)
