-- The climb brings all classes into an order in which what a class names stands before it.
use Rattle.std.proofs.Common.{◌≡◌, ℕ, zero, suc, ◌+◌, ◌-◌, ◌<◌, ◌≤◌, Bool, true, false, cond, List, [], ◌∷◌, ◌++◌, length, get_or, set, take, replicate, Option, Some, None, inl, inr, refl, sym, ap, ◌∙◌, subst, arith}
use Rattle.std.specs.Prelude.{◌⊎◌, slice_get}
use Rattle.std.specs.List.{Contains, All, sum_by}
use Rattle.std.proofs.lemmas.Bool.{true≢false, cases_lt}
use Rattle.std.proofs.lemmas.Bool.Decides.{eqb_tells}
use Rattle.std.proofs.lemmas.Option.{slice_get-get_or, slice_get_within, get_or_from_slice_get}
use Rattle.std.proofs.lemmas.List.{get_or-set_same, get_or-set_other, get_or_past, get_or_default, get_or_append_left, get_or_push, get_or-replicate, length-replicate, length_push, length-set, map_push, take_at, take-append-le}
use Rattle.std.proofs.lemmas.List.Folds.{sum_by-replicate}
use Rattle.std.proofs.lemmas.List.Sums.{sum_by-set, sum_by_push}
use Rattle.std.proofs.lemmas.List.Elements.{All-nil, All-push, All-pop, All-weaker, Contains-get_or, Contains-append_left, Contains-push, Contains-push_cases}
use Rattle.class_heads.specs.Supertypes.{Classes, supertypes_of, named_by, IsAbove, next, further}
use Rattle.supertypes.specs.declared.climb.Step.{Step}
use Rattle.supertypes.specs.declared.climb.Climb.{Climb}
use Rattle.supertypes.specs.Upward.{IsUpward}
use Rattle.supertypes.specs.Climb.{not_begun, is_begun, begun, past, onward, looked, line, one_if_not, IsLookedAt, IsClimb, IsClimbing, HasClimbed}

pub above_then : (cs : Classes) {a b d : ℕ} → IsAbove cs a b → Contains (supertypes_of cs b) d → IsAbove cs a d
above_then cs (next h) k = further h (next k)
above_then cs (further h r) k = further h (above_then cs r k)

pub nothing_in : {A : Type 0} (x : A) → Contains [] x → ⊥
nothing_in x c = omega (arith, c.1)

pub equal : (j k : ℕ) → j < k + 1 → k ≤ j → j ≡ k
equal j k lt le = omega (arith, lt, le)

line_push : (way : List Step) (x : Step) → line (way ++ x ∷ []) ≡ line way ++ x.class ∷ []
line_push way x = map_push (λ (y : Step). y.class) way x

length_line : (way : List Step) → length (line way) ≡ length way
length_line [] = refl
length_line (x ∷ xs) = ap suc (length_line xs)

-- ---- what is left to look at

-- at the classes that are not begun
abbrev pub waiting : Classes → List Bool → ℕ
waiting [] bs = 0
waiting (x ∷ xs) [] = 0
waiting (x ∷ xs) (b ∷ bs) = cond b 0 (length (named_by (Some x)) + 1) + waiting xs bs

-- at a step, and one more to take it off
abbrev pub left : Classes → Step → ℕ
left cs x = (length (supertypes_of cs x.class) - x.looked_at) + 1

abbrev all_left : Classes → Climb → ℕ
all_left cs s = waiting cs s.is_begun + sum_by (left cs) s.way

waiting_set : (cs : Classes) (bs : List Bool) (c : ℕ) → length bs ≡ length cs → get_or bs c true ≡ false → waiting cs (set bs c true) + (length (supertypes_of cs c) + 1) ≡ waiting cs bs
unfolding supertypes_of
waiting_set [] [] c e new = absurd (true≢false new)
waiting_set [] (b ∷ bs) c e new = absurd (omega (arith, e))
waiting_set (x ∷ xs) [] c e new = absurd (true≢false new)
waiting_set (x ∷ xs) (true ∷ bs) zero e new = absurd (true≢false new)
waiting_set (x ∷ xs) (false ∷ bs) zero e new = omega arith
waiting_set (x ∷ xs) (b ∷ bs) (suc c) e new = further_on (waiting_set xs bs c (omega (arith, e)) new) where
  further_on : waiting xs (set bs c true) + (length (named_by (slice_get xs c)) + 1) ≡ waiting xs bs → (cond b 0 (length (named_by (Some x)) + 1) + waiting xs (set bs c true)) + (length (named_by (slice_get xs c)) + 1) ≡ cond b 0 (length (named_by (Some x)) + 1) + waiting xs bs
  further_on h = omega (arith, h)

-- ---- one class is begun

abbrev with_it : Climb → ℕ → Climb
with_it s d = record { is_begun = set s.is_begun d true; way = s.way ++ record { class = d; looked_at = 0 } ∷ []; order = s.order }

begun_within : (flags : List Bool) (d : ℕ) → get_or flags d true ≡ false → d < length flags
begun_within flags d new = elim (cases_lt d (length flags)) [ inl lt ↦ lt | inr le ↦ absurd (true≢false (sym (get_or_past flags d true le) ∙ new)) ]

keeps_flag : (flags : List Bool) (d c : ℕ) → d < length flags → get_or flags c true ≡ true → get_or (set flags d true) c true ≡ true
keeps_flag flags d c lt h = elim (eqb_tells c d) [ inl is ↦ ap (λ k. get_or (set flags d true) k true) is.1 ∙ get_or-set_same flags d true true lt | inr is ↦ get_or-set_other flags d c true true is.1 ∙ h ]

pub keeps_begun : (s : Climb) (d c : ℕ) → is_begun s c ≡ true → is_begun (begun s d) c ≡ true
keeps_begun s d c h = by (is_begun s d) refl where
  by : (b : Bool) → is_begun s d ≡ b → is_begun (cond b s (with_it s d)) c ≡ true
  by true e = h
  by false e = keeps_flag s.is_begun d c (begun_within s.is_begun d e) h

pub begun_then : (s : Climb) (d : ℕ) → is_begun (begun s d) d ≡ true
begun_then s d = by (is_begun s d) refl where
  by : (b : Bool) → is_begun s d ≡ b → is_begun (cond b s (with_it s d)) d ≡ true
  by true e = e
  by false e = get_or-set_same s.is_begun d true true (begun_within s.is_begun d e)

module _ (cs : Classes) where
  abbrev IsLine : List ℕ → Type 0
  IsLine l = (i j : ℕ) → i < j → j < length l → IsAbove cs (get_or l i 0) (get_or l j 0)

  longer_line : (l : List ℕ) (d : ℕ) → IsLine l → ((c : ℕ) → Contains l c → IsAbove cs c d) → IsLine (l ++ d ∷ [])
  longer_line l d so below i j lt within =
      elim (cases_lt j (length l)) [
        | inl inside ↦
            subst (λ a. IsAbove cs a (get_or (l ++ d ∷ []) j 0)) (sym (get_or_append_left l (d ∷ []) 0 i (omega (arith, lt, inside))))
            (subst (IsAbove cs (get_or l i 0)) (sym (get_or_append_left l (d ∷ []) 0 j inside)) (so i j lt inside))
        | inr last ↦
            let at : j ≡ length l = equal j (length l) (omega (arith, within, length_push l d)) last in
            let before : i < length l = omega (arith, lt, at) in
            subst (λ a. IsAbove cs a (get_or (l ++ d ∷ []) j 0)) (sym (get_or_append_left l (d ∷ []) 0 i before))
            (subst (IsAbove cs (get_or l i 0)) (sym (get_or_push l d 0 j (sym at))) (below (get_or l i 0) (Contains-get_or l i 0 before)))
      ]

  module _ (s : Climb) (d : ℕ) (so : IsClimb cs s) (new : is_begun s d ≡ false) (below : (c : ℕ) → Contains (line s.way) c → IsAbove cs c d) where
    within : d < length s.is_begun
    within = begun_within s.is_begun d new

    abbrev step : Step
    step = record { class = d; looked_at = 0 }

    counts_with_it : sum_by one_if_not (set s.is_begun d true) + length (s.way ++ step ∷ []) + length s.order ≡ length cs
    counts_with_it =
        let one : one_if_not (get_or s.is_begun d true) ≡ 1 = ap one_if_not new in
        let sum : sum_by one_if_not (set s.is_begun d true) + one_if_not (get_or s.is_begun d true) ≡ sum_by one_if_not s.is_begun + 0 = sum_by-set one_if_not s.is_begun d true true within in
        omega (arith, one, sum, length_push s.way step, so.counts)

    on_way_with_it : (c : ℕ) → Contains (line (s.way ++ step ∷ [])) c → c < length cs
    on_way_with_it c h =
        elim (Contains-push_cases (line s.way) d c (subst (λ l. Contains l c) (line_push s.way step) h)) [
          | inl there ↦ so.on_way c there
          | inr is ↦ subst (λ k. k < length cs) is (subst (λ k. d < k) so.long within)
        ]

    known_with_it : (c : ℕ) → get_or (set s.is_begun d true) c false ≡ true → Contains (line (s.way ++ step ∷ [])) c ⊎ Contains s.order c
    known_with_it c h =
        elim (eqb_tells c d) [
          | inl is ↦ inl (subst (λ l. Contains l c) (sym (line_push s.way step)) (subst (Contains (line s.way ++ d ∷ [])) (sym is.1) (Contains-push (line s.way) d)))
          | inr is ↦
              elim (so.known c (sym (get_or-set_other s.is_begun d c true false is.1) ∙ h)) [
                | inl there ↦ inl (subst (λ l. Contains l c) (sym (line_push s.way step)) (Contains-append_left (line s.way) (d ∷ []) c there))
                | inr there ↦ inr there
              ]
        ]

    one_begun : IsClimb cs (with_it s d)
    one_begun =
        record {
          long = length-set s.is_begun d true ∙ so.long;
          counts = counts_with_it;
          on_way = on_way_with_it;
          numbers = so.numbers;
          known = known_with_it;
          before = so.before;
          above = subst IsLine (sym (line_push s.way step)) (longer_line (line s.way) d so.above below);
        }

    left_with_it : all_left cs (with_it s d) ≡ all_left cs s
    left_with_it = omega (arith, waiting_set cs s.is_begun d so.long new, sum_by_push (left cs) s.way step)

  begun_climbs : (s : Climb) (d : ℕ) → IsClimb cs s → ((c : ℕ) → Contains (line s.way) c → IsAbove cs c d) → IsClimb cs (begun s d)
  begun_climbs s d so below = by (is_begun s d) refl where
    by : (b : Bool) → is_begun s d ≡ b → IsClimb cs (cond b s (with_it s d))
    by true e = so
    by false e = one_begun s d so e below

  left_begun : (s : Climb) (d : ℕ) → IsClimb cs s → ((c : ℕ) → Contains (line s.way) c → IsAbove cs c d) → all_left cs (begun s d) ≡ all_left cs s
  left_begun s d so below = by (is_begun s d) refl where
    by : (b : Bool) → is_begun s d ≡ b → all_left cs (cond b s (with_it s d)) ≡ all_left cs s
    by true e = refl
    by false e = left_with_it s d so e below

  looked_begun : (s : Climb) (d : ℕ) → All (IsLookedAt cs (begun s d).is_begun) s.way → All (IsLookedAt cs (begun s d).is_begun) (begun s d).way
  looked_begun s d = by (is_begun s d) where
    by : (b : Bool) → All (IsLookedAt cs (cond b s (with_it s d)).is_begun) s.way → All (IsLookedAt cs (cond b s (with_it s d)).is_begun) (cond b s (with_it s d)).way
    by true h = h
    by false h = All-push (IsLookedAt cs (set s.is_begun d true)) s.way (record { class = d; looked_at = 0 }) h (λ j lt. absurd (omega (arith, lt)))

  -- ---- a step of the way

  module _ (no_cycles : (c : ℕ) → IsAbove cs c c → ⊥) (flags : List Bool) (front : List Step) (x : Step) (order : List ℕ) (so : IsClimb cs (record { is_begun = flags; way = front ++ x ∷ []; order = order })) (looks : All (IsLookedAt cs flags) (front ++ x ∷ [])) where
    abbrev names : List ℕ
    names = supertypes_of cs x.class

    the_line : IsLine (line front ++ x.class ∷ [])
    the_line = subst IsLine (line_push front x) so.above

    -- what the last class on the way names is above each
    above_each : (d : ℕ) → Contains names d → (c : ℕ) → Contains (line front ++ x.class ∷ []) c → IsAbove cs c d
    above_each d h c there =
        elim (Contains-push_cases (line front) x.class c there) [
          | inl (k, lt, e) ↦
              let up : IsAbove cs (get_or (line front ++ x.class ∷ []) k 0) (get_or (line front ++ x.class ∷ []) (length (line front)) 0) = the_line k (length (line front)) lt (omega (arith, length_push (line front) x.class)) in
              let low : get_or (line front ++ x.class ∷ []) k 0 ≡ c = get_or_append_left (line front) (x.class ∷ []) 0 k lt ∙ get_or_default (line front) k 0 c lt ∙ e in
              above_then cs (subst (λ a. IsAbove cs a x.class) low (subst (IsAbove cs (get_or (line front ++ x.class ∷ []) k 0)) (get_or_push (line front) x.class 0 (length (line front)) refl) up)) h
          | inr is ↦ subst (λ a. IsAbove cs a d) is (next h)
        ]

    at_last : IsLookedAt cs flags x
    at_last = subst (IsLookedAt cs flags) (get_or_push front x x (length front) refl) (looks (length front) x (omega (arith, length_push front x)))

    looks_front : All (IsLookedAt cs flags) front
    looks_front = (All-pop (IsLookedAt cs flags) (front ++ x ∷ []) front (Some x) refl looks).0

    -- ---- it was the last one of its class

    module _ (all : length names ≤ x.looked_at) where
      in_order : (d : ℕ) → Contains names d → d < length cs → Contains order d
      in_order d (j, lt, e) within =
          let read : get_or names j 0 ≡ d = get_or_default names j 0 d lt ∙ e in
          let flag : get_or flags d true ≡ true = subst (λ k. get_or flags k true ≡ true) read (at_last j (omega (arith, lt, all))) in
          elim (so.known d (get_or_default flags d false true (subst (λ n. d < n) (sym so.long) within) ∙ flag)) [
            | inl on ↦ absurd (no_cycles d (above_each d (j, lt, e) d (subst (λ l. Contains l d) (line_push front x) on)))
            | inr there ↦ there
          ]

      known : (c : ℕ) → get_or flags c false ≡ true → Contains (line front) c ⊎ Contains (order ++ x.class ∷ []) c
      known c h =
          elim (so.known c h) [
            | inl on ↦
                elim (Contains-push_cases (line front) x.class c (subst (λ l. Contains l c) (line_push front x) on)) [
                  | inl there ↦ inl there
                  | inr is ↦ inr (subst (Contains (order ++ x.class ∷ [])) is (Contains-push order x.class))
                ]
            | inr there ↦ inr (Contains-append_left order (x.class ∷ []) c there)
          ]

      before : (i : ℕ) → i < length (order ++ x.class ∷ []) → (d : ℕ) → Contains (supertypes_of cs (get_or (order ++ x.class ∷ []) i 0)) d → d < length cs → Contains (take i (order ++ x.class ∷ [])) d
      before i lt d h within =
          elim (cases_lt i (length order)) [
            | inl inside ↦
                subst (λ l. Contains l d) (sym (take-append-le i order (x.class ∷ []) (omega (arith, inside))))
                (so.before i inside d (subst (λ c. Contains (supertypes_of cs c) d) (get_or_append_left order (x.class ∷ []) 0 i inside) h) within)
            | inr past ↦
                let at : i ≡ length order = equal i (length order) (omega (arith, lt, length_push order x.class)) past in
                subst (λ l. Contains l d) (sym (take_at order (x.class ∷ []) i (sym at)))
                (in_order d (subst (λ c. Contains (supertypes_of cs c) d) (get_or_push order x.class 0 i (sym at)) h) within)
          ]

      last_on_way : Contains (line (front ++ x ∷ [])) x.class
      last_on_way = subst (λ l. Contains l x.class) (sym (line_push front x)) (Contains-push (line front) x.class)

      numbers : (c : ℕ) → Contains (order ++ x.class ∷ []) c → c < length cs
      numbers c h = elim (Contains-push_cases order x.class c h) [ inl there ↦ so.numbers c there | inr is ↦ subst (λ k. k < length cs) is (so.on_way x.class last_on_way) ]

      above : IsLine (line front)
      above i j lt within =
          let inside : j < length (line front ++ x.class ∷ []) = omega (arith, within, length_push (line front) x.class) in
          subst (λ a. IsAbove cs a (get_or (line front) j 0)) (get_or_append_left (line front) (x.class ∷ []) 0 i (omega (arith, lt, within)))
          (subst (IsAbove cs (get_or (line front ++ x.class ∷ []) i 0)) (get_or_append_left (line front) (x.class ∷ []) 0 j within) (the_line i j lt inside))

      class_done : IsClimb cs (record { is_begun = flags; way = front; order = order ++ x.class ∷ [] })
      class_done =
          record {
            long = so.long;
            counts = omega (arith, so.counts, length_push front x, length_push order x.class);
            on_way = λ c h. so.on_way c (subst (λ l. Contains l c) (sym (line_push front x)) (Contains-append_left (line front) (x.class ∷ []) c h));
            numbers = numbers;
            known = known;
            before = before;
            above = above;
          }

    -- ---- it goes on

    abbrev gone_on : Climb
    gone_on = record { is_begun = flags; way = front ++ past x ∷ []; order = order }

    same_line : line (front ++ past x ∷ []) ≡ line (front ++ x ∷ [])
    same_line = line_push front (past x) ∙ sym (line_push front x)

    step_gone_on : IsClimb cs gone_on
    step_gone_on =
        record {
          long = so.long;
          counts = omega (arith, so.counts, length_push front x, length_push front (past x));
          on_way = λ c h. so.on_way c (subst (λ l. Contains l c) same_line h);
          numbers = so.numbers;
          known = λ c h. subst (λ l. Contains l c ⊎ Contains order c) (sym same_line) (so.known c h);
          before = so.before;
          above = subst IsLine (sym same_line) so.above;
        }

    module _ (d : ℕ) (is : slice_get names x.looked_at ≡ Some d) where
      looked_within : x.looked_at < length names
      looked_within = slice_get_within names x.looked_at d is

      read_here : get_or names x.looked_at 0 ≡ d
      read_here = get_or_from_slice_get names x.looked_at d 0 is

      named_here : Contains names d
      named_here = (x.looked_at, looked_within, get_or_from_slice_get names x.looked_at d d is)

      below : (c : ℕ) → Contains (line (front ++ past x ∷ [])) c → IsAbove cs c d
      below c h = above_each d named_here c (subst (λ l. Contains l c) (line_push front (past x)) h)

      keeps_looks : (y : Step) → IsLookedAt cs flags y → IsLookedAt cs (begun gone_on d).is_begun y
      keeps_looks y h j lt = keeps_begun gone_on d (get_or (supertypes_of cs y.class) j 0) (h j lt)

      looks_past : IsLookedAt cs (begun gone_on d).is_begun (past x)
      looks_past j lt =
          elim (cases_lt j x.looked_at) [
            | inl earlier ↦ keeps_looks x at_last j earlier
            | inr here ↦ subst (λ k. is_begun (begun gone_on d) k ≡ true) (sym (ap (λ i. get_or names i 0) (equal j x.looked_at lt here) ∙ read_here)) (begun_then gone_on d)
          ]

      gone_on_climbs : IsClimb cs (begun gone_on d)
      gone_on_climbs = begun_climbs gone_on d step_gone_on below

      gone_on_looks : All (IsLookedAt cs (begun gone_on d).is_begun) (begun gone_on d).way
      gone_on_looks = looked_begun gone_on d (All-push (IsLookedAt cs (begun gone_on d).is_begun) front (past x) (All-weaker (IsLookedAt cs flags) (IsLookedAt cs (begun gone_on d).is_begun) keeps_looks front looks_front) looks_past)

      gone_on_left : all_left cs (begun gone_on d) < waiting cs flags + sum_by (left cs) (front ++ x ∷ [])
      gone_on_left =
          let less : left cs (past x) < left cs x = omega (arith, looked_within) in
          omega (arith, left_begun gone_on d step_gone_on below, less, sum_by_push (left cs) front x, sum_by_push (left cs) front (past x))

    done_left : waiting cs flags + sum_by (left cs) front < waiting cs flags + sum_by (left cs) (front ++ x ∷ [])
    done_left = omega (arith, sum_by_push (left cs) front x)

  -- ---- the loop

  none_past : {A : Type 0} (xs : List A) (i : ℕ) (d : A) → slice_get xs i ≡ None → length xs ≤ i
  none_past {A = A} xs i d e = elim (cases_lt i (length xs)) [ inl lt ↦ absurd (not_none (get_or xs i d) (sym (slice_get-get_or xs i d lt) ∙ e)) | inr le ↦ le ] where
    not_none : (y : A) → Some y ≡ None → ⊥
    not_none y h = cc

  module _ (no_cycles : (c : ℕ) → IsAbove cs c c → ⊥) (n : ℕ) (s : Climb) (front : List Step) (x : Step) (is : s.way ≡ front ++ x ∷ []) (so : IsClimbing cs n s) where
    abbrev popped : Climb
    popped = record { is_begun = s.is_begun; way = front; order = s.order }

    climb_here : IsClimb cs (record { is_begun = s.is_begun; way = front ++ x ∷ []; order = s.order })
    climb_here = subst (λ way. IsClimb cs (record { is_begun = s.is_begun; way = way; order = s.order })) is so.climb

    looks_here : All (IsLookedAt cs s.is_begun) (front ++ x ∷ [])
    looks_here = subst (All (IsLookedAt cs s.is_begun)) is so.looked_at

    pub look_climbs : (t : Climb) → t ≡ looked cs popped x → IsClimbing cs n t
    look_climbs t e = subst (IsClimbing cs n) (sym e) (by (slice_get (supertypes_of cs x.class) x.looked_at) refl) where
      by : (o : Option ℕ) → slice_get (supertypes_of cs x.class) x.looked_at ≡ o → IsClimbing cs n (onward popped x o)
      by None h =
          record {
            climb = class_done no_cycles s.is_begun front x s.order climb_here looks_here (none_past (supertypes_of cs x.class) x.looked_at 0 h);
            looked_at = looks_front no_cycles s.is_begun front x s.order climb_here looks_here;
            begun = so.begun;
          }
      by (Some d) h =
          record {
            climb = gone_on_climbs no_cycles s.is_begun front x s.order climb_here looks_here d h;
            looked_at = gone_on_looks no_cycles s.is_begun front x s.order climb_here looks_here d h;
            begun = λ c lt. keeps_begun (gone_on no_cycles s.is_begun front x s.order climb_here looks_here) d c (so.begun c lt);
          }

    pub look_shrinks : (t : Climb) → t ≡ looked cs popped x → all_left cs t < all_left cs s
    look_shrinks t e = subst (λ u. all_left cs u < all_left cs s) (sym e) (subst (λ way. all_left cs (looked cs popped x) < waiting cs s.is_begun + sum_by (left cs) way) (sym is) (by (slice_get (supertypes_of cs x.class) x.looked_at) refl)) where
      by : (o : Option ℕ) → slice_get (supertypes_of cs x.class) x.looked_at ≡ o → all_left cs (onward popped x o) < waiting cs s.is_begun + sum_by (left cs) (front ++ x ∷ [])
      by None h = done_left no_cycles s.is_begun front x s.order climb_here looks_here
      by (Some d) h = gone_on_left no_cycles s.is_begun front x s.order climb_here looks_here d h

  pub climb_begins : (n : ℕ) (s t : Climb) → HasClimbed cs n s → t ≡ begun s n → IsClimbing cs (n + 1) t
  climb_begins n s t so e =
      subst (IsClimbing cs (n + 1)) (sym e)
      (record {
        climb = begun_climbs s n so.climbing.climb (λ c h. absurd (nothing_in c (subst (λ way. Contains (line way) c) so.ended h)));
        looked_at = looked_begun s n (subst (All (IsLookedAt cs (begun s n).is_begun)) (sym so.ended) (All-nil (IsLookedAt cs (begun s n).is_begun)));
        begun = all_begun;
      })
    where
      all_begun : (c : ℕ) → c < n + 1 → is_begun (begun s n) c ≡ true
      all_begun c lt =
          elim (cases_lt c n) [
            | inl below ↦ keeps_begun s n c (so.climbing.begun c below)
            | inr here ↦ subst (λ k. is_begun (begun s n) k ≡ true) (sym (equal c n lt here)) (begun_then s n)
          ]

  pub none_climbed : (s : Climb) → s ≡ not_begun (length cs) → HasClimbed cs 0 s
  none_climbed s e = subst (HasClimbed cs 0) (sym e) (record { climbing = record { climb = start; looked_at = All-nil (IsLookedAt cs (replicate (length cs) false)); begun = λ c lt. absurd (omega (arith, lt)) }; ended = refl }) where
    none_flagged : (c : ℕ) → get_or (replicate (length cs) false) c false ≡ true → ⊥
    none_flagged c h =
        elim (cases_lt c (length cs)) [
          | inl lt ↦ true≢false (sym h ∙ get_or-replicate (length cs) c false false lt)
          | inr le ↦ true≢false (sym h ∙ get_or_past (replicate (length cs) false) c false (subst (λ k. k ≤ c) (sym (length-replicate (length cs) false)) le))
        ]

    start : IsClimb cs (not_begun (length cs))
    start =
        record {
          long = length-replicate (length cs) false;
          counts = omega (arith, sum_by-replicate one_if_not (length cs) false);
          on_way = λ c h. absurd (nothing_in c h);
          numbers = λ c h. absurd (nothing_in c h);
          known = λ c h. absurd (none_flagged c h);
          before = λ i lt. absurd (omega (arith, lt));
          above = λ i j lt within. absurd (omega (arith, within));
        }

  -- ---- its end

  none_unflagged : (flags : List Bool) → ((c : ℕ) → c < length flags → get_or flags c true ≡ true) → sum_by one_if_not flags ≡ 0
  none_unflagged flags h = all_zero flags h where
    all_zero : (bs : List Bool) → ((c : ℕ) → c < length bs → get_or bs c true ≡ true) → sum_by one_if_not bs ≡ 0
    all_zero bs k = ap (sum_by one_if_not) (all_same bs k) ∙ sum_by-replicate one_if_not (length bs) true ∙ omega arith where
      all_same : (bs : List Bool) → ((c : ℕ) → c < length bs → get_or bs c true ≡ true) → bs ≡ replicate (length bs) true
      all_same [] k = refl
      all_same (b ∷ bs) k = ap (λ a. a ∷ bs) (k 0 (omega arith)) ∙ ap (λ l. true ∷ l) (all_same bs (λ c lt. k (suc c) (omega (arith, lt))))

  pub all_climbed : (n : ℕ) (s : Climb) → HasClimbed cs n s → length cs ≤ n → IsUpward cs s.order
  all_climbed n s so le = record { long = long; numbers = so.climbing.climb.numbers; all = all; before = so.climbing.climb.before } where
    flagged : (c : ℕ) → c < length cs → get_or s.is_begun c true ≡ true
    flagged c lt = so.climbing.begun c (omega (arith, lt, le))

    long : length s.order ≡ length cs
    long =
        let none : sum_by one_if_not s.is_begun ≡ 0 = none_unflagged s.is_begun (λ c lt. flagged c (subst (λ k. c < k) so.climbing.climb.long lt)) in
        let empty : length s.way ≡ 0 = ap length so.ended in
        omega (arith, so.climbing.climb.counts, none, empty)

    all : (c : ℕ) → c < length cs → Contains s.order c
    all c lt =
        elim (so.climbing.climb.known c (get_or_default s.is_begun c false true (subst (λ k. c < k) (sym so.climbing.climb.long) lt) ∙ flagged c lt)) [
          | inl on ↦ absurd (nothing_in c (subst (λ way. Contains (line way) c) so.ended on))
          | inr there ↦ there
        ]
