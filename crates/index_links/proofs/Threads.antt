-- Arrays of links that spell lists, and what the calls make of them.
use Rattle.std.proofs.Common.{◌≡◌, ◌≢◌, ℕ, zero, suc, ◌<◌, ◌≤◌, true, false, List, [], ◌∷◌, ◌++◌, length, refl, sym, ap, ◌∙◌, arith, subst, inl, inr, ⊎_elim, ◌⊎◌, set, Option, Some, None, nat_eq, replicate}
use Rattle.std.proofs.lemmas.Bool.{true≢false}
use Rattle.std.proofs.lemmas.List.{get_or-set_same, get_or-set_other, length-set, ext_get_or, get_or-map, length-map, get_or_past, length-replicate}
use Rattle.std.proofs.lemmas.List.Folds.{list_any-append}
use Rattle.std.proofs.lemmas.Map.Steps.{length-le_from_distinct_below}
use Rattle.std.specs.List.{IsDistinct, position_from}
use Rattle.std.specs.Prelude.{option_and_then}
use Rattle.index_links.specs.Lists.{is_in, first_of, node_after, without_node, IsApart}
use Rattle.index_links.specs.Arrays.{Arrays, entry_at, pointed, ended, nodes_along, spelled, last_from, before_from, IsThread, at, AreSpelled}
use Rattle.index_links.proofs.Nodes.{by_eq, by_entry, by_test, or_right, in_here, in_there, in_behind, after_here, after_there, before_here, before_there, in_left, in_right, IsSplit, split_of, without_split, once_nil, once_head, once_tail, other_than_head, or_none, once_left, once_right, once_apart, once_cut, once_push, last_some, last_in, last_push, after_last, after_inner, after_past, before_seam, before_any, before_past, before_left, found_at, found_none}

-- an array after one of its links was pointed elsewhere
pub length_pointed : (links : List (Option ℕ)) (from to : Option ℕ) → length (pointed links from to) ≡ length links
length_pointed links None to = refl
length_pointed links (Some node) to = length-set links node to

pub pointed_same : (links : List (Option ℕ)) (from to : Option ℕ) (m : ℕ) → from ≡ Some m → m < length links → entry_at (pointed links from to) m ≡ to
pointed_same links None to m h within = absurd (cc)
pointed_same links (Some node) to m h within = let e : m ≡ node = cc in subst (λ k. entry_at (pointed links (Some k) to) m ≡ to) e (get_or-set_same links m to None within)

pub pointed_other : (links : List (Option ℕ)) (from to : Option ℕ) (m : ℕ) → from ≢ Some m → entry_at (pointed links from to) m ≡ entry_at links m
pointed_other links None to m h = refl
pointed_other links (Some node) to m h = let ne : m ≢ node = λ e. h (ap (λ k. Some k) (sym e)) in get_or-set_other links node m to None ne

pub length_ended : (ends : List (Option ℕ)) (k : ℕ) (from to : Option ℕ) → length (ended ends k from to) ≡ length ends
length_ended ends k None to = length-set ends k to
length_ended ends k (Some node) to = refl

pub ended_other : (ends : List (Option ℕ)) (k j : ℕ) (from to : Option ℕ) → j ≢ k → entry_at (ended ends k from to) j ≡ entry_at ends j
ended_other ends k j None to ne = get_or-set_other ends k j to None ne
ended_other ends k j (Some node) to ne = refl

pub ended_none : (ends : List (Option ℕ)) (k : ℕ) (from to : Option ℕ) → k < length ends → from ≡ None → entry_at (ended ends k from to) k ≡ to
ended_none ends k None to within h = get_or-set_same ends k to None within
ended_none ends k (Some node) to within h = absurd (cc)

pub ended_some : (ends : List (Option ℕ)) (k : ℕ) (from to : Option ℕ) (m : ℕ) → from ≡ Some m → entry_at (ended ends k from to) k ≡ entry_at ends k
ended_some ends k None to m h = absurd (cc)
ended_some ends k (Some node) to m h = refl

-- an entry that names something lies in the array
pub entry_within : (xs : List (Option ℕ)) (i m : ℕ) → entry_at xs i ≡ Some m → i < length xs
entry_within [] i m h = absurd (cc)
entry_within (x ∷ xs) zero m h = omega arith
entry_within (x ∷ xs) (suc i) m h = let rest = entry_within xs i m h in omega arith

-- the nodes along the links of a thread
along_nothing : (k : ℕ) (next : List (Option ℕ)) → nodes_along k next None ≡ []
along_nothing zero next = refl
along_nothing (suc k) next = refl

pub along_thread : (xs : List ℕ) (k : ℕ) (next : List (Option ℕ)) → IsDistinct nat_eq xs → ((m : ℕ) → is_in m xs ≡ true → entry_at next m ≡ node_after m xs) → length xs ≤ k → nodes_along k next (first_of xs) ≡ xs
along_thread [] k next once each within = along_nothing k next
along_thread (x ∷ xs) zero next once each within = absurd (omega arith)
along_thread (x ∷ xs) (suc k) next once each within =
    let here : entry_at next x ≡ first_of xs = each x (in_here x xs) ∙ after_here x xs in
    ap (λ at_x. x ∷ nodes_along k next at_x) here
    ∙ ap (λ ys. x ∷ ys)
    (along_thread xs k next (once_tail x xs once)
    (λ m h. each m (in_behind m x xs h) ∙ after_there m x xs (other_than_head m x xs once h)) (omega arith))

-- a thread whose nodes' links did not change
pub thread_kept : (next previous next' previous' : ℕ → Option ℕ) (xs : List ℕ) (first last first' last' : Option ℕ) → IsThread next previous xs first last
    → first' ≡ first → last' ≡ last → ((m : ℕ) → is_in m xs ≡ true → next' m ≡ next m) → ((m : ℕ) → is_in m xs ≡ true → previous' m ≡ previous m)
    → IsThread next' previous' xs first' last'
thread_kept next previous next' previous' xs first last first' last' t f l n p =
    record {
      first_is = f ∙ t.first_is;
      last_is = l ∙ t.last_is;
      next_is = λ m h. n m h ∙ t.next_is m h;
      previous_is = λ m h. p m h ∙ t.previous_is m h;
    }

first_pushed : (xs : List ℕ) (n : ℕ) (first first' last : Option ℕ) → first ≡ first_of xs → last ≡ last_from None xs → (last ≡ None → first' ≡ Some n) → ((m : ℕ) → last ≡ Some m → first' ≡ first) → first' ≡ first_of (xs ++ n ∷ [])
first_pushed [] n first first' last f l none some = none l
first_pushed (x ∷ xs) n first first' last f l none some = let m = last_some x xs in some m.0 (l ∙ m.1) ∙ f

pushed_after : (xs : List ℕ) (n m : ℕ) → IsDistinct nat_eq xs → last_from None xs ≡ Some m → node_after m (xs ++ n ∷ []) ≡ Some n
pushed_after [] n m once h = absurd (cc)
pushed_after (x ∷ xs) n m once h = after_last m x xs (n ∷ []) once h

pushed_inner : (xs ys : List ℕ) (m : ℕ) → is_in m xs ≡ true → last_from None xs ≢ Some m → node_after m (xs ++ ys) ≡ node_after m xs
pushed_inner [] ys m h other = absurd (true≢false (sym h))
pushed_inner (x ∷ xs) ys m h other = after_inner m x xs ys h other

either_in : (m n : ℕ) (xs : List ℕ) → m ≢ n → is_in m (xs ++ n ∷ []) ≡ true → is_in m xs ≡ true
either_in m n xs ne h =
    by_test (is_in m xs) (is_in m xs ≡ true) (λ e. e)
    (λ e. absurd (true≢false (sym h ∙ in_right m xs (n ∷ []) e ∙ in_there m n [] ne)))

-- a thread with a node behind all others
pub thread_pushed : (next previous next' previous' : ℕ → Option ℕ) (xs : List ℕ) (n : ℕ) (first last first' : Option ℕ)
    → IsDistinct nat_eq xs → is_in n xs ≡ false → IsThread next previous xs first last
    → (last ≡ None → first' ≡ Some n) → ((m : ℕ) → last ≡ Some m → first' ≡ first)
    → ((m : ℕ) → last ≡ Some m → next' m ≡ Some n) → ((m : ℕ) → last ≢ Some m → next' m ≡ next m) → next n ≡ None
    → ((m : ℕ) → m ≢ n → previous' m ≡ previous m) → previous' n ≡ last
    → IsThread next' previous' (xs ++ n ∷ []) first' (Some n)
thread_pushed next previous next' previous' xs n first last first' once fresh t first_new first_old next_new next_old next_none previous_old previous_new =
    record {
      first_is = first_pushed xs n first first' last t.first_is t.last_is first_new first_old;
      last_is = sym (last_push None xs n []);
      next_is = λ m h.
          by_eq m n (next' m ≡ node_after m (xs ++ n ∷ []))
          (λ e. subst (λ k. next' k ≡ node_after k (xs ++ n ∷ [])) (sym e)
          (next_old n (λ is. not_last is) ∙ next_none ∙ sym (after_past n xs (n ∷ []) fresh ∙ after_here n [])))
          (λ ne. let inside = either_in m n xs ne h in
          by_entry last m (next' m ≡ node_after m (xs ++ n ∷ []))
          (λ is. next_new m is ∙ sym (pushed_after xs n m once (sym t.last_is ∙ is)))
          (λ other. next_old m other ∙ t.next_is m inside ∙ sym (pushed_inner xs (n ∷ []) m inside (λ is. other (t.last_is ∙ is)))));
      previous_is = λ m h.
          by_eq m n (previous' m ≡ before_from None m (xs ++ n ∷ []))
          (λ e. subst (λ k. previous' k ≡ before_from None k (xs ++ n ∷ [])) (sym e)
          (previous_new ∙ t.last_is ∙ sym (before_seam None n xs [] fresh)))
          (λ ne. let inside = either_in m n xs ne h in previous_old m ne ∙ t.previous_is m inside ∙ sym (before_left None m xs (n ∷ []) inside));
    }
  where
    in_last : (ys : List ℕ) → last_from None ys ≡ Some n → is_in n ys ≡ true
    in_last [] h = absurd (cc)
    in_last (y ∷ ys) h = last_in y ys n h

    not_last : last ≢ Some n
    not_last is = true≢false (sym (in_last xs (sym t.last_is ∙ is)) ∙ fresh)

-- what stands on either side of a node
pub cut_after : (front back : List ℕ) (n : ℕ) → is_in n front ≡ false → node_after n (front ++ n ∷ back) ≡ first_of back
cut_after front back n fresh = after_past n front (n ∷ back) fresh ∙ after_here n back

first_cut : (front back : List ℕ) (n : ℕ) (first' first : Option ℕ) → first ≡ first_of (front ++ n ∷ back) → (last_from None front ≡ None → first' ≡ first_of back) → ((m : ℕ) → last_from None front ≡ Some m → first' ≡ first) → first' ≡ first_of (front ++ back)
first_cut [] back n first' first f none some = none refl
first_cut (x ∷ front) back n first' first f none some = let m = last_some x front in some m.0 m.1 ∙ f

last_over : (p : Option ℕ) (front back : List ℕ) → last_from p (front ++ back) ≡ last_from (last_from p front) back
last_over p [] back = refl
last_over p (x ∷ front) back = last_over (Some x) front back

last_cut : (front back : List ℕ) (n : ℕ) (last' last : Option ℕ) → last ≡ last_from None (front ++ n ∷ back) → (first_of back ≡ None → last' ≡ last_from None front) → ((m : ℕ) → first_of back ≡ Some m → last' ≡ last) → last' ≡ last_from None (front ++ back)
last_cut front [] n last' last l none some = none refl ∙ sym (last_over None front [])
last_cut front (y ∷ back) n last' last l none some = some y refl ∙ l ∙ last_push None front n (y ∷ back) ∙ sym (last_push None front y back)

cut_after_last : (front ys : List ℕ) (m : ℕ) → IsDistinct nat_eq front → last_from None front ≡ Some m → node_after m (front ++ ys) ≡ first_of ys
cut_after_last [] ys m once h = absurd (cc)
cut_after_last (x ∷ front) ys m once h = after_last m x front ys once h

first_in : (ys : List ℕ) (m : ℕ) → first_of ys ≡ Some m → is_in m ys ≡ true
first_in [] m h = absurd (cc)
first_in (y ∷ ys) m h = let e : m ≡ y = cc in ap (λ k. is_in m (k ∷ ys)) (sym e) ∙ in_here m ys

before_first : (p : Option ℕ) (ys : List ℕ) (m : ℕ) → first_of ys ≡ Some m → before_from p m ys ≡ p
before_first p [] m h = absurd (cc)
before_first p (y ∷ ys) m h = let e : m ≡ y = cc in ap (λ k. before_from p m (k ∷ ys)) (sym e) ∙ before_here p m ys

last_inside : (front : List ℕ) (m : ℕ) → last_from None front ≡ Some m → is_in m front ≡ true
last_inside [] m h = absurd (cc)
last_inside (x ∷ front) m h = last_in x front m h

-- a thread without a node
pub thread_cut : (next previous next' previous' : ℕ → Option ℕ) (front back : List ℕ) (n : ℕ) (first last first' last' : Option ℕ)
    → IsDistinct nat_eq (front ++ n ∷ back) → is_in n front ≡ false → IsThread next previous (front ++ n ∷ back) first last
    → (last_from None front ≡ None → first' ≡ first_of back) → ((m : ℕ) → last_from None front ≡ Some m → first' ≡ first)
    → (first_of back ≡ None → last' ≡ last_from None front) → ((m : ℕ) → first_of back ≡ Some m → last' ≡ last)
    → ((m : ℕ) → m ≢ n → last_from None front ≡ Some m → next' m ≡ first_of back) → ((m : ℕ) → m ≢ n → last_from None front ≢ Some m → next' m ≡ next m)
    → ((m : ℕ) → m ≢ n → first_of back ≡ Some m → previous' m ≡ last_from None front) → ((m : ℕ) → m ≢ n → first_of back ≢ Some m → previous' m ≡ previous m)
    → IsThread next' previous' (front ++ back) first' last'
thread_cut next previous next' previous' front back n first last first' last' once fresh t f_none f_some l_none l_some n_new n_old p_new p_old =
    record {
      first_is = first_cut front back n first' first t.first_is f_none f_some;
      last_is = last_cut front back n last' last t.last_is l_none l_some;
      next_is = λ m h. by_test (is_in m front) (next' m ≡ node_after m (front ++ back)) (next_front m) (λ out. next_back m out (sym (in_right m front back out) ∙ h));
      previous_is = λ m h. by_test (is_in m front) (previous' m ≡ before_from None m (front ++ back)) (previous_front m) (λ out. previous_back m out (sym (in_right m front back out) ∙ h));
    }
  where
    once_back : IsDistinct nat_eq (n ∷ back)
    once_back = once_right front (n ∷ back) once

    front_other : (m : ℕ) → is_in m front ≡ true → m ≢ n
    front_other m h e = true≢false (sym h ∙ ap (λ k. is_in k front) e ∙ fresh)

    back_other : (m : ℕ) → is_in m back ≡ true → m ≢ n
    back_other m h = other_than_head m n back once_back h

    front_not_back : (m : ℕ) → is_in m front ≡ true → is_in m back ≡ false
    front_not_back m h = (or_none (nat_eq m n) (is_in m back) (once_apart m front (n ∷ back) once h)).1

    next_front : (m : ℕ) → is_in m front ≡ true → next' m ≡ node_after m (front ++ back)
    next_front m h =
        by_entry (last_from None front) m (next' m ≡ node_after m (front ++ back))
        (λ is. n_new m (front_other m h) is ∙ sym (cut_after_last front back m (once_left front (n ∷ back) once) is))
        (λ other. n_old m (front_other m h) other ∙ t.next_is m (in_left m front (n ∷ back) h) ∙ pushed_inner front (n ∷ back) m h other ∙ sym (pushed_inner front back m h other))

    next_back : (m : ℕ) → is_in m front ≡ false → is_in m back ≡ true → next' m ≡ node_after m (front ++ back)
    next_back m out h =
        let other : last_from None front ≢ Some m = λ is. true≢false (sym (last_inside front m is) ∙ out) in
        n_old m (back_other m h) other ∙ t.next_is m (in_right m front (n ∷ back) out ∙ in_behind m n back h)
        ∙ after_past m front (n ∷ back) out ∙ after_there m n back (back_other m h) ∙ sym (after_past m front back out)

    previous_front : (m : ℕ) → is_in m front ≡ true → previous' m ≡ before_from None m (front ++ back)
    previous_front m h =
        let other : first_of back ≢ Some m = λ is. true≢false (sym (first_in back m is) ∙ front_not_back m h) in
        p_old m (front_other m h) other ∙ t.previous_is m (in_left m front (n ∷ back) h) ∙ before_left None m front (n ∷ back) h ∙ sym (before_left None m front back h)

    previous_back : (m : ℕ) → is_in m front ≡ false → is_in m back ≡ true → previous' m ≡ before_from None m (front ++ back)
    previous_back m out h =
        by_entry (first_of back) m (previous' m ≡ before_from None m (front ++ back))
        (λ is. p_new m (back_other m h) is ∙ sym (before_past None m front back out ∙ before_first (last_from None front) back m is))
        (λ other. p_old m (back_other m h) other ∙ t.previous_is m (in_right m front (n ∷ back) out ∙ in_behind m n back h)
        ∙ before_past None m front (n ∷ back) out ∙ before_there (last_from None front) m n back (back_other m h)
        ∙ before_any (Some n) (last_from None front) m back other h ∙ sym (before_past None m front back out))

-- arrays spell no lists but these
pub lists_length : (a : Arrays) (lists : List (List ℕ)) → AreSpelled a lists → (k : ℕ) → length (at lists k) ≤ length a.next
lists_length a lists s k =
    length-le_from_distinct_below (at lists k) (length a.next) (s.distinct k)
    (λ q h. let within = entry_within a.list q k (s.named k q h) in let room = s.list_room in omega arith)

pub spelled_is : (a : Arrays) (lists : List (List ℕ)) → AreSpelled a lists → spelled a ≡ lists
spelled_is a lists s =
    ext_get_or [] (spelled a) lists (length-map a.first (nodes_along (length a.next) a.next) ∙ sym s.lists_room)
    (λ k within.
    let below : k < length a.first = omega (arith, length-map a.first (nodes_along (length a.next) a.next)) in
    let thread = s.threads k below in
    get_or-map (nodes_along (length a.next) a.next) a.first k None [] below
    ∙ ap (nodes_along (length a.next) a.next) thread.first_is
    ∙ along_thread (at lists k) (length a.next) a.next (s.distinct k) thread.next_is (lists_length a lists s k))

-- the list that a node's entry names is the one that has it
pub list_with_entry : (a : Arrays) (lists : List (List ℕ)) (n : ℕ) → AreSpelled a lists → position_from (is_in n) 0 lists ≡ entry_at a.list n
list_with_entry a lists n s = go (entry_at a.list n) refl
  where
    go : (o : Option ℕ) → entry_at a.list n ≡ o → position_from (is_in n) 0 lists ≡ o
    go None e = found_none (is_in n) lists 0 (λ j. by_test (is_in n (at lists j)) (is_in n (at lists j) ≡ false) (λ h. absurd (let wrong = sym (s.named j n h) ∙ e in (cc))) (λ h. h))
    go (Some k) e = found_at (is_in n) lists 0 k refl (s.holds k n e) (λ j h. let both : Some j ≡ Some k = sym (s.named j n h) ∙ e in (cc)) ∙ ap (λ i. Some i) (omega arith)

pub apart_of : (a : Arrays) (lists : List (List ℕ)) → AreSpelled a lists → IsApart (record { nodes = length a.next; lists = lists })
apart_of a lists s =
    record {
      exists = λ k n h. let within = entry_within a.list n k (s.named k n h) in let room = s.list_room in omega arith;
      once = s.distinct;
      one = λ j k n hj hk. let both : Some j ≡ Some k = sym (s.named j n hj) ∙ s.named k n hk in (cc);
    }

pub next_entry : (a : Arrays) (lists : List (List ℕ)) (n : ℕ) → AreSpelled a lists → option_and_then (λ list. node_after n (at lists list)) (position_from (is_in n) 0 lists) ≡ entry_at a.next n
next_entry a lists n s = ap (option_and_then (λ list. node_after n (at lists list))) (list_with_entry a lists n s) ∙ go (entry_at a.list n) refl
  where
    below : (k : ℕ) → is_in n (at lists k) ≡ true → k < length a.first
    below k h =
        ⊎_elim (λ (past : length lists ≤ k). absurd (true≢false (sym h ∙ ap (is_in n) (get_or_past lists k [] past)))) (λ (less : k < length lists). let room = s.lists_room in omega arith) (over k (length lists))
      where
        over : (i j : ℕ) → (j ≤ i) ⊎ (i < j)
        over i zero = inl (omega arith)
        over zero (suc j) = inr (omega arith)
        over (suc i) (suc j) = ⊎_elim (λ (h : j ≤ i). inl (omega arith)) (λ (h : i < j). inr (omega arith)) (over i j)

    go : (o : Option ℕ) → entry_at a.list n ≡ o → option_and_then (λ list. node_after n (at lists list)) o ≡ entry_at a.next n
    go None e = sym (s.loose n e)
    go (Some k) e = let inside = s.holds k n e in sym ((s.threads k (below k inside)).next_is n inside)

-- a node is pushed
abbrev pub pushed : Arrays → ℕ → ℕ → Arrays
pushed a k n =
    record {
      next = pointed a.next (entry_at a.last k) (Some n);
      previous = set a.previous n (entry_at a.last k);
      list = set a.list n (Some k);
      first = ended a.first k (entry_at a.last k) (Some n);
      last = set a.last k (Some n);
    }

-- the lists with one of them replaced
pub at_same : (lists : List (List ℕ)) (k : ℕ) (xs : List ℕ) → k < length lists → at (set lists k xs) k ≡ xs
at_same lists k xs within = get_or-set_same lists k xs [] within

pub at_other : (lists : List (List ℕ)) (k j : ℕ) (xs : List ℕ) → j ≢ k → at (set lists k xs) j ≡ at lists j
at_other lists k j xs ne = get_or-set_other lists k j xs [] ne

-- what holds of the new list and of each other old one holds of each list
pub by_list : (lists : List (List ℕ)) (k : ℕ) (xs : List ℕ) (P : ℕ → List ℕ → Type 0) → k < length lists → P k xs → ((j : ℕ) → j ≢ k → P j (at lists j)) → (j : ℕ) → P j (at (set lists k xs) j)
by_list lists k xs P within same other j =
    by_eq j k (P j (at (set lists k xs) j))
    (λ e. subst (λ i. P i (at (set lists k xs) i)) (sym e) (subst (P k) (sym (at_same lists k xs within)) same))
    (λ ne. subst (P j) (sym (at_other lists k j xs ne)) (other j ne))

pub not_in : (a : Arrays) (lists : List (List ℕ)) (n : ℕ) (o : Option ℕ) → AreSpelled a lists → entry_at a.list n ≡ o → (j : ℕ) → o ≢ Some j → is_in n (at lists j) ≡ false
not_in a lists n o s e j other = by_test (is_in n (at lists j)) (is_in n (at lists j) ≡ false) (λ h. absurd (other (sym e ∙ s.named j n h))) (λ h. h)

last_of : (a : Arrays) (lists : List (List ℕ)) (k m : ℕ) → AreSpelled a lists → k < length a.first → entry_at a.last k ≡ Some m → is_in m (at lists k) ≡ true
last_of a lists k m s below is = last_inside (at lists k) m (sym (s.threads k below).last_is ∙ is)

pub pushed_spelled : (a : Arrays) (lists : List (List ℕ)) (k n : ℕ) → AreSpelled a lists → k < length a.first → n < length a.next → entry_at a.list n ≡ None
    → AreSpelled (pushed a k n) (set lists k (at lists k ++ n ∷ []))
pushed_spelled a lists k n s list_exists node_exists free =
    record {
      previous_room = length-set a.previous n (entry_at a.last k) ∙ s.previous_room ∙ sym (length_pointed a.next (entry_at a.last k) (Some n));
      list_room = length-set a.list n (Some k) ∙ s.list_room ∙ sym (length_pointed a.next (entry_at a.last k) (Some n));
      last_room = length-set a.last k (Some n) ∙ s.last_room ∙ sym (length_ended a.first k (entry_at a.last k) (Some n));
      lists_room = length-set lists k (at lists k ++ n ∷ []) ∙ s.lists_room ∙ sym (length_ended a.first k (entry_at a.last k) (Some n));
      distinct = by_list lists k (at lists k ++ n ∷ []) (λ j xs. IsDistinct nat_eq xs) in_lists (once_push n (at lists k) (s.distinct k) (outside k)) (λ j ne. s.distinct j);
      named = λ j m. by_list lists k (at lists k ++ n ∷ []) (λ i xs. is_in m xs ≡ true → entry_at (set a.list n (Some k)) m ≡ Some i) in_lists (named_here m) (λ i ne h. named_there i m ne h) j;
      holds = λ j m. by_list lists k (at lists k ++ n ∷ []) (λ i xs. entry_at (set a.list n (Some k)) m ≡ Some i → is_in m xs ≡ true) in_lists (holds_here m) (λ i ne h. holds_there i m ne h) j;
      threads = λ j h. by_list lists k (at lists k ++ n ∷ [])
          (λ i xs. i < length a.first → IsThread (entry_at (pointed a.next (entry_at a.last k) (Some n))) (entry_at (set a.previous n (entry_at a.last k))) xs (entry_at (ended a.first k (entry_at a.last k) (Some n)) i) (entry_at (set a.last k (Some n)) i))
          in_lists (λ _. thread_here) (λ i ne below. thread_there i ne below) j (let room = length_ended a.first k (entry_at a.last k) (Some n) in omega arith);
      loose = λ m h. by_eq m n (entry_at (pointed a.next (entry_at a.last k) (Some n)) m ≡ None)
          (λ e. absurd (let wrong : Some k ≡ None = sym (ap (entry_at (set a.list n (Some k))) e ∙ named_n) ∙ h in (cc)))
          (λ ne. let none : entry_at a.list m ≡ None = sym (get_or-set_other a.list n m (Some k) None ne) ∙ h in
          pointed_other a.next (entry_at a.last k) (Some n) m (λ is. let wrong : Some k ≡ None = sym (s.named k m (last_of a lists k m s list_exists is)) ∙ none in (cc)) ∙ s.loose m none);
    }
  where
    in_lists : k < length lists
    in_lists = let room = s.lists_room in omega arith

    in_list : n < length a.list
    in_list = let room = s.list_room in omega arith

    in_previous : n < length a.previous
    in_previous = let room = s.previous_room in omega arith

    in_last : k < length a.last
    in_last = let room = s.last_room in omega arith

    outside : (j : ℕ) → is_in n (at lists j) ≡ false
    outside j = not_in a lists n None s free j (λ e. (cc))

    named_n : entry_at (set a.list n (Some k)) n ≡ Some k
    named_n = get_or-set_same a.list n (Some k) None in_list

    named_there : (j m : ℕ) → j ≢ k → is_in m (at lists j) ≡ true → entry_at (set a.list n (Some k)) m ≡ Some j
    named_there j m ne h =
        let other : m ≢ n = λ e. true≢false (sym h ∙ ap (λ i. is_in i (at lists j)) e ∙ outside j) in
        get_or-set_other a.list n m (Some k) None other ∙ s.named j m h

    named_here : (m : ℕ) → is_in m (at lists k ++ n ∷ []) ≡ true → entry_at (set a.list n (Some k)) m ≡ Some k
    named_here m h =
        by_eq m n (entry_at (set a.list n (Some k)) m ≡ Some k)
        (λ e. ap (entry_at (set a.list n (Some k))) e ∙ named_n)
        (λ ne. get_or-set_other a.list n m (Some k) None ne ∙ s.named k m (either_in m n (at lists k) ne h))

    holds_there : (j m : ℕ) → j ≢ k → entry_at (set a.list n (Some k)) m ≡ Some j → is_in m (at lists j) ≡ true
    holds_there j m ne h =
        by_eq m n (is_in m (at lists j) ≡ true)
        (λ e. let both : Some k ≡ Some j = sym (ap (entry_at (set a.list n (Some k))) e ∙ named_n) ∙ h in absurd (ne (cc)))
        (λ other. s.holds j m (sym (get_or-set_other a.list n m (Some k) None other) ∙ h))

    holds_here : (m : ℕ) → entry_at (set a.list n (Some k)) m ≡ Some k → is_in m (at lists k ++ n ∷ []) ≡ true
    holds_here m h =
        by_eq m n (is_in m (at lists k ++ n ∷ []) ≡ true)
        (λ e. ap (λ i. is_in i (at lists k ++ n ∷ [])) e ∙ in_right n (at lists k) (n ∷ []) (outside k) ∙ in_here n [])
        (λ other. in_left m (at lists k) (n ∷ []) (s.holds k m (sym (get_or-set_other a.list n m (Some k) None other) ∙ h)))

    thread_here : IsThread (entry_at (pointed a.next (entry_at a.last k) (Some n))) (entry_at (set a.previous n (entry_at a.last k))) (at lists k ++ n ∷ []) (entry_at (ended a.first k (entry_at a.last k) (Some n)) k) (entry_at (set a.last k (Some n)) k)
    thread_here =
        subst (IsThread (entry_at (pointed a.next (entry_at a.last k) (Some n))) (entry_at (set a.previous n (entry_at a.last k))) (at lists k ++ n ∷ []) (entry_at (ended a.first k (entry_at a.last k) (Some n)) k))
        (sym (get_or-set_same a.last k (Some n) None in_last))
        (thread_pushed (entry_at a.next) (entry_at a.previous) (entry_at (pointed a.next (entry_at a.last k) (Some n))) (entry_at (set a.previous n (entry_at a.last k))) (at lists k) n
        (entry_at a.first k) (entry_at a.last k) (entry_at (ended a.first k (entry_at a.last k) (Some n)) k) (s.distinct k) (outside k) (s.threads k list_exists)
        (ended_none a.first k (entry_at a.last k) (Some n) list_exists) (ended_some a.first k (entry_at a.last k) (Some n))
        (λ m is. pointed_same a.next (entry_at a.last k) (Some n) m is (let within = entry_within a.list m k (s.named k m (last_of a lists k m s list_exists is)) in let room = s.list_room in omega arith))
        (pointed_other a.next (entry_at a.last k) (Some n)) (s.loose n free)
        (λ m ne. get_or-set_other a.previous n m (entry_at a.last k) None ne) (get_or-set_same a.previous n (entry_at a.last k) None in_previous))

    thread_there : (j : ℕ) → j ≢ k → j < length a.first → IsThread (entry_at (pointed a.next (entry_at a.last k) (Some n))) (entry_at (set a.previous n (entry_at a.last k))) (at lists j) (entry_at (ended a.first k (entry_at a.last k) (Some n)) j) (entry_at (set a.last k (Some n)) j)
    thread_there j ne below =
        thread_kept (entry_at a.next) (entry_at a.previous) (entry_at (pointed a.next (entry_at a.last k) (Some n))) (entry_at (set a.previous n (entry_at a.last k))) (at lists j)
        (entry_at a.first j) (entry_at a.last j) (entry_at (ended a.first k (entry_at a.last k) (Some n)) j) (entry_at (set a.last k (Some n)) j) (s.threads j below)
        (ended_other a.first k j (entry_at a.last k) (Some n) ne) (get_or-set_other a.last k j (Some n) None ne)
        (λ m h. pointed_other a.next (entry_at a.last k) (Some n) m (λ is. let both : Some k ≡ Some j = sym (s.named k m (last_of a lists k m s list_exists is)) ∙ s.named j m h in ne (sym (cc))))
        (λ m h. get_or-set_other a.previous n m (entry_at a.last k) None (λ e. true≢false (sym h ∙ ap (λ i. is_in i (at lists j)) e ∙ outside j)))

-- a node is taken out, from between these
abbrev pub removed : Arrays → ℕ → ℕ → Option ℕ → Option ℕ → Arrays
removed a k n before after =
    record {
      next = set (pointed a.next before after) n None;
      previous = set (pointed a.previous after before) n None;
      list = set a.list n None;
      first = ended a.first k before after;
      last = ended a.last k after before;
    }

removed_between : (a : Arrays) (lists : List (List ℕ)) (k n : ℕ) (front back : List ℕ) (before after : Option ℕ) → AreSpelled a lists → entry_at a.list n ≡ Some k → k < length lists
    → at lists k ≡ front ++ n ∷ back → is_in n front ≡ false → before ≡ last_from None front → after ≡ first_of back
    → AreSpelled (removed a k n before after) (set lists k (front ++ back))
removed_between a lists k n front back before after s is_k in_lists split fresh before_is after_is =
    record {
      previous_room = length-set (pointed a.previous after before) n None ∙ length_pointed a.previous after before ∙ s.previous_room ∙ sym next_room;
      list_room = length-set a.list n None ∙ s.list_room ∙ sym next_room;
      last_room = length_ended a.last k after before ∙ s.last_room ∙ sym (length_ended a.first k before after);
      lists_room = length-set lists k (front ++ back) ∙ s.lists_room ∙ sym (length_ended a.first k before after);
      distinct = by_list lists k (front ++ back) (λ j xs. IsDistinct nat_eq xs) in_lists (once_cut n front back once) (λ j ne. s.distinct j);
      named = λ j m. by_list lists k (front ++ back) (λ i xs. is_in m xs ≡ true → entry_at (set a.list n None) m ≡ Some i) in_lists (named_here m) (λ i ne h. named_there i m ne h) j;
      holds = λ j m. by_list lists k (front ++ back) (λ i xs. entry_at (set a.list n None) m ≡ Some i → is_in m xs ≡ true) in_lists (holds_here m) (λ i ne h. s.holds i m (held_there i m h)) j;
      threads = λ j h. by_list lists k (front ++ back)
          (λ i xs. i < length a.first → IsThread (entry_at (set (pointed a.next before after) n None)) (entry_at (set (pointed a.previous after before) n None)) xs (entry_at (ended a.first k before after) i) (entry_at (ended a.last k after before) i))
          in_lists (λ below. thread_here below) (λ i ne below. thread_there i ne below) j (let room = length_ended a.first k before after in omega arith);
      loose = λ m h. by_eq m n (entry_at (set (pointed a.next before after) n None) m ≡ None)
          (λ e. ap (entry_at (set (pointed a.next before after) n None)) e ∙ get_or-set_same (pointed a.next before after) n None None (let room = length_pointed a.next before after in let within = in_next in omega arith))
          (λ ne. let none : entry_at a.list m ≡ None = sym (get_or-set_other a.list n m None None ne) ∙ h in
          get_or-set_other (pointed a.next before after) n m None None ne
          ∙ pointed_other a.next before after m (λ is. let wrong : Some k ≡ None = sym (s.named k m (before_in m is)) ∙ none in (cc))
          ∙ s.loose m none);
    }
  where
    next_room : length (set (pointed a.next before after) n None) ≡ length a.next
    next_room = length-set (pointed a.next before after) n None ∙ length_pointed a.next before after

    in_list : n < length a.list
    in_list = entry_within a.list n k is_k

    in_next : n < length a.next
    in_next = let room = s.list_room in let within = in_list in omega arith

    once : IsDistinct nat_eq (front ++ n ∷ back)
    once = subst (IsDistinct nat_eq) split (s.distinct k)

    in_whole : (m : ℕ) → is_in m (front ++ n ∷ back) ≡ true → is_in m (at lists k) ≡ true
    in_whole m h = ap (is_in m) split ∙ h

    before_in : (m : ℕ) → before ≡ Some m → is_in m (at lists k) ≡ true
    before_in m is = in_whole m (in_left m front (n ∷ back) (last_inside front m (sym before_is ∙ is)))

    behind : (m : ℕ) → is_in m back ≡ true → is_in m (front ++ n ∷ back) ≡ true
    behind m h = list_any-append (nat_eq m) front (n ∷ back) ∙ or_right (is_in m front) (is_in m (n ∷ back)) (in_behind m n back h)

    after_in : (m : ℕ) → after ≡ Some m → is_in m (at lists k) ≡ true
    after_in m is = in_whole m (behind m (first_in back m (sym after_is ∙ is)))

    gone : is_in n (front ++ back) ≡ false
    gone = in_right n front back fresh ∙ once_head n back (once_right front (n ∷ back) once)

    kept : (m : ℕ) → is_in m (front ++ back) ≡ true → is_in m (at lists k) ≡ true
    kept m h = by_test (is_in m front) (is_in m (at lists k) ≡ true) (λ is. in_whole m (in_left m front (n ∷ back) is)) (λ out. in_whole m (behind m (sym (in_right m front back out) ∙ h)))

    named_there : (j m : ℕ) → j ≢ k → is_in m (at lists j) ≡ true → entry_at (set a.list n None) m ≡ Some j
    named_there j m ne h =
        let other : m ≢ n = λ e. let both : Some k ≡ Some j = sym is_k ∙ ap (entry_at a.list) (sym e) ∙ s.named j m h in ne (sym (cc)) in
        get_or-set_other a.list n m None None other ∙ s.named j m h

    named_here : (m : ℕ) → is_in m (front ++ back) ≡ true → entry_at (set a.list n None) m ≡ Some k
    named_here m h =
        let other : m ≢ n = λ e. true≢false (sym h ∙ ap (λ i. is_in i (front ++ back)) e ∙ gone) in
        get_or-set_other a.list n m None None other ∙ s.named k m (kept m h)

    held_there : (j m : ℕ) → entry_at (set a.list n None) m ≡ Some j → entry_at a.list m ≡ Some j
    held_there j m h =
        by_eq m n (entry_at a.list m ≡ Some j)
        (λ e. let none : None ≡ Some j = sym (ap (entry_at (set a.list n None)) e ∙ get_or-set_same a.list n None None in_list) ∙ h in absurd (cc))
        (λ other. sym (get_or-set_other a.list n m None None other) ∙ h)

    holds_here : (m : ℕ) → entry_at (set a.list n None) m ≡ Some k → is_in m (front ++ back) ≡ true
    holds_here m h =
        by_eq m n (is_in m (front ++ back) ≡ true)
        (λ e. let none : None ≡ Some k = sym (ap (entry_at (set a.list n None)) e ∙ get_or-set_same a.list n None None in_list) ∙ h in absurd (cc))
        (λ other. let whole : is_in m (front ++ n ∷ back) ≡ true = sym (ap (is_in m) split) ∙ s.holds k m (held_there k m h) in
        by_test (is_in m front) (is_in m (front ++ back) ≡ true) (in_left m front back)
        (λ out. in_right m front back out ∙ sym (in_right m front (n ∷ back) out ∙ in_there m n back other) ∙ whole))

    thread_here : k < length a.first → IsThread (entry_at (set (pointed a.next before after) n None)) (entry_at (set (pointed a.previous after before) n None)) (front ++ back) (entry_at (ended a.first k before after) k) (entry_at (ended a.last k after before) k)
    thread_here below =
        thread_cut (entry_at a.next) (entry_at a.previous) (entry_at (set (pointed a.next before after) n None)) (entry_at (set (pointed a.previous after before) n None)) front back n
        (entry_at a.first k) (entry_at a.last k) (entry_at (ended a.first k before after) k) (entry_at (ended a.last k after before) k)
        once fresh (subst (λ xs. IsThread (entry_at a.next) (entry_at a.previous) xs (entry_at a.first k) (entry_at a.last k)) split (s.threads k below))
        (λ e. ended_none a.first k before after below (before_is ∙ e) ∙ after_is) (λ m e. ended_some a.first k before after m (before_is ∙ e))
        (λ e. ended_none a.last k after before (let room = s.last_room in omega arith) (after_is ∙ e) ∙ before_is) (λ m e. ended_some a.last k after before m (after_is ∙ e))
        (λ m ne e. get_or-set_other (pointed a.next before after) n m None None ne ∙ pointed_same a.next before after m (before_is ∙ e) (let within = entry_within a.list m k (s.named k m (before_in m (before_is ∙ e))) in let room = s.list_room in omega arith) ∙ after_is)
        (λ m ne e. get_or-set_other (pointed a.next before after) n m None None ne ∙ pointed_other a.next before after m (λ is. e (sym before_is ∙ is)))
        (λ m ne e. get_or-set_other (pointed a.previous after before) n m None None ne ∙ pointed_same a.previous after before m (after_is ∙ e) (let within = entry_within a.list m k (s.named k m (after_in m (after_is ∙ e))) in let room = s.list_room in let other = s.previous_room in omega arith) ∙ before_is)
        (λ m ne e. get_or-set_other (pointed a.previous after before) n m None None ne ∙ pointed_other a.previous after before m (λ is. e (sym after_is ∙ is)))

    thread_there : (j : ℕ) → j ≢ k → j < length a.first → IsThread (entry_at (set (pointed a.next before after) n None)) (entry_at (set (pointed a.previous after before) n None)) (at lists j) (entry_at (ended a.first k before after) j) (entry_at (ended a.last k after before) j)
    thread_there j ne below =
        thread_kept (entry_at a.next) (entry_at a.previous) (entry_at (set (pointed a.next before after) n None)) (entry_at (set (pointed a.previous after before) n None)) (at lists j)
        (entry_at a.first j) (entry_at a.last j) (entry_at (ended a.first k before after) j) (entry_at (ended a.last k after before) j) (s.threads j below)
        (ended_other a.first k j before after ne) (ended_other a.last k j after before ne)
        (λ m h. get_or-set_other (pointed a.next before after) n m None None (other_list m h (s.holds k n is_k))
        ∙ pointed_other a.next before after m (λ is. two_lists m h (before_in m is)))
        (λ m h. get_or-set_other (pointed a.previous after before) n m None None (other_list m h (s.holds k n is_k))
        ∙ pointed_other a.previous after before m (λ is. two_lists m h (after_in m is)))
      where
        two_lists : (m : ℕ) → is_in m (at lists j) ≡ true → is_in m (at lists k) ≡ true → ⊥
        two_lists m hj hk = let both : Some j ≡ Some k = sym (s.named j m hj) ∙ s.named k m hk in ne (cc)

        other_list : (m : ℕ) → is_in m (at lists j) ≡ true → is_in n (at lists k) ≡ true → m ≢ n
        other_list m hj hn e = two_lists m hj (ap (λ i. is_in i (at lists k)) e ∙ hn)

-- a list that has a node is there
pub list_there : (a : Arrays) (lists : List (List ℕ)) (k n : ℕ) → AreSpelled a lists → entry_at a.list n ≡ Some k → k < length lists
list_there a lists k n s is = go k lists (s.holds k n is)
  where
    go : (i : ℕ) (ls : List (List ℕ)) → is_in n (at ls i) ≡ true → i < length ls
    go i [] h = absurd (true≢false (sym h))
    go zero (xs ∷ ls) h = omega arith
    go (suc i) (xs ∷ ls) h = let rest = go i ls h in omega arith

pub removed_spelled : (a : Arrays) (lists : List (List ℕ)) (k n : ℕ) → AreSpelled a lists → entry_at a.list n ≡ Some k
    → AreSpelled (removed a k n (entry_at a.previous n) (entry_at a.next n)) (set lists k (without_node n (at lists k)))
removed_spelled a lists k n s is =
    subst (λ xs. AreSpelled (removed a k n (entry_at a.previous n) (entry_at a.next n)) (set lists k xs)) (sym (ap (without_node n) split.is ∙ without_split n split.front split.back split.fresh))
    (removed_between a lists k n split.front split.back (entry_at a.previous n) (entry_at a.next n) s is in_lists split.is split.fresh
    (thread.previous_is n inside ∙ ap (before_from None n) split.is ∙ before_seam None n split.front split.back split.fresh)
    (thread.next_is n inside ∙ ap (node_after n) split.is ∙ cut_after split.front split.back n split.fresh))
  where
    inside : is_in n (at lists k) ≡ true
    inside = s.holds k n is

    split : IsSplit n (at lists k)
    split = split_of n (at lists k) inside

    in_lists : k < length lists
    in_lists = list_there a lists k n s is

    thread : IsThread (entry_at a.next) (entry_at a.previous) (at lists k) (entry_at a.first k) (entry_at a.last k)
    thread = s.threads k (let room = s.lists_room in let below = in_lists in omega arith)

-- arrays of nothing
nothing_at : (count i : ℕ) → entry_at (replicate count None) i ≡ None
nothing_at zero i = refl
nothing_at (suc count) zero = refl
nothing_at (suc count) (suc i) = nothing_at count i

empty_at : (count i : ℕ) → at (replicate count []) i ≡ []
empty_at zero i = refl
empty_at (suc count) zero = refl
empty_at (suc count) (suc i) = empty_at count i

abbrev pub nothing : ℕ → ℕ → Arrays
nothing nodes lists = record { next = replicate nodes None; previous = replicate nodes None; list = replicate nodes None; first = replicate lists None; last = replicate lists None }

pub nothing_spelled : (nodes lists : ℕ) → AreSpelled (nothing nodes lists) (replicate lists [])
nothing_spelled nodes lists =
    record {
      previous_room = refl;
      list_room = refl;
      last_room = refl;
      lists_room = length-replicate lists [] ∙ sym (length-replicate lists None);
      distinct = λ k. subst (IsDistinct nat_eq) (sym (empty_at lists k)) once_nil;
      named = λ k n h. absurd (true≢false (sym h ∙ ap (is_in n) (empty_at lists k)));
      holds = λ k n h. let wrong : None ≡ Some k = sym (nothing_at nodes n) ∙ h in absurd (cc);
      threads = λ k h. record {
        first_is = nothing_at lists k ∙ ap first_of (sym (empty_at lists k));
        last_is = nothing_at lists k ∙ ap (last_from None) (sym (empty_at lists k));
        next_is = λ n h. absurd (true≢false (sym h ∙ ap (is_in n) (empty_at lists k)));
        previous_is = λ n h. absurd (true≢false (sym h ∙ ap (is_in n) (empty_at lists k)));
      };
      loose = λ n h. nothing_at nodes n;
    }
