-- Nodes in lists, and what stands before and behind them.
use Rattle.std.proofs.Common.{◌≡◌, ◌≢◌, ℕ, zero, suc, ◌+◌, Bool, true, false, cond, ◌||◌, List, [], ◌∷◌, ◌++◌, refl, sym, ap, ◌∙◌, arith, inl, inr, ⊎_elim, ◌⊎◌, Option, Some, None, nat_eq}
use Rattle.std.proofs.lemmas.Bool.{eq-eqb, true≢false}
use Rattle.std.proofs.lemmas.Bool.Decides.{eqb_tells}
use Rattle.std.proofs.lemmas.List.Folds.{list_any-append}
use Rattle.std.specs.List.{IsDistinct, AllByRecursion, position_from}
use Rattle.index_links.specs.Lists.{is_in, first_of, node_after, without_node}
use Rattle.index_links.specs.Arrays.{last_from, before_from, at}

-- two numbers that differ are told apart
pub neq : (n x : ℕ) → n ≢ x → nat_eq n x ≡ false
neq n x h = ⊎_elim (λ (is : (nat_eq n x ≡ true) × (n ≡ x)). absurd (h is.1)) (λ (is : (nat_eq n x ≡ false) × (n ≢ x)). is.0) (eqb_tells n x)

pub alike : (n : ℕ) → nat_eq n n ≡ true
alike n = eq-eqb n n refl

-- by whether two numbers are equal
pub by_eq : (n x : ℕ) (P : Type 0) → (n ≡ x → P) → (n ≢ x → P) → P
by_eq n x P same other = ⊎_elim (λ (is : (nat_eq n x ≡ true) × (n ≡ x)). same is.1) (λ (is : (nat_eq n x ≡ false) × (n ≢ x)). other is.1) (eqb_tells n x)

-- by whether an entry has this number
pub by_entry : (o : Option ℕ) (m : ℕ) (P : Type 0) → (o ≡ Some m → P) → (o ≢ Some m → P) → P
by_entry None m P same other = other (λ e. (cc))
by_entry (Some n) m P same other = by_eq n m P (λ e. same (ap (λ k. Some k) e)) (λ ne. other (λ e. ne (cc)))

pub by_test : (b : Bool) (P : Type 0) → (b ≡ true → P) → (b ≡ false → P) → P
by_test true P yes_case no_case = yes_case refl
by_test false P yes_case no_case = no_case refl

pub or_right : (a b : Bool) → b ≡ true → (a || b) ≡ true
or_right true b h = refl
or_right false b h = h

pub in_here : (n : ℕ) (xs : List ℕ) → is_in n (n ∷ xs) ≡ true
in_here n xs = ap (λ b. b || is_in n xs) (alike n)

pub in_there : (n x : ℕ) (xs : List ℕ) → n ≢ x → is_in n (x ∷ xs) ≡ is_in n xs
in_there n x xs h = ap (λ b. b || is_in n xs) (neq n x h)

pub in_behind : (n x : ℕ) (xs : List ℕ) → is_in n xs ≡ true → is_in n (x ∷ xs) ≡ true
in_behind n x xs h =
    by_eq n x (is_in n (x ∷ xs) ≡ true)
    (λ e. ap (λ b. b || is_in n xs) (ap (λ k. nat_eq n k) (sym e) ∙ alike n))
    (λ ne. in_there n x xs ne ∙ h)

pub after_here : (n : ℕ) (xs : List ℕ) → node_after n (n ∷ xs) ≡ first_of xs
after_here n xs = ap (λ b. cond b (first_of xs) (node_after n xs)) (alike n)

pub after_there : (n x : ℕ) (xs : List ℕ) → n ≢ x → node_after n (x ∷ xs) ≡ node_after n xs
after_there n x xs h = ap (λ b. cond b (first_of xs) (node_after n xs)) (neq n x h)

pub before_here : (p : Option ℕ) (n : ℕ) (xs : List ℕ) → before_from p n (n ∷ xs) ≡ p
before_here p n xs = ap (λ b. cond b p (before_from (Some n) n xs)) (alike n)

pub before_there : (p : Option ℕ) (n x : ℕ) (xs : List ℕ) → n ≢ x → before_from p n (x ∷ xs) ≡ before_from (Some x) n xs
before_there p n x xs h = ap (λ b. cond b p (before_from (Some x) n xs)) (neq n x h)

pub in_left : (n : ℕ) (xs ys : List ℕ) → is_in n xs ≡ true → is_in n (xs ++ ys) ≡ true
in_left n xs ys h = list_any-append (nat_eq n) xs ys ∙ ap (λ b. b || is_in n ys) h

pub in_right : (n : ℕ) (xs ys : List ℕ) → is_in n xs ≡ false → is_in n (xs ++ ys) ≡ is_in n ys
in_right n xs ys h = list_any-append (nat_eq n) xs ys ∙ ap (λ b. b || is_in n ys) h

-- a node of a list stands somewhere
pub record IsSplit (n : ℕ) (xs : List ℕ) : Type 0 where
  pub front : List ℕ
  pub back : List ℕ
  pub is : xs ≡ front ++ n ∷ back
  pub fresh : is_in n front ≡ false

pub split_of : (n : ℕ) (xs : List ℕ) → is_in n xs ≡ true → IsSplit n xs
split_of n [] h = absurd (true≢false (sym h))
split_of n (x ∷ xs) h =
    by_eq n x (IsSplit n (x ∷ xs))
    (λ e. record { front = []; back = xs; is = ap (λ k. k ∷ xs) (sym e); fresh = refl })
    (λ ne. let rest = split_of n xs (sym (in_there n x xs ne) ∙ h) in
    record { front = x ∷ rest.front; back = rest.back; is = ap (λ ys. x ∷ ys) rest.is; fresh = in_there n x rest.front ne ∙ rest.fresh })

pub without_split : (n : ℕ) (front back : List ℕ) → is_in n front ≡ false → without_node n (front ++ n ∷ back) ≡ front ++ back
without_split n [] back h = ap (λ b. cond b back (n ∷ without_node n back)) (alike n)
without_split n (x ∷ front) back h =
    by_eq n x (without_node n ((x ∷ front) ++ n ∷ back) ≡ (x ∷ front) ++ back)
    (λ e. absurd (true≢false (sym (ap (λ b. b || is_in n front) (ap (λ k. nat_eq n k) (sym e) ∙ alike n)) ∙ h)))
    (λ ne. ap (λ b. cond b (front ++ n ∷ back) (x ∷ without_node n (front ++ n ∷ back))) (neq n x ne) ∙ ap (λ ys. x ∷ ys) (without_split n front back (sym (in_there n x front ne) ∙ h)))

-- nodes that stand once
all_apart : (x : ℕ) (xs : List ℕ) → AllByRecursion (λ y. nat_eq x y ≡ false) xs → is_in x xs ≡ false
all_apart x [] h = refl
all_apart x (y ∷ ys) h = ap (λ b. b || is_in x ys) h.0 ∙ all_apart x ys h.1

apart_all : (x : ℕ) (xs : List ℕ) → is_in x xs ≡ false → AllByRecursion (λ y. nat_eq x y ≡ false) xs
apart_all x [] h = tt
apart_all x (y ∷ ys) h =
    by_eq x y (AllByRecursion (λ y. nat_eq x y ≡ false) (y ∷ ys))
    (λ e. absurd (true≢false (sym (ap (λ b. b || is_in x ys) (ap (λ k. nat_eq x k) (sym e) ∙ alike x)) ∙ h)))
    (λ ne. (neq x y ne, apart_all x ys (sym (in_there x y ys ne) ∙ h)))

pub once_nil : IsDistinct nat_eq []
unfolding IsDistinct
once_nil = tt

pub once_head : (x : ℕ) (xs : List ℕ) → IsDistinct nat_eq (x ∷ xs) → is_in x xs ≡ false
unfolding IsDistinct
once_head x xs h = all_apart x xs h.0

pub once_tail : (x : ℕ) (xs : List ℕ) → IsDistinct nat_eq (x ∷ xs) → IsDistinct nat_eq xs
unfolding IsDistinct
once_tail x xs h = h.1

pub once_cons : (x : ℕ) (xs : List ℕ) → is_in x xs ≡ false → IsDistinct nat_eq xs → IsDistinct nat_eq (x ∷ xs)
unfolding IsDistinct
once_cons x xs h rest = (apart_all x xs h, rest)

pub other_than_head : (m x : ℕ) (xs : List ℕ) → IsDistinct nat_eq (x ∷ xs) → is_in m xs ≡ true → m ≢ x
other_than_head m x xs once h e = true≢false (sym h ∙ ap (λ k. is_in k xs) e ∙ once_head x xs once)

pub or_none : (a b : Bool) → (a || b) ≡ false → (a ≡ false) × (b ≡ false)
or_none true b h = absurd (true≢false h)
or_none false b h = (refl, h)

pub in_neither : (n : ℕ) (xs ys : List ℕ) → is_in n (xs ++ ys) ≡ false → (is_in n xs ≡ false) × (is_in n ys ≡ false)
in_neither n xs ys h = or_none (is_in n xs) (is_in n ys) (sym (list_any-append (nat_eq n) xs ys) ∙ h)

pub once_left : (xs ys : List ℕ) → IsDistinct nat_eq (xs ++ ys) → IsDistinct nat_eq xs
once_left [] ys h = once_nil
once_left (x ∷ xs) ys h = once_cons x xs (in_neither x xs ys (once_head x (xs ++ ys) h)).0 (once_left xs ys (once_tail x (xs ++ ys) h))

pub once_right : (xs ys : List ℕ) → IsDistinct nat_eq (xs ++ ys) → IsDistinct nat_eq ys
once_right [] ys h = h
once_right (x ∷ xs) ys h = once_right xs ys (once_tail x (xs ++ ys) h)

pub once_apart : (m : ℕ) (xs ys : List ℕ) → IsDistinct nat_eq (xs ++ ys) → is_in m xs ≡ true → is_in m ys ≡ false
once_apart m [] ys once h = absurd (true≢false (sym h))
once_apart m (x ∷ xs) ys once h =
    by_eq m x (is_in m ys ≡ false)
    (λ e. ap (λ k. is_in k ys) e ∙ (in_neither x xs ys (once_head x (xs ++ ys) once)).1)
    (λ ne. once_apart m xs ys (once_tail x (xs ++ ys) once) (sym (in_there m x xs ne) ∙ h))

not_in_cut : (n x : ℕ) (xs ys : List ℕ) → is_in x (xs ++ n ∷ ys) ≡ false → is_in x (xs ++ ys) ≡ false
not_in_cut n x xs ys h =
    let both = in_neither x xs (n ∷ ys) h in
    in_right x xs ys both.0 ∙ (or_none (nat_eq x n) (is_in x ys) both.1).1

pub once_cut : (n : ℕ) (xs ys : List ℕ) → IsDistinct nat_eq (xs ++ n ∷ ys) → IsDistinct nat_eq (xs ++ ys)
once_cut n [] ys h = once_tail n ys h
once_cut n (x ∷ xs) ys h = once_cons x (xs ++ ys) (not_in_cut n x xs ys (once_head x (xs ++ n ∷ ys) h)) (once_cut n xs ys (once_tail x (xs ++ n ∷ ys) h))

pub once_push : (n : ℕ) (xs : List ℕ) → IsDistinct nat_eq xs → is_in n xs ≡ false → IsDistinct nat_eq (xs ++ n ∷ [])
once_push n [] once h = once_cons n [] refl once_nil
once_push n (x ∷ xs) once h =
    let both = or_none (nat_eq n x) (is_in n xs) h in
    let other : x ≢ n = λ e. true≢false (sym (ap (λ k. nat_eq n k) e ∙ alike n) ∙ both.0) in
    once_cons x (xs ++ n ∷ []) (in_right x xs (n ∷ []) (once_head x xs once) ∙ in_there x n [] other) (once_push n xs (once_tail x xs once) both.1)

-- the last node
pub last_some : (x : ℕ) (xs : List ℕ) → (m : ℕ) × (last_from (Some x) xs ≡ Some m)
last_some x [] = (x, refl)
last_some x (y ∷ ys) = last_some y ys

pub last_in : (x : ℕ) (xs : List ℕ) (m : ℕ) → last_from (Some x) xs ≡ Some m → is_in m (x ∷ xs) ≡ true
last_in x [] m h = let e : m ≡ x = cc in ap (λ k. is_in m (k ∷ [])) (sym e) ∙ in_here m []
last_in x (y ∷ ys) m h = in_behind m x (y ∷ ys) (last_in y ys m h)

pub last_push : (p : Option ℕ) (xs : List ℕ) (n : ℕ) (ys : List ℕ) → last_from p (xs ++ n ∷ ys) ≡ last_from (Some n) ys
last_push p [] n ys = refl
last_push p (x ∷ xs) n ys = last_push (Some x) xs n ys

-- what stands behind a node
pub after_last : (m x : ℕ) (xs ys : List ℕ) → IsDistinct nat_eq (x ∷ xs) → last_from (Some x) xs ≡ Some m → node_after m ((x ∷ xs) ++ ys) ≡ first_of ys
after_last m x [] ys once h = let e : m ≡ x = cc in ap (λ k. node_after m (k ∷ ys)) (sym e) ∙ after_here m ys
after_last m x (y ∷ xs) ys once h =
    let inside = last_in y xs m h in
    after_there m x ((y ∷ xs) ++ ys) (other_than_head m x (y ∷ xs) once inside) ∙ after_last m y xs ys (once_tail x (y ∷ xs) once) h

pub after_inner : (m x : ℕ) (xs ys : List ℕ) → is_in m (x ∷ xs) ≡ true → last_from (Some x) xs ≢ Some m → node_after m ((x ∷ xs) ++ ys) ≡ node_after m (x ∷ xs)
after_inner m x [] ys h other =
    by_eq m x (node_after m ((x ∷ []) ++ ys) ≡ node_after m (x ∷ []))
    (λ e. absurd (other (ap (λ k. Some k) (sym e))))
    (λ ne. absurd (true≢false (sym h ∙ in_there m x [] ne)))
after_inner m x (y ∷ xs) ys h other =
    by_eq m x (node_after m ((x ∷ y ∷ xs) ++ ys) ≡ node_after m (x ∷ y ∷ xs))
    (λ e. ap (λ k. node_after m (k ∷ (y ∷ xs) ++ ys)) (sym e) ∙ after_here m ((y ∷ xs) ++ ys) ∙ sym (ap (λ k. node_after m (k ∷ y ∷ xs)) (sym e) ∙ after_here m (y ∷ xs)))
    (λ ne. after_there m x ((y ∷ xs) ++ ys) ne ∙ after_inner m y xs ys (sym (in_there m x (y ∷ xs) ne) ∙ h) other ∙ sym (after_there m x (y ∷ xs) ne))

pub after_past : (m : ℕ) (xs ys : List ℕ) → is_in m xs ≡ false → node_after m (xs ++ ys) ≡ node_after m ys
after_past m [] ys h = refl
after_past m (x ∷ xs) ys h =
    by_eq m x (node_after m ((x ∷ xs) ++ ys) ≡ node_after m ys)
    (λ e. absurd (true≢false (sym (ap (λ b. b || is_in m xs) (ap (λ k. nat_eq m k) (sym e) ∙ alike m)) ∙ h)))
    (λ ne. after_there m x (xs ++ ys) ne ∙ after_past m xs ys (sym (in_there m x xs ne) ∙ h))

-- what stands before a node
pub before_seam : (p : Option ℕ) (m : ℕ) (xs ys : List ℕ) → is_in m xs ≡ false → before_from p m (xs ++ m ∷ ys) ≡ last_from p xs
before_seam p m [] ys h = before_here p m ys
before_seam p m (x ∷ xs) ys h =
    by_eq m x (before_from p m ((x ∷ xs) ++ m ∷ ys) ≡ last_from (Some x) xs)
    (λ e. absurd (true≢false (sym (ap (λ b. b || is_in m xs) (ap (λ k. nat_eq m k) (sym e) ∙ alike m)) ∙ h)))
    (λ ne. before_there p m x (xs ++ m ∷ ys) ne ∙ before_seam (Some x) m xs ys (sym (in_there m x xs ne) ∙ h))

pub before_any : (p q : Option ℕ) (m : ℕ) (ys : List ℕ) → first_of ys ≢ Some m → is_in m ys ≡ true → before_from p m ys ≡ before_from q m ys
before_any p q m [] other h = absurd (true≢false (sym h))
before_any p q m (y ∷ ys) other h =
    let ne : m ≢ y = λ e. other (ap (λ k. Some k) (sym e)) in
    before_there p m y ys ne ∙ sym (before_there q m y ys ne)

pub before_past : (p : Option ℕ) (m : ℕ) (xs ys : List ℕ) → is_in m xs ≡ false → before_from p m (xs ++ ys) ≡ before_from (last_from p xs) m ys
before_past p m [] ys h = refl
before_past p m (x ∷ xs) ys h =
    by_eq m x (before_from p m ((x ∷ xs) ++ ys) ≡ before_from (last_from (Some x) xs) m ys)
    (λ e. absurd (true≢false (sym (ap (λ b. b || is_in m xs) (ap (λ k. nat_eq m k) (sym e) ∙ alike m)) ∙ h)))
    (λ ne. before_there p m x (xs ++ ys) ne ∙ before_past (Some x) m xs ys (sym (in_there m x xs ne) ∙ h))

pub before_left : (p : Option ℕ) (m : ℕ) (xs ys : List ℕ) → is_in m xs ≡ true → before_from p m (xs ++ ys) ≡ before_from p m xs
before_left p m [] ys h = absurd (true≢false (sym h))
before_left p m (x ∷ xs) ys h =
    by_eq m x (before_from p m ((x ∷ xs) ++ ys) ≡ before_from p m (x ∷ xs))
    (λ e. ap (λ k. before_from p m (k ∷ xs ++ ys)) (sym e) ∙ before_here p m (xs ++ ys) ∙ sym (ap (λ k. before_from p m (k ∷ xs)) (sym e) ∙ before_here p m xs))
    (λ ne. before_there p m x (xs ++ ys) ne ∙ before_left (Some x) m xs ys (sym (in_there m x xs ne) ∙ h) ∙ sym (before_there p m x xs ne))

-- the first list that passes a test
pub found_at : (t : List ℕ → Bool) (lists : List (List ℕ)) (i k : ℕ) → t [] ≡ false → t (at lists k) ≡ true → ((j : ℕ) → t (at lists j) ≡ true → j ≡ k) → position_from t i lists ≡ Some (i + k)
found_at t [] i k none h only = absurd (true≢false (sym h ∙ none))
found_at t (xs ∷ lists) i zero none h only = ap (λ b. cond b (Some i) (position_from t (i + 1) lists)) h ∙ ap (λ n. Some n) (omega arith)
found_at t (xs ∷ lists) i (suc k) none h only =
    by_test (t xs) (position_from t i (xs ∷ lists) ≡ Some (i + suc k))
    (λ is. let wrong : 0 ≡ suc k = only 0 is in absurd (omega arith))
    (λ is. ap (λ b. cond b (Some i) (position_from t (i + 1) lists)) is
    ∙ found_at t lists (i + 1) k none h (λ j q. let e : suc j ≡ suc k = only (suc j) q in omega arith)
    ∙ ap (λ n. Some n) (omega arith))

pub found_none : (t : List ℕ → Bool) (lists : List (List ℕ)) (i : ℕ) → ((j : ℕ) → t (at lists j) ≡ false) → position_from t i lists ≡ None
found_none t [] i none = refl
found_none t (xs ∷ lists) i none = ap (λ b. cond b (Some i) (position_from t (i + 1) lists)) (none 0) ∙ found_none t lists (i + 1) (λ j. none (suc j))

-- what stands behind or before a node of a list is in it
pub after_in : (n : ℕ) (xs : List ℕ) (m : ℕ) → node_after n xs ≡ Some m → is_in m xs ≡ true
after_in n [] m h = absurd (cc)
after_in n (x ∷ xs) m h =
    by_eq n x (is_in m (x ∷ xs) ≡ true)
    (λ e. in_behind m x xs (head_in xs (sym (ap (λ k. node_after n (k ∷ xs)) (sym e) ∙ after_here n xs) ∙ h)))
    (λ ne. in_behind m x xs (after_in n xs m (sym (after_there n x xs ne) ∙ h)))
  where
    head_in : (ys : List ℕ) → first_of ys ≡ Some m → is_in m ys ≡ true
    head_in [] e = absurd (cc)
    head_in (y ∷ ys) e = let is : m ≡ y = cc in ap (λ k. is_in m (k ∷ ys)) (sym is) ∙ in_here m ys

pub before_in : (p : Option ℕ) (n : ℕ) (xs : List ℕ) (m : ℕ) → before_from p n xs ≡ Some m → (p ≡ Some m) ⊎ (is_in m xs ≡ true)
before_in p n [] m h = absurd (cc)
before_in p n (x ∷ xs) m h =
    by_eq n x ((p ≡ Some m) ⊎ (is_in m (x ∷ xs) ≡ true))
    (λ e. inl (sym (ap (λ k. before_from p n (k ∷ xs)) (sym e) ∙ before_here p n xs) ∙ h))
    (λ ne. ⊎_elim
    (λ (is : Some x ≡ Some m). let e : m ≡ x = cc in inr (ap (λ k. is_in m (k ∷ xs)) (sym e) ∙ in_here m xs))
    (λ (is : is_in m xs ≡ true). inr (in_behind m x xs is))
    (before_in (Some x) n xs m (sym (before_there p n x xs ne) ∙ h)))
