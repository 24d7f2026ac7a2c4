-- What each call makes of the lists that contracts see.
use Rattle.std.proofs.Common.{◌≡◌, ℕ, ◌<◌, List, [], ◌∷◌, ◌++◌, length, refl, sym, ap, ◌∙◌, arith, subst, ⊎_elim, set, Option, Some, None, IsSome, get_or, zero, suc, true, cond, replicate}
use Rattle.std.proofs.lemmas.List.{length-set, length-replicate}
use Rattle.std.proofs.lemmas.Bool.{true≢false}
use Rattle.std.specs.Prelude.{IfSome}
use Rattle.index_links.specs.Lists.{Lists, is_in, first_of, without_node, nodes_in, list_with, with_list, taken_out, next_of, empty_lists, IsApart}
use Rattle.index_links.specs.Arrays.{Arrays, entry_at, pointed, ended, spelled, at, last_from, AreSpelled}
use Rattle.index_links.proofs.Nodes.{alike, in_here, last_in, found_at, before_in, after_in}
use Rattle.index_links.proofs.Threads.{spelled_is, list_with_entry, apart_of, next_entry, pushed_spelled, removed_spelled, length_pointed, nothing_spelled, entry_within, list_there}

-- the lists that contracts see
abbrev pub seen : Arrays → Lists
seen a = record { nodes = length a.next; lists = spelled a }

pub closed : (b : Arrays) (lists : List (List ℕ)) → AreSpelled b lists → AreSpelled b (spelled b)
closed b lists s = subst (AreSpelled b) (sym (spelled_is b lists s)) s

pub lists_room : (a : Arrays) (v : Lists) → AreSpelled a (spelled a) → seen a ≡ v → length v.lists ≡ length a.first
lists_room a v s e = sym (ap (λ (ls : Lists). length ls.lists) e) ∙ s.lists_room

pub nodes_room : (a : Arrays) (v : Lists) → seen a ≡ v → length a.next ≡ v.nodes
nodes_room a v e = ap (λ (ls : Lists). ls.nodes) e

pub entry_seen : (a : Arrays) (v : Lists) (n : ℕ) → AreSpelled a (spelled a) → seen a ≡ v → entry_at a.list n ≡ list_with v n
entry_seen a v n s e = sym (list_with_entry a (spelled a) n s) ∙ ap (λ (ls : Lists). list_with ls n) e

pub next_seen : (a : Arrays) (v : Lists) (n : ℕ) → AreSpelled a (spelled a) → seen a ≡ v → entry_at a.next n ≡ next_of v n
next_seen a v n s e = sym (next_entry a (spelled a) n s) ∙ ap (λ (ls : Lists). next_of ls n) e

pub apart_seen : (a : Arrays) (v : Lists) → AreSpelled a (spelled a) → seen a ≡ v → IsApart v
apart_seen a v s e = subst IsApart e (apart_of a (spelled a) s)

pub first_seen : (a : Arrays) (v : Lists) (k : ℕ) → AreSpelled a (spelled a) → seen a ≡ v → k < length v.lists → entry_at a.first k ≡ first_of (nodes_in v k)
first_seen a v k s e within =
    let room = lists_room a v s e in
    (s.threads k (omega arith)).first_is ∙ ap (λ (ls : Lists). first_of (nodes_in ls k)) e

-- what was read at a place of an array is its entry there
pub entry_read : (xs : List (Option ℕ)) (i : ℕ) (o : Option ℕ) → i < length xs → o ≡ get_or xs i o → o ≡ entry_at xs i
entry_read [] i o within h = absurd (omega arith)
entry_read (x ∷ xs) zero o within h = h
entry_read (x ∷ xs) (suc i) o within h = entry_read xs i o (omega arith) h

-- an entry within an array is some entry of a node there
pub last_within : (a : Arrays) (k : ℕ) → AreSpelled a (spelled a) → (o : Option ℕ) → entry_at a.last k ≡ o → k < length a.first → IfSome o (λ node. node < length a.next)
last_within a k s None e within = tt
last_within a k s (Some m) e within = go (at (spelled a) k) refl (sym (s.threads k within).last_is ∙ e)
  where
    go : (xs : List ℕ) → at (spelled a) k ≡ xs → last_from None xs ≡ Some m → m < length a.next
    go [] is h = absurd (cc)
    go (x ∷ xs) is h = let inside = last_in x xs m h in let within = entry_within a.list m k (s.named k m (ap (is_in m) is ∙ inside)) in let room = s.list_room in omega arith

pub last_read : (a : Arrays) (v : Lists) (k : ℕ) (o : Option ℕ) → AreSpelled a (spelled a) → seen a ≡ v → k < length v.lists → o ≡ get_or a.last k o → o ≡ entry_at a.last k
last_read a v k o s e within read =
    let lists = lists_room a v s e in
    let room = s.last_room in
    entry_read a.last k o (omega arith) read

-- a node that is in a list
pub listed : (o : Option ℕ) → IsSome o → (k : ℕ) × (o ≡ Some k)
listed None h = absurd (true≢false (sym h))
listed (Some k) h = (k, refl)

pub listed_within : (a : Arrays) (v : Lists) (n : ℕ) → AreSpelled a (spelled a) → seen a ≡ v → IsSome (list_with v n) → n < length a.next
listed_within a v n s e h =
    let is = listed (list_with v n) h in
    let within = entry_within a.list n is.0 (entry_seen a v n s e ∙ is.1) in
    let room = s.list_room in omega arith

pub listed_some : (a : Arrays) (v : Lists) (n : ℕ) (o : Option ℕ) → AreSpelled a (spelled a) → seen a ≡ v → o ≡ entry_at a.list n → IsSome (list_with v n) → IsSome o
listed_some a v n o s e is h = let P : Option ℕ → Type 0 = λ x. IsSome x in subst P (sym (is ∙ entry_seen a v n s e)) h

pub list_below : (a : Arrays) (k n : ℕ) → AreSpelled a (spelled a) → entry_at a.list n ≡ Some k → k < length a.first
list_below a k n s is = let there = list_there a (spelled a) k n s is in let room = s.lists_room in omega arith

node_below : (a : Arrays) (k m : ℕ) → AreSpelled a (spelled a) → is_in m (at (spelled a) k) ≡ true → m < length a.next
node_below a k m s h = let within = entry_within a.list m k (s.named k m h) in let room = s.list_room in omega arith

pub previous_within : (a : Arrays) (k n : ℕ) (o : Option ℕ) → AreSpelled a (spelled a) → entry_at a.list n ≡ Some k → o ≡ entry_at a.previous n → IfSome o (λ node. node < length a.next)
previous_within a k n None s is h = tt
previous_within a k n (Some m) s is h =
    let thread = s.threads k (list_below a k n s is) in
    ⊎_elim (λ (wrong : None ≡ Some m). absurd (cc)) (λ (inside : is_in m (at (spelled a) k) ≡ true). node_below a k m s inside)
    (before_in None n (at (spelled a) k) m (sym (thread.previous_is n (s.holds k n is)) ∙ sym h))

pub next_within : (a : Arrays) (k n : ℕ) (o : Option ℕ) → AreSpelled a (spelled a) → entry_at a.list n ≡ Some k → o ≡ entry_at a.next n → IfSome o (λ node. node < length a.previous)
next_within a k n None s is h = tt
next_within a k n (Some m) s is h =
    let thread = s.threads k (list_below a k n s is) in
    let below = node_below a k m s (after_in n (at (spelled a) k) m (sym (thread.next_is n (s.holds k n is)) ∙ sym h)) in
    let room = s.previous_room in omega arith

-- a node is pushed
pub push_closes : (a : Arrays) (v : Lists) (k n : ℕ) (before : Option ℕ) (next first : List (Option ℕ)) → AreSpelled a (spelled a) → seen a ≡ v → k < length v.lists → n < v.nodes → list_with v n ≡ None
    → before ≡ entry_at a.last k → next ≡ pointed a.next before (Some n) → first ≡ ended a.first k before (Some n)
    → AreSpelled (record { next = next; previous = set a.previous n before; list = set a.list n (Some k); first = first; last = set a.last k (Some n) }) (set (spelled a) k (at (spelled a) k ++ n ∷ []))
push_closes a v k n before next first s e list_exists node_exists free before_is next_is first_is =
    let lists = lists_room a v s e in
    let nodes = nodes_room a v e in
    subst (λ (b : Arrays). AreSpelled b (set (spelled a) k (at (spelled a) k ++ n ∷ []))) (cc)
    (pushed_spelled a (spelled a) k n s (omega arith) (omega arith) (entry_seen a v n s e ∙ free))

-- what the lists are then
pub push_shows : (a : Arrays) (v : Lists) (k n : ℕ) (before : Option ℕ) (b : Arrays) → AreSpelled b (set (spelled a) k (at (spelled a) k ++ n ∷ [])) → seen a ≡ v
    → b.next ≡ pointed a.next before (Some n) → seen b ≡ with_list v k (nodes_in v k ++ n ∷ [])
push_shows a v k n before b s e next_is =
    let nodes : length b.next ≡ length a.next = ap length next_is ∙ length_pointed a.next before (Some n) in
    let lists = spelled_is b (set (spelled a) k (at (spelled a) k ++ n ∷ [])) s in
    let is : seen b ≡ with_list (seen a) k (nodes_in (seen a) k ++ n ∷ []) = λ i. record { nodes = nodes i; lists = lists i } in
    is ∙ ap (λ (ls : Lists). with_list ls k (nodes_in ls k ++ n ∷ [])) e

-- a node is taken out
pub cut_closes : (a : Arrays) (v : Lists) (k n : ℕ) (before after : Option ℕ) (next previous first last : List (Option ℕ)) → AreSpelled a (spelled a) → seen a ≡ v → entry_at a.list n ≡ Some k
    → before ≡ entry_at a.previous n → after ≡ entry_at a.next n → next ≡ pointed a.next before after → previous ≡ pointed a.previous after before → first ≡ ended a.first k before after → last ≡ ended a.last k after before
    → AreSpelled (record { next = set next n None; previous = set previous n None; list = set a.list n None; first = first; last = last }) (set (spelled a) k (without_node n (at (spelled a) k)))
cut_closes a v k n before after next previous first last s e is before_is after_is next_is previous_is first_is last_is =
    subst (λ (b : Arrays). AreSpelled b (set (spelled a) k (without_node n (at (spelled a) k)))) (cc) (removed_spelled a (spelled a) k n s is)

pub cut_shows : (a : Arrays) (v : Lists) (k n : ℕ) (before after : Option ℕ) (b : Arrays) (next : List (Option ℕ)) → AreSpelled a (spelled a) → AreSpelled b (set (spelled a) k (without_node n (at (spelled a) k))) → seen a ≡ v → entry_at a.list n ≡ Some k
    → next ≡ pointed a.next before after → b.next ≡ set next n None → seen b ≡ taken_out v n (list_with v n)
cut_shows a v k n before after b next old s e is next_is b_is =
    let nodes : length b.next ≡ length a.next = ap length b_is ∙ length-set next n None ∙ ap length next_is ∙ length_pointed a.next before after in
    let lists = spelled_is b (set (spelled a) k (without_node n (at (spelled a) k))) s in
    let there : seen b ≡ with_list (seen a) k (without_node n (nodes_in (seen a) k)) = λ i. record { nodes = nodes i; lists = lists i } in
    there ∙ ap (λ (ls : Lists). with_list ls k (without_node n (nodes_in ls k))) e ∙ ap (taken_out v n) (sym is ∙ entry_seen a v n old e)

-- the first node is taken out
pub first_with : (v : Lists) (k n : ℕ) (rest : List ℕ) → IsApart v → nodes_in v k ≡ n ∷ rest → list_with v n ≡ Some k
first_with v k n rest apart is =
    found_at (is_in n) v.lists 0 k refl here (λ j h. apart.one j k n h here) ∙ ap (λ i. Some i) (omega arith)
  where
    here : is_in n (nodes_in v k) ≡ true
    here = ap (is_in n) is ∙ in_here n rest

pub is_listed : (v : Lists) (k n : ℕ) (rest : List ℕ) → IsApart v → nodes_in v k ≡ n ∷ rest → IsSome (list_with v n)
is_listed v k n rest apart is = let P : Option ℕ → Type 0 = λ o. IsSome o in let some : IsSome (Some k) = refl in subst P (sym (first_with v k n rest apart is)) some

pub popped : (v : Lists) (k n : ℕ) (rest : List ℕ) → IsApart v → nodes_in v k ≡ n ∷ rest → taken_out v n (list_with v n) ≡ with_list v k rest
popped v k n rest apart is =
    ap (taken_out v n) (first_with v k n rest apart is) ∙ ap (λ xs. with_list v k (without_node n xs)) is ∙ ap (λ b. with_list v k (cond b rest (n ∷ without_node n rest))) (alike n)

pub first_is_some : (xs : List ℕ) (n : ℕ) → first_of xs ≡ Some n → (rest : List ℕ) × (xs ≡ n ∷ rest)
first_is_some [] n h = absurd (cc)
first_is_some (x ∷ xs) n h = (xs, let e : x ≡ n = cc in ap (λ k. k ∷ xs) e)

pub first_is_none : (xs : List ℕ) → first_of xs ≡ None → xs ≡ []
first_is_none [] h = refl
first_is_none (x ∷ xs) h = absurd (cc)

-- nothing is linked
pub new_closes : (nodes lists : ℕ) (next previous list first last : List (Option ℕ)) → next ≡ replicate nodes None → previous ≡ replicate nodes None → list ≡ replicate nodes None → first ≡ replicate lists None → last ≡ replicate lists None
    → AreSpelled (record { next = next; previous = previous; list = list; first = first; last = last }) (replicate lists [])
new_closes nodes lists next previous list first last n p l f e = subst (λ (b : Arrays). AreSpelled b (replicate lists [])) (cc) (nothing_spelled nodes lists)

pub new_shows : (nodes lists : ℕ) (b : Arrays) → AreSpelled b (replicate lists []) → b.next ≡ replicate nodes None → seen b ≡ empty_lists nodes lists
new_shows nodes lists b s n =
    let count : length b.next ≡ nodes = ap length n ∙ length-replicate nodes None in
    let are = spelled_is b (replicate lists []) s in
    λ i. record { nodes = count i; lists = are i }
