-- What the calls of a desk keep, over plain values.
use Rattle.std.proofs.Common.{◌≡◌, ℕ, zero, suc, ◌+◌, ◌<◌, ◌≤◌, Bool, true, false, cond, ◌||◌, List, [], ◌∷◌, ◌++◌, length, refl, sym, ap, ◌∙◌, arith, subst, get_or, set, Option, Some, None, replicate, add-one}
use Rattle.std.proofs.lemmas.List.{append-nil, get_or_past, length-set}
use Rattle.index_links.specs.Lists.{first_of, nodes_in, without_node}
use Rattle.std.specs.List.{AllByRecursion, list_any}
use Rattle.std.proofs.lemmas.Bool.{eq-eqb, true≢false}
use Rattle.std.specs.Prelude.{nat_eq, is_some}
use Rattle.world_state.specs.Facts.{InShape}
use Rattle.world_state.specs.Worlds.{Facts, has_fact, absent_of, with_facts}
use Rattle.type_masks.specs.declared.shape.Shape.{Shape}
use Rattle.world_state.specs.declared.fact.Fact.{Fact}
use Rattle.world_state.specs.declared.fact.Fact.TheVariants.{Live}
use Rattle.world_state.specs.declared.impact.Impact.{Impact}
use Rattle.enqueuer_core.specs.declared.desk.Desk.TheInside.{Inside}
use Rattle.enqueuer_core.specs.Inside.{state_of, IsDesk}
use Rattle.enqueuer_core.specs.Least.{IsInShape}
use Rattle.enqueuer_core.specs.Core.{State, Take, Reclaim, held_by, happens, returned, times, without, is_number, is_held, numbers_where, IsState, accepted, all_within, all_same, settled_by, settled_with, is_woken, start, roots_of}
use Rattle.enqueuer_core.specs.Worklists.{IsWorklist}
use Rattle.enqueuer_core.specs.Hints.{AreHints}
use Rattle.enqueuer_core.proofs.Counts.{unit, how_many_set, how_many_append, any_counts, times_where, times_past}
use Rattle.enqueuer_core.proofs.Kept.{taken_kept, returned_kept, reclaimed_kept, accepted_kept, started, worker_of, live_of}

-- a desk from its state, its worklist and its hints
pub desk_of : (e : Inside) (pending : List ℕ) → IsState (state_of e) → IsWorklist e.pending e.shape.members pending → AreHints e.shape e.settled.items e.readers.items e.marks.items → IsDesk e
desk_of e pending state list hints = record { state = state; nodes = list.nodes; lists = list.lists; hints = hints }

pub worklist_of : (d : Inside) → IsDesk d → IsWorklist d.pending d.shape.members (nodes_in d.pending 0)
worklist_of d is = record { nodes = is.nodes; lists = is.lists; pending = refl }

-- where a member stands in one place, it stands in no other
unit_le : (b : Bool) → unit b ≤ 1
unit_le true = omega arith
unit_le false = omega arith

pub held_free : (s : State) (worker member : ℕ) → IsState s → held_by s worker ≡ Some member → times member s.pending ≡ 0
held_free s worker member is holds =
    let within = worker_of s.held worker member holds in
    let count = how_many_set (is_number member) s.held worker None None within in
    let here : unit (is_number member (get_or s.held worker None)) ≡ 1 = ap (λ o. unit (is_number member o)) holds ∙ ap unit (eq-eqb member member refl) in
    let all = is.places member in
    let most = unit_le (has_fact s.world (Live member)) in
    omega arith

pub any_held_free : (s : State) (member : ℕ) → IsState s → is_held s.held member ≡ true → times member s.pending ≡ 0
any_held_free s member is held =
    let some = any_counts (is_number member) s.held held in
    let all = is.places member in
    let most = unit_le (has_fact s.world (Live member)) in
    omega arith

pub held_member : (s : State) (worker member : ℕ) → IsState s → held_by s worker ≡ Some member → member < s.shape.members
held_member s worker member is holds =
    let within = worker_of s.held worker member holds in
    let count = how_many_set (is_number member) s.held worker None None within in
    let here : unit (is_number member (get_or s.held worker None)) ≡ 1 = ap (λ o. unit (is_number member o)) holds ∙ ap unit (eq-eqb member member refl) in
    let live = live_of s is member (omega arith) in
    subst (λ (k : Shape). member < k.members) is.shape (is.world.inside (Live member) live)

-- the first pending member
pub front_of : (xs : List ℕ) (member : ℕ) → first_of xs ≡ Some member → ((rest : List ℕ) × (xs ≡ member ∷ rest)) × (0 < times member xs)
front_of [] member h = absurd (cc)
front_of (x ∷ xs) member h =
    let e : x ≡ member = cc in
    let one : unit (nat_eq x member) ≡ 1 = ap unit (eq-eqb x member e) in
    ((xs, ap (λ k. k ∷ xs) e), omega arith)

pub no_front : (xs : List ℕ) → first_of xs ≡ None → xs ≡ []
no_front [] h = refl
no_front (x ∷ xs) h = absurd (cc)

pub no_front_some : (xs : List ℕ) → is_some (first_of xs) ≡ false → xs ≡ []
no_front_some [] h = refl
no_front_some (x ∷ xs) h = absurd (true≢false h)

-- what is pending is a member
pub pending_member : (s : State) (member : ℕ) → IsState s → 0 < times member s.pending → member < s.shape.members
pending_member s member is there =
    let live = live_of s is member (omega arith) in
    subst (λ (k : Shape). member < k.members) is.shape (is.world.inside (Live member) live)

-- the events, by what the worklist has then
pub held_set_event : (s : State) (worker member : ℕ) (pending : List ℕ) → pending ≡ without_node member s.pending
    → record { shape = s.shape; roots = s.roots; world = s.world; pending = pending; settled = s.settled; held = set s.held worker (Some member); history = s.history } ≡ happens s (Take worker member)
held_set_event s worker member pending h = λ i. record { shape = s.shape; roots = s.roots; world = s.world; pending = h i; settled = s.settled; held = set s.held worker (Some member); history = s.history }

pub returned_event : (s : State) (worker member : ℕ) (pending : List ℕ) → pending ≡ s.pending ++ member ∷ []
    → record { shape = s.shape; roots = s.roots; world = s.world; pending = pending; settled = s.settled; held = set s.held worker None; history = s.history } ≡ returned s worker member
returned_event s worker member pending h = λ i. record { shape = s.shape; roots = s.roots; world = s.world; pending = h i; settled = s.settled; held = set s.held worker None; history = s.history }

pub reclaimed_event : (s : State) (pending : List ℕ) (held : List (Option ℕ)) → pending ≡ s.pending ++ numbers_where (is_held s.held) s.shape.members → held ≡ replicate (length s.held) None
    → record { shape = s.shape; roots = s.roots; world = s.world; pending = pending; settled = s.settled; held = held; history = s.history } ≡ happens s Reclaim
reclaimed_event s pending held p h = λ i. record { shape = s.shape; roots = s.roots; world = s.world; pending = p i; settled = s.settled; held = h i; history = s.history }

pub taken_state : (d : Inside) (t : State) (worker member : ℕ) → IsDesk d → worker < length d.held.items → held_by (state_of d) worker ≡ None → 0 < times member (nodes_in d.pending 0)
    → t ≡ happens (state_of d) (Take worker member) → IsState t
taken_state d t worker member is within idle there event = subst IsState (sym event) (taken_kept (state_of d) worker member is.state (within, idle, there))

pub returned_state : (d : Inside) (t : State) (worker member : ℕ) → IsDesk d → held_by (state_of d) worker ≡ Some member → t ≡ returned (state_of d) worker member → IsState t
returned_state d t worker member is holds event = subst IsState (sym event) (returned_kept (state_of d) worker member is.state holds)

pub reclaimed_state : (d : Inside) (t : State) → IsDesk d → t ≡ happens (state_of d) Reclaim → IsState t
reclaimed_state d t is event = subst IsState (sym event) (reclaimed_kept (state_of d) is.state)

pub accepted_state : (d : Inside) (t : State) (worker : ℕ) (j : Impact) (whole : Bool) → IsDesk d → held_by (state_of d) worker ≡ Some j.member → IsInShape d.shape j → all_within d.world j.reads ≡ true → whole ≡ all_same d.world j.reads
    → t ≡ accepted (state_of d) worker j whole (absent_of d.world j.facts) → IsState t
accepted_state d t worker j whole is holds shape within same event =
    subst IsState (sym (event ∙ ap (λ b. accepted (state_of d) worker j b (absent_of d.world j.facts)) same)) (accepted_kept (state_of d) worker j is.state holds shape within)

-- who wakes was not pending
pub woken_free : (s : State) (worker : ℕ) (j : Impact) (whole : Bool) → IsState s → held_by s worker ≡ Some j.member → IsInShape s.shape j → all_within s.world j.reads ≡ true → whole ≡ all_same s.world j.reads
    → (n : ℕ) → n < s.shape.members → is_woken (absent_of s.world j.facts) (settled_with s.settled j whole) j.member whole n ≡ true → times n s.pending ≡ 0
woken_free s worker j whole is holds shape within same n below wakes =
    let p = is_woken (absent_of s.world j.facts) (settled_with s.settled j whole) j.member whole in
    let after : IsState (accepted s worker j whole (absent_of s.world j.facts)) = subst (λ b. IsState (accepted s worker j b (absent_of s.world j.facts))) (sym same) (accepted_kept s worker j is holds shape within) in
    let all = after.places n in
    let both : times n (s.pending ++ numbers_where p s.shape.members) ≡ times n s.pending + times n (numbers_where p s.shape.members) = how_many_append (λ x. nat_eq x n) s.pending (numbers_where p s.shape.members) in
    let one : times n (numbers_where p s.shape.members) ≡ 1 = times_where p s.shape.members n below ∙ ap unit wakes in
    let most = unit_le (has_fact (accepted s worker j whole (absent_of s.world j.facts)).world (Live n)) in
    omega arith

-- reclaiming
pub all_none : (xs : List (Option ℕ)) (n : ℕ) → n ≡ length xs → ((k : ℕ) → k < length xs → get_or xs k None ≡ None) → xs ≡ replicate n None
all_none [] zero h each = refl
all_none [] (suc n) h each = absurd (omega arith)
all_none (x ∷ xs) zero h each = absurd (omega arith)
all_none (x ∷ xs) (suc n) h each =
    let here : x ≡ None = each 0 (omega arith) in
    let rest = all_none xs n (omega arith) (λ k less. each (suc k) (omega arith)) in
    λ i. here i ∷ rest i

pub next_more : (p : ℕ → Bool) (n : ℕ) → p n ≡ true → numbers_where p (n + 1) ≡ numbers_where p n ++ n ∷ []
next_more p n h = ap (λ k. numbers_where p k) (add-one n) ∙ ap (λ b. numbers_where p n ++ cond b (n ∷ []) []) h

pub next_same : (p : ℕ → Bool) (n : ℕ) → p n ≡ false → numbers_where p (n + 1) ≡ numbers_where p n
next_same p n h = ap (λ k. numbers_where p k) (add-one n) ∙ ap (λ b. numbers_where p n ++ cond b (n ∷ []) []) h ∙ append-nil (numbers_where p n)

-- a number is in no front of the numbers that pass
pub past_free : (p : ℕ → Bool) (n : ℕ) (xs : List ℕ) → times n xs ≡ 0 → times n (xs ++ numbers_where p n) ≡ 0
past_free p n xs h = how_many_append (λ x. nat_eq x n) xs (numbers_where p n) ∙ (let front = times_past p n n (omega arith) in omega arith)

-- one more member, or none
pub next_cleared : (p : ℕ → Bool) (n : ℕ) (xs : List (Option Impact)) → p n ≡ true → without p (n + 1) xs ≡ set (without p n xs) n None
next_cleared p n xs h = ap (λ k. without p k xs) (add-one n) ∙ ap (λ b. cond b (set (without p n xs) n None) (without p n xs)) h

pub next_kept : (p : ℕ → Bool) (n : ℕ) (xs : List (Option Impact)) → p n ≡ false → without p (n + 1) xs ≡ without p n xs
next_kept p n xs h = ap (λ k. without p k xs) (add-one n) ∙ ap (λ b. cond b (set (without p n xs) n None) (without p n xs)) h

-- what a member settles on
pub settled_is : (xs : List (Option Impact)) (j : Impact) (whole : Bool) (kept : Option Impact) → kept ≡ cond whole (Some j) None → settled_by xs j.member kept ≡ settled_with xs j whole
settled_is xs j whole kept h = ap (settled_by xs j.member) h ∙ go whole
  where
    go : (b : Bool) → settled_by xs j.member (cond b (Some j) None) ≡ settled_with xs j b
    go true = refl
    go false = refl

pub length_settled : (xs : List (Option Impact)) (member : ℕ) (kept : Option Impact) → length (settled_by xs member kept) ≡ length xs
length_settled xs member None = refl
length_settled xs member (Some j) = length-set xs member (Some j)

-- finishing
pub none_held : (held : List (Option ℕ)) → list_any is_some held ≡ false → (worker : ℕ) → get_or held worker None ≡ None
none_held [] h worker = get_or_past [] worker None (omega arith)
none_held (None ∷ held) h zero = refl
none_held (Some m ∷ held) h worker = absurd (true≢false h)
none_held (None ∷ held) h (suc worker) = none_held held h worker

pub idle_none : (held : List (Option ℕ)) → ((worker : ℕ) → get_or held worker None ≡ None) → list_any is_some held ≡ false
idle_none [] each = refl
idle_none (o ∷ held) each =
    ap (λ x. is_some x || list_any is_some held) (each 0) ∙ idle_none held (λ worker. each (suc worker))

-- the parts of a join that was not dropped make the event
pub made_event : (d e : Inside) (worker : ℕ) (j : Impact) (whole : Bool) (added : List Fact) (settled : List (Option Impact))
    → e.shape ≡ d.shape → e.roots ≡ d.roots
    → e.world ≡ with_facts d.world j.facts
    → added ≡ absent_of d.world j.facts
    → settled ≡ settled_with d.settled.items j whole
    → nodes_in e.pending 0 ≡ nodes_in d.pending 0 ++ numbers_where (is_woken added settled j.member whole) d.shape.members
    → e.settled.items ≡ without (is_woken added settled j.member whole) d.shape.members settled
    → e.held.items ≡ set d.held.items worker None
    → e.history.entries.items ≡ d.history.entries.items ++ record { worker = worker; impact = j; whole = whole; added = added } ∷ []
    → state_of e ≡ accepted (state_of d) worker j whole (absent_of d.world j.facts)
made_event d e worker j whole added settled shape roots world new keeps pending cleared held history =
    let p : (fs : List Fact) (xs : List (Option Impact)) (n : ℕ) → Bool = λ fs xs. is_woken fs xs j.member whole in
    let pending2 : nodes_in e.pending 0 ≡ nodes_in d.pending 0 ++ numbers_where (p (absent_of d.world j.facts) (settled_with d.settled.items j whole)) d.shape.members =
    pending ∙ ap (λ fs. nodes_in d.pending 0 ++ numbers_where (p fs settled) d.shape.members) new ∙ ap (λ xs. nodes_in d.pending 0 ++ numbers_where (p (absent_of d.world j.facts) xs) d.shape.members) keeps in
    let settled2 : e.settled.items ≡ without (p (absent_of d.world j.facts) (settled_with d.settled.items j whole)) d.shape.members (settled_with d.settled.items j whole) =
    cleared ∙ ap (λ fs. without (p fs settled) d.shape.members settled) new ∙ ap (λ xs. without (p (absent_of d.world j.facts) xs) d.shape.members xs) keeps in
    let history2 : e.history.entries.items ≡ d.history.entries.items ++ record { worker = worker; impact = j; whole = whole; added = absent_of d.world j.facts } ∷ [] =
    history ∙ ap (λ fs. d.history.entries.items ++ record { worker = worker; impact = j; whole = whole; added = fs } ∷ []) new in
    λ i. record { shape = shape i; roots = roots i; world = world i; pending = pending2 i; settled = settled2 i; held = held i; history = history2 i }

-- the start
pub started_state : (t : State) (shape : Shape) (roots : List Fact) (workers : ℕ) → AllByRecursion (InShape shape) roots → t ≡ start shape roots workers → IsState t
started_state t shape roots workers room event = subst IsState (sym event) (started shape roots workers room)

pub start_event : (e : Inside) (shape : Shape) (roots : List Fact) (workers : ℕ) (world : Facts)
    → e.shape ≡ shape → e.roots ≡ roots → e.world ≡ world → world ≡ roots_of shape roots
    → nodes_in e.pending 0 ≡ numbers_where (λ n. has_fact world (Live n)) e.shape.members
    → e.settled.items ≡ replicate e.shape.members None → e.held.items ≡ replicate workers None → e.history.entries.items ≡ []
    → state_of e ≡ start shape roots workers
start_event e shape roots workers world shape_is roots_is world_is is pending settled held history =
    let pending2 : nodes_in e.pending 0 ≡ numbers_where (λ n. has_fact (roots_of shape roots) (Live n)) shape.members =
    pending ∙ ap (λ w. numbers_where (λ n. has_fact w (Live n)) e.shape.members) is ∙ ap (λ (s : Shape). numbers_where (λ n. has_fact (roots_of shape roots) (Live n)) s.members) shape_is in
    let settled2 : e.settled.items ≡ replicate shape.members None = settled ∙ ap (λ (s : Shape). replicate s.members None) shape_is in
    let world2 = world_is ∙ is in
    λ i. record { shape = shape_is i; roots = roots_is i; world = world2 i; pending = pending2 i; settled = settled2 i; held = held i; history = history i }
