-- The core as a machine over events.
use Rattle.std.specs.Prelude.{◌≡◌, ℕ, zero, suc, ◌+◌, ◌<◌, Bool, true, false, not, ◌&&◌, ◌||◌, nat_eq, List, [], ◌∷◌, ◌++◌, length, slice_index_or, slice_set, if◌then◌else◌, replicate, Option, Some, None, is_some, ⊤}
use Rattle.std.specs.List.{AllByRecursion, list_any, list_all}
use Rattle.type_masks.specs.Masks.{is_within, is_same}
use Rattle.index_links.specs.Lists.{without_node}
use Rattle.world_state.specs.Facts.{is_among, InShape, is_of_slot}
use Rattle.world_state.specs.Worlds.{Facts, mask_at, has_fact, with_facts, absent_of, IsWorld, empty_of}
use Rattle.type_masks.specs.declared.shape.Shape.{Shape}
use Rattle.world_state.specs.declared.fact.Fact.{Fact}
use Rattle.world_state.specs.declared.fact.Fact.TheVariants.{Live}
use Rattle.world_state.specs.declared.reads.SlotRead.{SlotRead}
use Rattle.world_state.specs.declared.impact.Impact.{Impact}
use Rattle.enqueuer_core.specs.declared.history.Entry.{Entry}
use Rattle.enqueuer_core.specs.Least.{IsInShape, Agrees}

-- a state of the core
pub record State : Type 0 where
  pub shape : Shape
  pub roots : List Fact
  pub world : Facts
  pub pending : List ℕ  -- in order
  pub settled : List (Option Impact)  -- of each settled member, the impact of its last whole join
  pub held : List (Option ℕ)  -- of each worker, the member that it holds
  pub history : List Entry

-- what may happen
pub data Event : Type 0 where
  Take : (worker member : ℕ) → Event
  Join : (worker : ℕ) → Impact → Event
  Give_back : (worker : ℕ) → Event
  Reclaim : Event

-- the numbers below n that pass, in order
abbrev pub numbers_where : (ℕ → Bool) → ℕ → List ℕ
numbers_where p zero = []
numbers_where p (suc n) = numbers_where p n ++ (if p n then n ∷ [] else [])

-- the impacts, without those of the members below n that pass
abbrev pub without : (ℕ → Bool) → ℕ → List (Option Impact) → List (Option Impact)
without p zero xs = xs
without p (suc n) xs = if p n then slice_set (without p n xs) n None else without p n xs

abbrev pub is_number : ℕ → Option ℕ → Bool
is_number n None = false
is_number n (Some m) = nat_eq m n

-- whether some worker holds the member
abbrev pub is_held : List (Option ℕ) → ℕ → Bool
is_held held n = list_any (is_number n) held

-- the member that the worker holds
abbrev pub held_by : State → ℕ → Option ℕ
held_by s worker = slice_index_or s.held worker None

-- each mask that was read lies in the mask now; equals the mask now
abbrev pub all_within : Facts → List SlotRead → Bool
all_within w rs = list_all (λ r. is_within r.mask (mask_at w r.slot)) rs

abbrev pub all_same : Facts → List SlotRead → Bool
all_same w rs = list_all (λ r. is_same r.mask (mask_at w r.slot)) rs

-- whether one of the reads is of a slot that the added facts raise
abbrev pub is_raised : List Fact → List SlotRead → Bool
is_raised added rs = list_any (λ r. list_any (is_of_slot r.slot) added) rs

abbrev pub has_raised : List Fact → Option Impact → Bool
has_raised added None = false
has_raised added (Some j) = is_raised added j.reads

-- whether a member becomes pending: it is newly live, or a read of its settled impact became stale, or it is the one that joined and its join was not whole
abbrev pub is_awake : List Fact → Option Impact → ℕ → Bool → ℕ → Bool
is_awake added settled joined whole n = is_among added (Live n) || (has_raised added settled || (not whole && nat_eq joined n))

-- the same of each member, by the settled impacts
abbrev pub is_woken : List Fact → List (Option Impact) → ℕ → Bool → ℕ → Bool
is_woken added settled joined whole n = is_awake added (slice_index_or settled n None) joined whole n

-- the settled impacts with what a member settles on, if it does
abbrev pub settled_by : List (Option Impact) → ℕ → Option Impact → List (Option Impact)
settled_by settled member None = settled
settled_by settled member (Some j) = slice_set settled member (Some j)

-- the settled impacts with that of a whole join
abbrev pub settled_with : List (Option Impact) → Impact → Bool → List (Option Impact)
settled_with settled j whole = if whole then slice_set settled j.member (Some j) else settled

-- after a join that was not dropped
abbrev pub accepted : State → ℕ → Impact → Bool → List Fact → State
accepted s worker j whole added =
    record {
      shape = s.shape;
      roots = s.roots;
      world = with_facts s.world j.facts;
      pending = s.pending ++ numbers_where (is_woken added (settled_with s.settled j whole) j.member whole) s.shape.members;
      settled = without (is_woken added (settled_with s.settled j whole) j.member whole) s.shape.members (settled_with s.settled j whole);
      held = slice_set s.held worker None;
      history = s.history ++ record { worker = worker; impact = j; whole = whole; added = added } ∷ [];
    }

-- the member that a worker held stands behind all others
abbrev pub returned : State → ℕ → ℕ → State
returned s worker member =
    record {
      shape = s.shape;
      roots = s.roots;
      world = s.world;
      pending = s.pending ++ member ∷ [];
      settled = s.settled;
      held = slice_set s.held worker None;
      history = s.history;
    }

abbrev pub given_back : State → ℕ → Option ℕ → State
given_back s worker None = s
given_back s worker (Some member) = returned s worker member

abbrev pub happens : State → Event → State
happens s (Take worker member) =
    record {
      shape = s.shape;
      roots = s.roots;
      world = s.world;
      pending = without_node member s.pending;
      settled = s.settled;
      held = slice_set s.held worker (Some member);
      history = s.history;
    }
happens s (Join worker j) =
    if all_within s.world j.reads then accepted s worker j (all_same s.world j.reads) (absent_of s.world j.facts) else returned s worker j.member
happens s (Give_back worker) = given_back s worker (held_by s worker)
happens s Reclaim =
    record {
      shape = s.shape;
      roots = s.roots;
      world = s.world;
      pending = s.pending ++ numbers_where (is_held s.held) s.shape.members;
      settled = s.settled;
      held = replicate (length s.held) None;
      history = s.history;
    }

-- how many elements pass
abbrev pub how_many : {X : Type 0} → (X → Bool) → List X → ℕ
how_many p [] = 0
how_many p (x ∷ xs) = (if p x then 1 else 0) + how_many p xs

-- how often a number stands in a list
abbrev pub times : ℕ → List ℕ → ℕ
times n xs = how_many (λ x. nat_eq x n) xs

-- whether the event may come
abbrev pub May : State → Event → Type 0
May s (Take worker member) = (worker < length s.held) × (held_by s worker ≡ None) × (0 < times member s.pending)
May s (Join worker j) = (held_by s worker ≡ Some j.member) × IsInShape s.shape j
May s (Give_back worker) = (member : ℕ) × (held_by s worker ≡ Some member)
May s Reclaim = ⊤

abbrev pub run : State → List Event → State
run s [] = s
run s (e ∷ es) = run (happens s e) es

-- each event may come where it stands
abbrev pub MayAll : State → List Event → Type 0
MayAll s [] = ⊤
MayAll s (e ∷ es) = May s e × MayAll (happens s e) es

-- the world of the roots
abbrev pub roots_of : Shape → List Fact → Facts
roots_of shape roots = with_facts (empty_of shape) roots

abbrev pub start : Shape → List Fact → ℕ → State
start shape roots workers =
    record {
      shape = shape;
      roots = roots;
      world = roots_of shape roots;
      pending = numbers_where (λ n. has_fact (roots_of shape roots) (Live n)) shape.members;
      settled = replicate shape.members None;
      held = replicate workers None;
      history = [];
    }

-- the world before an entry allows it
pub record IsLegalAt (w : Facts) (e : Entry) : Type 0 where
  pub live : has_fact w (Live e.impact.member) ≡ true
  pub shape : IsInShape w.shape e.impact
  pub within : all_within w e.impact.reads ≡ true
  pub added : e.added ≡ absent_of w e.impact.facts
  pub whole : e.whole ≡ true → all_same w e.impact.reads ≡ true

abbrev pub replay : Facts → List Entry → Facts
replay w [] = w
replay w (e ∷ es) = replay (with_facts w e.added) es

abbrev pub IsLegal : Facts → List Entry → Type 0
IsLegal w [] = ⊤
IsLegal w (e ∷ es) = IsLegalAt w e × IsLegal (with_facts w e.added) es

-- the impact of the member's last entry that is marked whole
abbrev pub last_whole : List Entry → ℕ → Option Impact → Option Impact
last_whole [] n found = found
last_whole (e ∷ es) n found = last_whole es n (if e.whole && nat_eq e.impact.member n then Some e.impact else found)

-- in how many places a member stands
abbrev pub places : State → ℕ → ℕ
places s n = times n s.pending + (how_many (is_number n) s.held + (if is_some (slice_index_or s.settled n None) then 1 else 0))

-- what is settled is up to date
pub record IsSettled (s : State) (n : ℕ) (j : Impact) : Type 0 where
  pub member : j.member ≡ n
  pub last : last_whole s.history n None ≡ Some j
  pub reads : Agrees j.reads s.world
  pub facts : (f : Fact) → is_among j.facts f ≡ true → has_fact s.world f ≡ true

-- what every event keeps
pub record IsState (s : State) : Type 0 where
  pub world : IsWorld s.world
  pub shape : s.world.shape ≡ s.shape
  pub roots : AllByRecursion (InShape s.shape) s.roots
  pub room : length s.settled ≡ s.shape.members
  -- each live member is pending, held or settled, and is just one of these
  pub places : (n : ℕ) → places s n ≡ (if has_fact s.world (Live n) then 1 else 0)
  pub settled : (n : ℕ) (j : Impact) → slice_index_or s.settled n None ≡ Some j → IsSettled s n j
  -- the history is legal, and its replay is the world
  pub legal : IsLegal (roots_of s.shape s.roots) s.history
  pub replayed : replay (roots_of s.shape s.roots) s.history ≡ s.world

-- nothing is pending and nothing held
pub record IsIdle (s : State) : Type 0 where
  pub pending : s.pending ≡ []
  pub held : (worker : ℕ) → held_by s worker ≡ None
