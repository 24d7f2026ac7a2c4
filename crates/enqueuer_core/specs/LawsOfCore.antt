-- What holds of every list of events of the core, whatever the schedule is.
use Rattle.std.specs.Prelude.{◌≡◌, ℕ, true, List, [], ◌∷◌, slice_index_or, slice_set, replicate, ⊤}
use Rattle.std.specs.List.{AllByRecursion}
use Rattle.world_state.specs.Worlds.{Facts, has_fact}
use Rattle.world_state.specs.declared.fact.Fact.{Fact}
use Rattle.enqueuer_core.specs.Least.{Meaning, IsOneOf, IsLawful, Derives, IsLeast}
use Rattle.enqueuer_core.specs.Core.{State, Event, Take, Join, Give_back, Reclaim, happens, run, MayAll, start, roots_of, all_within, IsIdle}

-- each joined impact is that of some world of the shape
abbrev pub IsEventOf : Meaning → Event → Type 0
IsEventOf m (Take worker member) = ⊤
IsEventOf m (Join worker j) = IsOneOf m j
IsEventOf m (Give_back worker) = ⊤
IsEventOf m Reclaim = ⊤

-- each join brings the impact of the world of its own take, where taken has, of each worker, the world of its last take
abbrev pub brings : Meaning → List Facts → State → List Event → Type 0
brings m taken s [] = ⊤
brings m taken s (Take worker member ∷ es) = brings m (slice_set taken worker s.world) (happens s (Take worker member)) es
brings m taken s (Join worker j ∷ es) = (j ≡ m.impact j.member (slice_index_or taken worker s.world)) × brings m taken (happens s (Join worker j)) es
brings m taken s (Give_back worker ∷ es) = brings m taken (happens s (Give_back worker)) es
brings m taken s (Reclaim ∷ es) = brings m taken (happens s Reclaim) es

-- no join is dropped
abbrev pub NoneDropped : State → List Event → Type 0
NoneDropped s [] = ⊤
NoneDropped s (Take worker member ∷ es) = NoneDropped (happens s (Take worker member)) es
NoneDropped s (Join worker j ∷ es) = (all_within s.world j.reads ≡ true) × NoneDropped (happens s (Join worker j)) es
NoneDropped s (Give_back worker ∷ es) = NoneDropped (happens s (Give_back worker)) es
NoneDropped s (Reclaim ∷ es) = NoneDropped (happens s Reclaim) es

-- whatever events come and whatever worlds the impacts are of, the world has only what is derived
abbrev pub DerivedAlways : Type 0
DerivedAlways =
    (m : Meaning) → IsLawful m → (workers : ℕ) (es : List Event) → MayAll (start m.shape m.roots workers) es → AllByRecursion (IsEventOf m) es
    → (f : Fact) → has_fact (run (start m.shape m.roots workers) es).world f ≡ true → Derives m f

-- where nothing is pending and nothing held, it is the least
abbrev pub LeastWhenIdle : Type 0
LeastWhenIdle =
    (m : Meaning) → IsLawful m → (workers : ℕ) (es : List Event) → MayAll (start m.shape m.roots workers) es → AllByRecursion (IsEventOf m) es
    → IsIdle (run (start m.shape m.roots workers) es) → IsLeast m (run (start m.shape m.roots workers) es).world

-- where each join brings the impact of the world of its own take, none is dropped
abbrev pub NeverDropped : Type 0
NeverDropped =
    (m : Meaning) → IsLawful m → (workers : ℕ) (es : List Event) → MayAll (start m.shape m.roots workers) es
    → brings m (replicate workers (roots_of m.shape m.roots)) (start m.shape m.roots workers) es → NoneDropped (start m.shape m.roots workers) es
