-- What lists of events give.
use Rattle.std.proofs.Common.{◌≡◌, ◌≢◌, ℕ, ◌<◌, Bool, true, false, cond, ◌&&◌, ◌||◌, List, [], ◌∷◌, ◌++◌, length, refl, sym, ap, ◌∙◌, arith, subst, ⊎_elim, get_or, set, Option, Some, None, replicate}
use Rattle.std.proofs.lemmas.Bool.{true≢false}
use Rattle.std.proofs.lemmas.Bool.Decides.{eqb_tells}
use Rattle.std.proofs.lemmas.List.{get_or-set_same, get_or-set_other, length-set, length-replicate, get_or-replicate}
use Rattle.type_masks.specs.Masks.{is_within}
use Rattle.std.specs.Prelude.{nat_eq, is_some}
use Rattle.std.specs.List.{AllByRecursion}
use Rattle.world_state.specs.Facts.{InShape, is_among}
use Rattle.world_state.specs.Worlds.{Facts, mask_at, has_fact, with_facts, absent_of, IsWorld, empty_of}
use Rattle.type_masks.specs.declared.shape.Shape.{Shape}
use Rattle.world_state.specs.declared.fact.Fact.{Fact}
use Rattle.world_state.specs.declared.fact.Fact.TheVariants.{In, Live}
use Rattle.world_state.specs.declared.reads.SlotRead.{SlotRead}
use Rattle.world_state.specs.declared.impact.Impact.{Impact}
use Rattle.type_masks.proofs.Sets.{or_true, or_right, or_cases}
use Rattle.world_state.proofs.Absent.{with_absent, absent_in_shape}
use Rattle.world_state.proofs.WorldFacts.{has_withs, world_withs, shape_withs, world_empty, none_in_empty, within_from}
use Rattle.enqueuer_core.specs.declared.history.Entry.{Entry}
use Rattle.enqueuer_core.specs.Least.{Meaning, Agrees, IsBelow, IsOfShape, IsLawful, Derives, root, given, IsLeast, IsOneOf}
use Rattle.enqueuer_core.specs.Core.{State, Event, Take, Join, Give_back, Reclaim, is_number, held_by, all_within, all_same, accepted, returned, given_back, happens, how_many, times, May, MayAll, run, roots_of, start, IsLegalAt, replay, IsLegal, last_whole, IsState, IsIdle}
use Rattle.enqueuer_core.specs.LawsOfCore.{IsEventOf, brings, NoneDropped, DerivedAlways, LeastWhenIdle, NeverDropped}
use Rattle.enqueuer_core.proofs.LeastWorlds.{facts_below}
use Rattle.enqueuer_core.proofs.Counts.{unit, all_default}
use Rattle.enqueuer_core.proofs.Kept.{kept, started, worker_of}

-- each impact of the history is one of m
abbrev pub AreOf : Meaning → List Entry → Type 0
AreOf m es = AllByRecursion (λ (e : Entry). IsOneOf m e.impact) es

-- the world after an entry
module _ (w : Facts) (e : Entry) (is : IsWorld w) (at : IsLegalAt w e) where
  entry_room : AllByRecursion (InShape w.shape) e.added
  entry_room = subst (λ fs. AllByRecursion (InShape w.shape) fs) (sym at.added) (absent_in_shape w e.impact.facts is at.shape.facts)

  entry_world : IsWorld (with_facts w e.added)
  entry_world = world_withs w e.added is entry_room

  entry_is : with_facts w e.added ≡ with_facts w e.impact.facts
  entry_is = ap (λ fs. with_facts w fs) at.added ∙ with_absent w e.impact.facts is at.shape.facts

  entry_has : (f : Fact) → has_fact (with_facts w e.added) f ≡ (is_among e.impact.facts f || has_fact w f)
  entry_has f = ap (λ v. has_fact v f) entry_is ∙ has_withs w e.impact.facts f is at.shape.facts

pub replay_grows : (w : Facts) (es : List Entry) → IsWorld w → IsLegal w es → (f : Fact) → has_fact w f ≡ true → has_fact (replay w es) f ≡ true
replay_grows w [] is legal f h = h
replay_grows w (e ∷ es) is legal f h =
    replay_grows (with_facts w e.added) es (entry_world w e is legal.0) legal.1 f (entry_has w e is legal.0 f ∙ or_right (is_among e.impact.facts f) (has_fact w f) h)

-- the replay of a legal history of impacts of m has only what is derived
pub replay_derived : (m : Meaning) → IsLawful m → (w : Facts) → IsOfShape m.shape w → ((f : Fact) → has_fact w f ≡ true → Derives m f) → (es : List Entry) → IsLegal w es → AreOf m es → (f : Fact) → has_fact (replay w es) f ≡ true → Derives m f
replay_derived m laws w of base [] legal ours f h = base f h
replay_derived m laws w of base (e ∷ es) legal ours f h =
    replay_derived m laws (with_facts w e.added)
    record { world = entry_world w e of.world legal.0; shape = shape_withs w e.added ∙ of.shape }
    (λ g hg.
    ⊎_elim
    (λ (now : is_among e.impact.facts g ≡ true).
    given e.impact.member w ours.0.member of base (base (Live e.impact.member) legal.0.live) (facts_below m laws w of e.impact ours.0 legal.0.within g now))
    (λ (old : has_fact w g ≡ true). base g old)
    (or_cases (is_among e.impact.facts g) (has_fact w g) (sym (entry_has w e of.world legal.0 g) ∙ hg)))
    es legal.1 ours.1 f h

-- the last whole entry of a member is an entry
last_of : (m : Meaning) (es : List Entry) → AreOf m es → (n : ℕ) (found : Option Impact) (j : Impact) → (found ≡ Some j → IsOneOf m j) → last_whole es n found ≡ Some j → IsOneOf m j
last_of m [] ours n found j base h = base h
last_of m (e ∷ es) ours n found j base h =
    last_of m es ours.1 n (cond (e.whole && nat_eq e.impact.member n) (Some e.impact) found) j (first (e.whole && nat_eq e.impact.member n)) h
  where
    some_is : (x y : Impact) → Some x ≡ Some y → x ≡ y
    some_is x y e = cc

    first : (b : Bool) → cond b (Some e.impact) found ≡ Some j → IsOneOf m j
    first true h = subst (λ i. IsOneOf m i) (some_is e.impact j h) ours.0
    first false h = base h

roots_derived : (m : Meaning) → IsLawful m → (f : Fact) → has_fact (roots_of m.shape m.roots) f ≡ true → Derives m f
roots_derived m laws f h =
    ⊎_elim (λ (now : is_among m.roots f ≡ true). root now) (λ (old : has_fact (empty_of m.shape) f ≡ true). absurd (true≢false (sym old ∙ none_in_empty m.shape f)))
    (or_cases (is_among m.roots f) (has_fact (empty_of m.shape) f) (sym (has_withs (empty_of m.shape) m.roots f (world_empty m.shape) laws.roots) ∙ h))

roots_world : (m : Meaning) → IsLawful m → IsOfShape m.shape (roots_of m.shape m.roots)
roots_world m laws = record { world = world_withs (empty_of m.shape) m.roots (world_empty m.shape) laws.roots; shape = shape_withs (empty_of m.shape) m.roots }

-- a state over the shape and roots of m whose history is one of m
module _ (m : Meaning) (laws : IsLawful m) (s : State) (is : IsState s) (shape : s.shape ≡ m.shape) (roots : s.roots ≡ m.roots) (ours : AreOf m s.history) where
  roots_are : roots_of s.shape s.roots ≡ roots_of m.shape m.roots
  roots_are = λ i. roots_of (shape i) (roots i)

  legal : IsLegal (roots_of m.shape m.roots) s.history
  legal = subst (λ w. IsLegal w s.history) roots_are is.legal

  replayed : replay (roots_of m.shape m.roots) s.history ≡ s.world
  replayed = ap (λ w. replay w s.history) (sym roots_are) ∙ is.replayed

  pub world_derived : (f : Fact) → has_fact s.world f ≡ true → Derives m f
  world_derived f h =
      replay_derived m laws (roots_of m.shape m.roots) (roots_world m laws) (roots_derived m laws) s.history legal ours f
      (ap (λ w. has_fact w f) replayed ∙ h)

  of_shape : IsOfShape m.shape s.world
  of_shape = record { world = is.world; shape = is.shape ∙ shape }

  pub idle_least : IsIdle s → IsLeast m s.world
  idle_least idle =
      record {
        world = of_shape;
        derived = world_derived;
        closed = record {
          roots = λ f h.
              let there : has_fact (roots_of m.shape m.roots) f ≡ true =
              has_withs (empty_of m.shape) m.roots f (world_empty m.shape) laws.roots ∙ or_true (is_among m.roots f) (has_fact (empty_of m.shape) f) h in
              ap (λ w. has_fact w f) (sym replayed) ∙ replay_grows (roots_of m.shape m.roots) s.history (roots_world m laws).world legal f there;
          rules = λ n live f h. rules n live (get_or s.settled n None) refl f h;
        };
      }
    where
      some_impact : (n : ℕ) → has_fact s.world (Live n) ≡ true → unit (is_some (get_or s.settled n None)) ≡ 1
      some_impact n live =
          let old = is.places n in
          let one : unit (has_fact s.world (Live n)) ≡ 1 = ap unit live in
          let pending : times n s.pending ≡ 0 = ap (λ xs. times n xs) idle.pending in
          let held : how_many (is_number n) s.held ≡ 0 = all_default (is_number n) s.held None refl idle.held in
          omega arith

      none_zero : unit (is_some {T = Impact} None) ≡ 0
      none_zero = refl

      rules : (n : ℕ) → has_fact s.world (Live n) ≡ true → (o : Option Impact) → get_or s.settled n None ≡ o → (f : Fact) → is_among (m.impact n s.world).facts f ≡ true → has_fact s.world f ≡ true
      rules n live None at f h =
          let some = some_impact n live in
          let none : unit (is_some (get_or s.settled n None)) ≡ 0 = ap (λ o. unit (is_some o)) at in
          absurd (omega arith)
      rules n live (Some j) at f h =
          let settled = is.settled n j at in
          let one : IsOneOf m j = last_of m s.history ours n None j (λ e. absurd (none_some j e)) settled.last in
          let seen : Agrees (m.impact j.member one.at).reads s.world = subst (λ (i : Impact). Agrees i.reads s.world) one.is settled.reads in
          let same : m.impact j.member s.world ≡ m.impact j.member one.at = laws.same j.member one.at s.world one.member one.world of_shape seen in
          let is_j : m.impact n s.world ≡ j = ap (λ k. m.impact k s.world) (sym settled.member) ∙ same ∙ sym one.is in
          settled.facts f (subst (λ (i : Impact). is_among i.facts f ≡ true) is_j h)
        where
          none_some : (j : Impact) → None ≡ Some j → ⊥
          none_some j e = cc

-- lists of events
pub run_kept : (es : List Event) (s : State) → IsState s → MayAll s es → IsState (run s es)
run_kept [] s is may = is
run_kept (e ∷ es) s is may = run_kept es (happens s e) (kept s e is may.0) may.1

pub shape_kept : (s : State) (e : Event) → ((happens s e).shape ≡ s.shape) × ((happens s e).roots ≡ s.roots) × (length (happens s e).held ≡ length s.held)
shape_kept s (Take worker member) = (refl, refl, length-set s.held worker (Some member))
shape_kept s (Join worker j) =
    elim (all_within s.world j.reads) as (λ b.
    ((cond b (accepted s worker j (all_same s.world j.reads) (absent_of s.world j.facts)) (returned s worker j.member)).shape ≡ s.shape)
    × ((cond b (accepted s worker j (all_same s.world j.reads) (absent_of s.world j.facts)) (returned s worker j.member)).roots ≡ s.roots)
    × (length (cond b (accepted s worker j (all_same s.world j.reads) (absent_of s.world j.facts)) (returned s worker j.member)).held ≡ length s.held)) [
      | true ↦ (refl, refl, length-set s.held worker None)
      | false ↦ (refl, refl, length-set s.held worker None)
    ]
shape_kept s (Give_back worker) = go (held_by s worker)
  where
    go : (o : Option ℕ) → ((given_back s worker o).shape ≡ s.shape) × ((given_back s worker o).roots ≡ s.roots) × (length (given_back s worker o).held ≡ length s.held)
    go None = (refl, refl, refl)
    go (Some m) = (refl, refl, length-set s.held worker None)
shape_kept s Reclaim = (refl, refl, length-replicate {A = Option ℕ} (length s.held) None)

run_shape : (es : List Event) (s : State) → ((run s es).shape ≡ s.shape) × ((run s es).roots ≡ s.roots)
run_shape [] s = (refl, refl)
run_shape (e ∷ es) s =
    let one = shape_kept s e in
    let rest = run_shape es (happens s e) in
    (rest.0 ∙ one.0, rest.1 ∙ one.1)

of_snoc : (m : Meaning) (es : List Entry) (e : Entry) → AreOf m es → IsOneOf m e.impact → AreOf m (es ++ e ∷ [])
of_snoc m [] e ours one = (one, tt)
of_snoc m (x ∷ es) e ours one = (ours.0, of_snoc m es e ours.1 one)

pub history_of : (m : Meaning) (s : State) (e : Event) → AreOf m s.history → IsEventOf m e → AreOf m (happens s e).history
history_of m s (Take worker member) ours one = ours
history_of m s (Join worker j) ours one =
    elim (all_within s.world j.reads) as (λ b. AreOf m (cond b (accepted s worker j (all_same s.world j.reads) (absent_of s.world j.facts)) (returned s worker j.member)).history) [
      | true ↦ of_snoc m s.history (record { worker = worker; impact = j; whole = all_same s.world j.reads; added = absent_of s.world j.facts }) ours one
      | false ↦ ours
    ]
history_of m s (Give_back worker) ours one = go (held_by s worker)
  where
    go : (o : Option ℕ) → AreOf m (given_back s worker o).history
    go None = ours
    go (Some n) = ours
history_of m s Reclaim ours one = ours

run_of : (m : Meaning) (es : List Event) (s : State) → AreOf m s.history → AllByRecursion (IsEventOf m) es → AreOf m (run s es).history
run_of m [] s ours all = ours
run_of m (e ∷ es) s ours all = run_of m es (happens s e) (history_of m s e ours all.0) all.1

pub derived_always : DerivedAlways
derived_always m laws workers es may all f h =
    let s = start m.shape m.roots workers in
    let same = run_shape es s in
    world_derived m laws (run s es) (run_kept es s (started m.shape m.roots workers laws.roots) may) same.0 same.1 (run_of m es s tt all) f h

pub least_when_idle : LeastWhenIdle
least_when_idle m laws workers es may all idle =
    let s = start m.shape m.roots workers in
    let same = run_shape es s in
    idle_least m laws (run s es) (run_kept es s (started m.shape m.roots workers laws.roots) may) same.0 same.1 (run_of m es s tt all) idle

-- worlds only grow
grows : (s : State) (e : Event) → IsState s → May s e → IsBelow s.world (happens s e).world
grows s (Take worker member) is may f h = h
grows s (Join worker j) is may f h =
    elim (all_within s.world j.reads) as (λ b. has_fact (cond b (accepted s worker j (all_same s.world j.reads) (absent_of s.world j.facts)) (returned s worker j.member)).world f ≡ true) [
      | true ↦ has_withs s.world j.facts f is.world (subst (λ sh. AllByRecursion (InShape sh) j.facts) (sym is.shape) may.1.facts) ∙ or_right (is_among j.facts f) (has_fact s.world f) h
      | false ↦ h
    ]
grows s (Give_back worker) is may f h = go (held_by s worker)
  where
    go : (o : Option ℕ) → has_fact (given_back s worker o).world f ≡ true
    go None = h
    go (Some n) = h
grows s Reclaim is may f h = h

within_all : (v w : Facts) (rs : List SlotRead) → Agrees rs v → IsBelow v w → all_within w rs ≡ true
within_all v w [] agrees below = refl
within_all v w (r ∷ rs) agrees below =
    let here : is_within r.mask (mask_at w r.slot) ≡ true =
    subst (λ k. is_within k (mask_at w r.slot) ≡ true) agrees.0 (within_from (mask_at v r.slot) (mask_at w r.slot) (λ k h. below (In r.slot k) h)) in
    ap (λ b. b && all_within w rs) here ∙ within_all v w rs agrees.1 below

-- the worlds of the last takes lie below the world now
record AreBelow (m : Meaning) (taken : List Facts) (s : State) : Type 0 where
  long : length taken ≡ length s.held
  of : (worker : ℕ) (d : Facts) → worker < length taken → IsOfShape m.shape (get_or taken worker d)
  below : (worker : ℕ) (d : Facts) → worker < length taken → IsBelow (get_or taken worker d) s.world

below_later : (m : Meaning) (taken : List Facts) (s : State) (e : Event) → IsState s → May s e → AreBelow m taken s → AreBelow m taken (happens s e)
below_later m taken s e is may b =
    record {
      long = b.long ∙ sym (shape_kept s e).2;
      of = b.of;
      below = λ worker d within f h. grows s e is may f (b.below worker d within f h);
    }

below_taken : (m : Meaning) (taken : List Facts) (s : State) (worker member : ℕ) → IsState s → IsOfShape m.shape s.world → May s (Take worker member) → AreBelow m taken s → AreBelow m (set taken worker s.world) (happens s (Take worker member))
below_taken m taken s worker member is of may b =
    record {
      long = length-set taken worker s.world ∙ b.long ∙ sym (length-set s.held worker (Some member));
      of = λ k d within. place k d within (λ v. IsOfShape m.shape v) of (λ apart. b.of k d (within_old k within));
      below = λ k d within. place k d within (λ v. IsBelow v s.world) (λ f h. h) (λ apart. b.below k d (within_old k within));
    }
  where
    within_old : (k : ℕ) → k < length (set taken worker s.world) → k < length taken
    within_old k h = omega (arith, length-set taken worker s.world)

    place : (k : ℕ) (d : Facts) → k < length (set taken worker s.world) → (P : Facts → Type 0) → P s.world → (k ≢ worker → P (get_or taken k d)) → P (get_or (set taken worker s.world) k d)
    place k d within P new old =
        ⊎_elim
        (λ (is : (nat_eq k worker ≡ true) × (k ≡ worker)).
        let room : worker < length taken = omega (arith, b.long, may.0) in
        subst (λ i. P (get_or (set taken worker s.world) i d)) (sym is.1) (subst P (sym (get_or-set_same taken worker s.world d room)) new))
        (λ (is : (nat_eq k worker ≡ false) × (k ≢ worker)). subst P (sym (get_or-set_other taken worker k s.world d is.1)) (old is.1))
        (eqb_tells k worker)

module _ (m : Meaning) (laws : IsLawful m) where
  none_dropped : (es : List Event) (taken : List Facts) (s : State) → IsState s → s.shape ≡ m.shape → MayAll s es → brings m taken s es → AreBelow m taken s → NoneDropped s es
  none_dropped [] taken s is shape may fresh b = tt
  none_dropped (Take worker member ∷ es) taken s is shape may fresh b =
      none_dropped es (set taken worker s.world) (happens s (Take worker member)) (kept s (Take worker member) is may.0) shape may.1 fresh
      (below_taken m taken s worker member is (record { world = is.world; shape = is.shape ∙ shape }) may.0 b)
  none_dropped (Join worker j ∷ es) taken s is shape may fresh b =
      let e = Join worker j in
      let exists = worker_of s.held worker j.member may.0.0 in
      let room : worker < length taken = omega (arith, b.long) in
      let v = get_or taken worker s.world in
      let member : j.member < m.shape.members = subst (λ (sh : Shape). j.member < sh.members) shape may.0.1.member in
      let agrees : Agrees j.reads v = subst (λ (i : Impact). Agrees i.reads v) (sym fresh.0) (laws.reads j.member v member (b.of worker s.world room)) in (
        within_all v s.world j.reads agrees (b.below worker s.world room),
        none_dropped es taken (happens s e) (kept s e is may.0) ((shape_kept s e).0 ∙ shape) may.1 fresh.1 (below_later m taken s e is may.0 b),
      )
  none_dropped (Give_back worker ∷ es) taken s is shape may fresh b =
      let e = Give_back worker in
      none_dropped es taken (happens s e) (kept s e is may.0) ((shape_kept s e).0 ∙ shape) may.1 fresh (below_later m taken s e is may.0 b)
  none_dropped (Reclaim ∷ es) taken s is shape may fresh b =
      none_dropped es taken (happens s Reclaim) (kept s Reclaim is may.0) shape may.1 fresh (below_later m taken s Reclaim is may.0 b)

pub never_dropped : NeverDropped
never_dropped m laws workers es may fresh =
    let s = start m.shape m.roots workers in
    let is = started m.shape m.roots workers laws.roots in
    let of : IsOfShape m.shape s.world = record { world = is.world; shape = is.shape } in
    none_dropped m laws es (replicate workers s.world) s is refl may fresh
    record {
      long = length-replicate workers s.world ∙ sym (length-replicate {A = Option ℕ} workers None);
      of = λ worker d within. subst (λ v. IsOfShape m.shape v) (sym (first workers s.world worker d within)) of;
      below = λ worker d within. subst (λ v. IsBelow v s.world) (sym (first workers s.world worker d within)) (λ f h. h);
    }
  where
    first : (workers : ℕ) (w : Facts) (worker : ℕ) (d : Facts) → worker < length (replicate workers w) → get_or (replicate workers w) worker d ≡ w
    first workers w worker d within = get_or-replicate workers worker w d (omega (arith, length-replicate workers w))
