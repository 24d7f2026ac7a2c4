-- Every event keeps what a state is.
use Rattle.std.proofs.Common.{◌≡◌, ◌≢◌, ℕ, ◌+◌, ◌<◌, ◌≤◌, Bool, true, false, not, cond, ◌&&◌, ◌||◌, List, [], ◌∷◌, ◌++◌, length, refl, sym, ap, ◌∙◌, arith, subst, inl, inr, ⊎_elim, ◌⊎◌, get_or, set, Option, Some, None, replicate}
use Rattle.std.proofs.lemmas.Bool.{eq-eqb, true≢false, cases_lt}
use Rattle.std.proofs.lemmas.Bool.Decides.{eqb_tells}
use Rattle.std.proofs.lemmas.List.{get_or-set_same, get_or-set_other, length-set, get_or-replicate, get_or_past, length-replicate}
use Rattle.std.specs.Prelude.{nat_eq, is_some}
use Rattle.std.specs.List.{list_any, AllByRecursion}
use Rattle.type_masks.specs.Masks.{is_same}
use Rattle.world_state.specs.Facts.{InShape, is_among, is_of_slot}
use Rattle.world_state.specs.Worlds.{Facts, mask_at, has_fact, with_facts, absent_of, IsWorld, empty_of}
use Rattle.type_masks.specs.declared.shape.Shape.{Shape}
use Rattle.world_state.specs.declared.fact.Fact.{Fact}
use Rattle.world_state.specs.declared.fact.Fact.TheVariants.{Live}
use Rattle.world_state.specs.declared.reads.SlotRead.{SlotRead}
use Rattle.world_state.specs.declared.impact.Impact.{Impact}
use Rattle.type_masks.proofs.Sets.{and_true, or_true, or_right}
use Rattle.world_state.proofs.Absent.{with_absent, absent_in_shape, absent_none}
use Rattle.world_state.proofs.WorldFacts.{has_withs, world_withs, shape_withs, world_empty, mask_withs, or_none_left, or_none_right, same_is}
use Rattle.enqueuer_core.specs.declared.history.Entry.{Entry}
use Rattle.enqueuer_core.specs.Least.{Agrees, IsInShape}
use Rattle.enqueuer_core.specs.Core.{State, Event, Take, Join, Give_back, Reclaim, numbers_where, without, is_number, is_held, held_by, all_within, all_same, is_raised, has_raised, is_woken, settled_with, accepted, returned, given_back, happens, how_many, times, May, roots_of, start, IsLegalAt, replay, IsLegal, last_whole, places, IsSettled, IsState}
use Rattle.enqueuer_core.proofs.Counts.{unit, how_many_append, how_many_set, how_many_none, any_counts, none_counts, times_push, times_past, times_where, times_without_node, length_without, without_at, without_past}

-- what is settled stays so where neither the world nor the history changes
settled_same : (s t : State) → s.world ≡ t.world → s.history ≡ t.history → (n : ℕ) (j : Impact) → IsSettled s n j → IsSettled t n j
settled_same s t worlds histories n j is =
    record {
      member = is.member;
      last = subst (λ h. last_whole h n None ≡ Some j) histories is.last;
      reads = subst (λ w. Agrees j.reads w) worlds is.reads;
      facts = λ f h. subst (λ w. has_fact w f ≡ true) worlds (is.facts f h);
    }

-- a worker that holds a member exists
pub worker_of : (held : List (Option ℕ)) (worker m : ℕ) → get_or held worker None ≡ Some m → worker < length held
worker_of held worker m h =
    ⊎_elim (λ (within : worker < length held). within)
    (λ past. absurd (none_is_not m (sym (get_or_past held worker None past) ∙ h)))
    (cases_lt worker (length held))
  where
    none_is_not : (m : ℕ) → None ≡ Some m → ⊥
    none_is_not m e = cc

held_after : (held : List (Option ℕ)) (worker m n : ℕ) → get_or held worker None ≡ Some m → how_many (is_number n) (set held worker None) + unit (nat_eq m n) ≡ how_many (is_number n) held
held_after held worker m n h =
    let within = worker_of held worker m h in
    let all = how_many_set (is_number n) held worker None None within in
    let mine : unit (is_number n (get_or held worker None)) ≡ unit (nat_eq m n) = ap (λ o. unit (is_number n o)) h in
    omega arith

held_counts : (held : List (Option ℕ)) (worker m : ℕ) → get_or held worker None ≡ Some m → 0 < how_many (is_number m) held
held_counts held worker m h =
    let all = held_after held worker m m h in
    let one : unit (nat_eq m m) ≡ 1 = ap unit (eq-eqb m m refl) in
    omega arith

unit_le : (b : Bool) → unit b ≤ 1
unit_le true = omega arith
unit_le false = omega arith

unit_one : (b : Bool) → unit b ≡ 1 → b ≡ true
unit_one true h = refl
unit_one false h = absurd (omega arith)

unit_none : (b : Bool) → unit b ≡ 0 → b ≡ false
unit_none true h = absurd (omega arith)
unit_none false h = refl

-- what stands in some place is live
pub live_of : (s : State) → IsState s → (n : ℕ) → 0 < places s n → has_fact s.world (Live n) ≡ true
live_of s is n h = let at = is.places n in let most = unit_le (has_fact s.world (Live n)) in unit_one (has_fact s.world (Live n)) (omega arith)

pub taken_kept : (s : State) (worker member : ℕ) → IsState s → May s (Take worker member) → IsState (happens s (Take worker member))
taken_kept s worker member is may =
    record {
      world = is.world;
      shape = is.shape;
      roots = is.roots;
      room = is.room;
      legal = is.legal;
      replayed = is.replayed;
      settled = λ n j h. settled_same s (happens s (Take worker member)) refl refl n j (is.settled n j h);
      places = λ n.
          let old = is.places n in
          let pending = times_without_node member n s.pending may.2 in
          let held = how_many_set (is_number n) s.held worker (Some member) None may.0 in
          let idle : unit (is_number n (get_or s.held worker None)) ≡ 0 = ap (λ o. unit (is_number n o)) may.1 in
          let mine : unit (is_number n (Some member)) ≡ unit (nat_eq member n) = refl in
          omega arith;
    }

pub returned_kept : (s : State) (worker member : ℕ) → IsState s → held_by s worker ≡ Some member → IsState (returned s worker member)
returned_kept s worker member is holds =
    record {
      world = is.world;
      shape = is.shape;
      roots = is.roots;
      room = is.room;
      legal = is.legal;
      replayed = is.replayed;
      settled = λ n j h. settled_same s (returned s worker member) refl refl n j (is.settled n j h);
      places = λ n.
          let old = is.places n in
          let pending = times_push n member s.pending in
          let held = held_after s.held worker member n holds in
          omega arith;
    }

pub given_back_kept : (s : State) (worker : ℕ) → IsState s → May s (Give_back worker) → IsState (happens s (Give_back worker))
given_back_kept s worker is may = subst (λ o. IsState (given_back s worker o)) (sym may.1) (returned_kept s worker may.0 is may.1)

pub reclaimed_kept : (s : State) → IsState s → IsState (happens s Reclaim)
reclaimed_kept s is =
    record {
      world = is.world;
      shape = is.shape;
      roots = is.roots;
      room = is.room;
      legal = is.legal;
      replayed = is.replayed;
      settled = λ n j h. settled_same s (happens s Reclaim) refl refl n j (is.settled n j h);
      places = λ n.
          let old = is.places n in
          let most = unit_le (has_fact s.world (Live n)) in
          let pending = how_many_append (λ x. nat_eq x n) s.pending (numbers_where (is_held s.held) s.shape.members) in
          let none = how_many_none (is_number n) (length s.held) None refl in
          let moved = moved n in
          omega arith;
    }
  where
    counted : (n : ℕ) (b : Bool) → is_held s.held n ≡ b → how_many (is_number n) s.held ≤ 1 → unit b ≡ how_many (is_number n) s.held
    counted n true h most = let some = any_counts (is_number n) s.held h in omega arith
    counted n false h most = sym (none_counts (is_number n) s.held h)

    moved : (n : ℕ) → times n (numbers_where (is_held s.held) s.shape.members) ≡ how_many (is_number n) s.held
    moved n =
        let old = is.places n in
        let most = unit_le (has_fact s.world (Live n)) in
        let one : how_many (is_number n) s.held ≤ 1 = omega arith in
        ⊎_elim
        (λ (below : n < s.shape.members). times_where (is_held s.held) s.shape.members n below ∙ counted n (is_held s.held n) refl one)
        (λ (past : s.shape.members ≤ n).
        let dead : has_fact s.world (Live n) ≡ false = dead_past n past in
        let none : unit (has_fact s.world (Live n)) ≡ 0 = ap unit dead in
        let front = times_past (is_held s.held) s.shape.members n past in
        omega arith)
        (cases_lt n s.shape.members)
      where
        dead_past : (n : ℕ) → s.shape.members ≤ n → has_fact s.world (Live n) ≡ false
        dead_past n past = go (has_fact s.world (Live n)) refl
          where
            go : (b : Bool) → has_fact s.world (Live n) ≡ b → b ≡ false
            go true h =
                let inside : n < s.shape.members = subst (λ (k : Shape). n < k.members) is.shape (is.world.inside (Live n) h) in
                absurd (omega arith)
            go false h = refl

-- histories
pub legal_snoc : (w : Facts) (es : List Entry) (e : Entry) → IsLegal w es → IsLegalAt (replay w es) e → IsLegal w (es ++ e ∷ [])
legal_snoc w [] e legal at = (at, tt)
legal_snoc w (x ∷ es) e legal at = (legal.0, legal_snoc (with_facts w x.added) es e legal.1 at)

pub replay_snoc : (w : Facts) (es : List Entry) (e : Entry) → replay w (es ++ e ∷ []) ≡ with_facts (replay w es) e.added
replay_snoc w [] e = refl
replay_snoc w (x ∷ es) e = replay_snoc (with_facts w x.added) es e

pub last_snoc : (es : List Entry) (e : Entry) (n : ℕ) (found : Option Impact) → last_whole (es ++ e ∷ []) n found ≡ cond (e.whole && nat_eq e.impact.member n) (Some e.impact) (last_whole es n found)
last_snoc [] e n found = refl
last_snoc (x ∷ es) e n found = last_snoc es e n (cond (x.whole && nat_eq x.impact.member n) (Some x.impact) found)

-- reads that are the same now, and reads whose slots were not raised
pub same_agrees : (w : Facts) (rs : List SlotRead) → all_same w rs ≡ true → Agrees rs w
same_agrees w [] h = tt
same_agrees w (r ∷ rs) h =
    let both = and_true (is_same r.mask (mask_at w r.slot)) (all_same w rs) h in
    (sym (same_is r.mask (mask_at w r.slot) both.0), same_agrees w rs both.1)

agrees_after : (w v : Facts) (added : List Fact) (rs : List SlotRead) → v ≡ with_facts w added → Agrees rs w → is_raised added rs ≡ false → Agrees rs v
agrees_after w v added [] is a h = tt
agrees_after w v added (r ∷ rs) is a h =
    let here : list_any (is_of_slot r.slot) added ≡ false = or_none_left (list_any (is_of_slot r.slot) added) (is_raised added rs) h in
    let rest : is_raised added rs ≡ false = or_none_right (list_any (is_of_slot r.slot) added) (is_raised added rs) h in
    (ap (λ (x : Facts). mask_at x r.slot) is ∙ mask_withs w added r.slot here ∙ a.0, agrees_after w v added rs is a.1 rest)

some_is : {X : Type 0} (x y : X) → Some x ≡ Some y → x ≡ y
some_is x y e = cc

some_none : {X : Type 0} (x : X) → None ≡ Some x → ⊥
some_none x e = cc

cond_some : {X : Type 0} (b : Bool) (o : Option X) (x : X) → cond b None o ≡ Some x → (b ≡ false) × (o ≡ Some x)
cond_some true o x h = absurd (some_none x h)
cond_some false o x h = (refl, h)

eq_false : (a b : ℕ) → a ≢ b → nat_eq a b ≡ false
eq_false a b apart = ⊎_elim (λ (is : (nat_eq a b ≡ true) × (a ≡ b)). absurd (apart is.1)) (λ (is : (nat_eq a b ≡ false) × (a ≢ b)). is.0) (eqb_tells a b)

true_or_false : (b : Bool) → (b ≡ true) ⊎ (b ≡ false)
true_or_false true = inl refl
true_or_false false = inr refl

-- a join that was not dropped
module _ (s : State) (worker : ℕ) (j : Impact) (is : IsState s) (holds : held_by s worker ≡ Some j.member) (in_shape : IsInShape s.shape j) (within : all_within s.world j.reads ≡ true) where
  abbrev whole : Bool
  whole = all_same s.world j.reads

  abbrev added : List Fact
  added = absent_of s.world j.facts

  abbrev after : Facts
  after = with_facts s.world j.facts

  abbrev settled_now : List (Option Impact)
  settled_now = settled_with s.settled j whole

  abbrev woken : ℕ → Bool
  woken = is_woken added settled_now j.member whole

  abbrev entry : Entry
  entry = record { worker = worker; impact = j; whole = whole; added = added }

  facts_room : AllByRecursion (InShape s.world.shape) j.facts
  facts_room = subst (λ sh. AllByRecursion (InShape sh) j.facts) (sym is.shape) in_shape.facts

  after_is : after ≡ with_facts s.world added
  after_is = sym (with_absent s.world j.facts is.world facts_room)

  has_after : (f : Fact) → has_fact after f ≡ (is_among added f || has_fact s.world f)
  has_after f = ap (λ w. has_fact w f) after_is ∙ has_withs s.world added f is.world (absent_in_shape s.world j.facts is.world facts_room)

  grown : (f : Fact) → has_fact s.world f ≡ true → has_fact after f ≡ true
  grown f h = has_after f ∙ or_right (is_among added f) (has_fact s.world f) h

  given_holds : (f : Fact) → is_among j.facts f ≡ true → has_fact after f ≡ true
  given_holds f h = has_withs s.world j.facts f is.world facts_room ∙ or_true (is_among j.facts f) (has_fact s.world f) h

  live_now : has_fact s.world (Live j.member) ≡ true
  live_now = let one = held_counts s.held worker j.member holds in live_of s is j.member (omega arith)

  settled_room : length settled_now ≡ s.shape.members
  settled_room =
      elim whole as (λ b. length (settled_with s.settled j b) ≡ s.shape.members) [
        | true ↦ length-set s.settled j.member (Some j) ∙ is.room
        | false ↦ is.room
      ]

  -- the settled impact of another member stays
  settled_other : (n : ℕ) → j.member ≢ n → get_or settled_now n None ≡ get_or s.settled n None
  settled_other n apart =
      elim whole as (λ b. get_or (settled_with s.settled j b) n None ≡ get_or s.settled n None) [
        | true ↦ get_or-set_other s.settled j.member n (Some j) None (λ e. apart (sym e))
        | false ↦ refl
      ]

  settled_mine : whole ≡ true → get_or settled_now j.member None ≡ Some j
  settled_mine w =
      let room : j.member < length s.settled = omega (arith, is.room, in_shape.member) in
      ap (λ b. get_or (settled_with s.settled j b) j.member None) w ∙ get_or-set_same s.settled j.member (Some j) None room

  abbrev left : ℕ → Option Impact
  left n = get_or (without woken s.shape.members settled_now) n None

  left_at : (n : ℕ) → n < s.shape.members → left n ≡ cond (woken n) None (get_or settled_now n None)
  left_at n below = without_at woken s.shape.members n settled_now below (omega (arith, settled_room))

  left_past : (n : ℕ) → s.shape.members ≤ n → left n ≡ None
  left_past n past = without_past woken s.shape.members n settled_now past ∙ get_or_past settled_now n None (omega (arith, settled_room))

  kept_settled : (n : ℕ) (i : Impact) → left n ≡ Some i → IsSettled (accepted s worker j whole added) n i
  kept_settled n i h =
      ⊎_elim (λ (below : n < s.shape.members). at below) (λ past. absurd (some_none i (sym (left_past n past) ∙ h))) (cases_lt n s.shape.members)
    where
      mine : (woken n ≡ false) → (get_or settled_now n None ≡ Some i) → (nat_eq j.member n ≡ true) → (j.member ≡ n) → IsSettled (accepted s worker j whole added) n i
      mine asleep found test same =
          let part : (not whole && nat_eq j.member n) ≡ false = or_none_right (has_raised added (get_or settled_now n None)) (not whole && nat_eq j.member n) (or_none_right (is_among added (Live n)) (has_raised added (get_or settled_now n None) || (not whole && nat_eq j.member n)) asleep) in
          let unraised : has_raised added (get_or settled_now n None) ≡ false = or_none_left (has_raised added (get_or settled_now n None)) (not whole && nat_eq j.member n) (or_none_right (is_among added (Live n)) (has_raised added (get_or settled_now n None) || (not whole && nat_eq j.member n)) asleep) in
          let is_whole : whole ≡ true = whole_from whole (sym (ap (λ b. not whole && b) test) ∙ part) in
          let here : Some j ≡ Some i = sym (ap (λ k. get_or settled_now k None) (sym same) ∙ settled_mine is_whole) ∙ found in
          let is_j : j ≡ i = some_is j i here in
          let quiet : is_raised added i.reads ≡ false = sym (ap (λ o. has_raised added o) found) ∙ unraised in
          subst (λ (k : Impact). IsSettled (accepted s worker j whole added) n k) is_j
          record {
            member = same;
            last = last_snoc s.history entry n None ∙ ap (λ b. cond (b && nat_eq j.member n) (Some j) (last_whole s.history n None)) is_whole ∙ ap (λ b. cond b (Some j) (last_whole s.history n None)) test;
            reads = agrees_after s.world after added j.reads after_is (same_agrees s.world j.reads is_whole) (subst (λ (k : Impact). is_raised added k.reads ≡ false) (sym is_j) quiet);
            facts = given_holds;
          }
        where
          whole_from : (b : Bool) → (not b && true) ≡ false → b ≡ true
          whole_from true h = refl
          whole_from false h = absurd (true≢false h)

      theirs : (woken n ≡ false) → (get_or settled_now n None ≡ Some i) → (nat_eq j.member n ≡ false) → (j.member ≢ n) → IsSettled (accepted s worker j whole added) n i
      theirs asleep found test apart =
          let unraised : has_raised added (get_or settled_now n None) ≡ false = or_none_left (has_raised added (get_or settled_now n None)) (not whole && nat_eq j.member n) (or_none_right (is_among added (Live n)) (has_raised added (get_or settled_now n None) || (not whole && nat_eq j.member n)) asleep) in
          let old : IsSettled s n i = is.settled n i (sym (settled_other n apart) ∙ found) in
          let quiet : is_raised added i.reads ≡ false = sym (ap (λ o. has_raised added o) found) ∙ unraised in
          record {
            member = old.member;
            last = last_snoc s.history entry n None ∙ ap (λ b. cond (whole && b) (Some j) (last_whole s.history n None)) test ∙ ap (λ b. cond b (Some j) (last_whole s.history n None)) (none_of whole) ∙ old.last;
            reads = agrees_after s.world after added i.reads after_is old.reads quiet;
            facts = λ f h. grown f (old.facts f h);
          }
        where
          none_of : (b : Bool) → (b && false) ≡ false
          none_of true = refl
          none_of false = refl

      at : n < s.shape.members → IsSettled (accepted s worker j whole added) n i
      at below =
          let both = cond_some (woken n) (get_or settled_now n None) i (sym (left_at n below) ∙ h) in
          ⊎_elim
          (λ (is : (nat_eq j.member n ≡ true) × (j.member ≡ n)). mine both.0 both.1 is.0 is.1)
          (λ (is : (nat_eq j.member n ≡ false) × (j.member ≢ n)). theirs both.0 both.1 is.0 is.1)
          (eqb_tells j.member n)

  -- where each member stands
  not_settled : (n : ℕ) → has_fact s.world (Live n) ≡ false → (unit (is_some (get_or s.settled n None)) ≡ 0) × (how_many (is_number n) s.held ≡ 0) × (times n s.pending ≡ 0)
  not_settled n dead =
      let old = is.places n in
      let none : unit (has_fact s.world (Live n)) ≡ 0 = ap unit dead in
      (omega arith, omega arith, omega arith)

  not_mine : (n : ℕ) → how_many (is_number n) s.held ≡ 0 → nat_eq j.member n ≡ false
  not_mine n none =
      eq_false j.member n (λ same.
      let some : 0 < how_many (is_number n) s.held = subst (λ k. 0 < how_many (is_number k) s.held) same (held_counts s.held worker j.member holds) in
      absurd (omega arith))

  moves : (n : ℕ) → n < s.shape.members → unit (woken n) + unit (is_some (left n)) + unit (has_fact s.world (Live n)) ≡ unit (nat_eq j.member n) + unit (is_some (get_or s.settled n None)) + unit (has_fact after (Live n))
  moves n below = ⊎_elim born stays (true_or_false (is_among added (Live n)))
    where
      at : left n ≡ cond (woken n) None (get_or settled_now n None)
      at = left_at n below

      born : is_among added (Live n) ≡ true → unit (woken n) + unit (is_some (left n)) + unit (has_fact s.world (Live n)) ≡ unit (nat_eq j.member n) + unit (is_some (get_or s.settled n None)) + unit (has_fact after (Live n))
      born new =
          let dead : has_fact s.world (Live n) ≡ false = absent_none s.world j.facts (Live n) is.world facts_room new in
          let now : has_fact after (Live n) ≡ true = has_after (Live n) ∙ or_true (is_among added (Live n)) (has_fact s.world (Live n)) new in
          let awake : woken n ≡ true = or_true (is_among added (Live n)) (has_raised added (get_or settled_now n None) || (not whole && nat_eq j.member n)) new in
          let none = not_settled n dead in
          let a : unit (woken n) ≡ 1 = ap unit awake in
          let b : unit (is_some (left n)) ≡ 0 = ap (λ o. unit (is_some o)) (at ∙ ap (λ b. cond b None (get_or settled_now n None)) awake) in
          let c : unit (has_fact s.world (Live n)) ≡ 0 = ap unit dead in
          let d : unit (nat_eq j.member n) ≡ 0 = ap unit (not_mine n none.1) in
          let e : unit (is_some (get_or s.settled n None)) ≡ 0 = none.0 in
          let f : unit (has_fact after (Live n)) ≡ 1 = ap unit now in
          omega arith

      -- either it is pending now, or it is settled now
      one_place : (b : Bool) → woken n ≡ b → is_some (get_or settled_now n None) ≡ true → unit (woken n) + unit (is_some (left n)) ≡ 1
      one_place true awake found =
          let a : unit (woken n) ≡ 1 = ap unit awake in
          let b : unit (is_some (left n)) ≡ 0 = ap (λ o. unit (is_some o)) (at ∙ ap (λ b. cond b None (get_or settled_now n None)) awake) in
          omega arith
      one_place false asleep found =
          let a : unit (woken n) ≡ 0 = ap unit asleep in
          let b : unit (is_some (left n)) ≡ 1 = ap (λ o. unit (is_some o)) (at ∙ ap (λ b. cond b None (get_or settled_now n None)) asleep) ∙ ap unit found in
          omega arith

      mine : (nat_eq j.member n ≡ true) → j.member ≡ n → unit (woken n) + unit (is_some (left n)) ≡ 1
      mine test same = ⊎_elim finished unfinished (true_or_false whole)
        where
          finished : whole ≡ true → unit (woken n) + unit (is_some (left n)) ≡ 1
          finished w = one_place (woken n) refl (ap is_some (ap (λ k. get_or settled_now k None) (sym same) ∙ settled_mine w))

          unfinished : whole ≡ false → unit (woken n) + unit (is_some (left n)) ≡ 1
          unfinished w =
              let part : (not whole && nat_eq j.member n) ≡ true = ap (λ b. not b && nat_eq j.member n) w ∙ test in
              let awake : woken n ≡ true = or_right (is_among added (Live n)) _ (or_right (has_raised added (get_or settled_now n None)) (not whole && nat_eq j.member n) part) in
              let a : unit (woken n) ≡ 1 = ap unit awake in
              let b : unit (is_some (left n)) ≡ 0 = ap (λ o. unit (is_some o)) (at ∙ ap (λ b. cond b None (get_or settled_now n None)) awake) in
              omega arith

      theirs : is_among added (Live n) ≡ false → nat_eq j.member n ≡ false → j.member ≢ n → unit (woken n) + unit (is_some (left n)) ≡ unit (is_some (get_or s.settled n None))
      theirs old test apart = ⊎_elim there gone (true_or_false (is_some (get_or s.settled n None)))
        where
          there : is_some (get_or s.settled n None) ≡ true → unit (woken n) + unit (is_some (left n)) ≡ unit (is_some (get_or s.settled n None))
          there found = one_place (woken n) refl (ap is_some (settled_other n apart) ∙ found) ∙ ap unit (sym found)

          none_raised : (o : Option Impact) → is_some o ≡ false → has_raised added o ≡ false
          none_raised None h = refl
          none_raised (Some i) h = absurd (true≢false h)

          none_of : (b : Bool) → (b && false) ≡ false
          none_of true = refl
          none_of false = refl

          gone : is_some (get_or s.settled n None) ≡ false → unit (woken n) + unit (is_some (left n)) ≡ unit (is_some (get_or s.settled n None))
          gone none =
              let now : is_some (get_or settled_now n None) ≡ false = ap is_some (settled_other n apart) ∙ none in
              let asleep : woken n ≡ false =
              ap (λ b. b || (has_raised added (get_or settled_now n None) || (not whole && nat_eq j.member n))) old
              ∙ ap (λ b. b || (not whole && nat_eq j.member n)) (none_raised (get_or settled_now n None) now)
              ∙ ap (λ b. not whole && b) test ∙ none_of (not whole) in
              let a : unit (woken n) ≡ 0 = ap unit asleep in
              let b : unit (is_some (left n)) ≡ 0 = ap (λ o. unit (is_some o)) (at ∙ ap (λ b. cond b None (get_or settled_now n None)) asleep) ∙ ap unit now in
              let c : unit (is_some (get_or s.settled n None)) ≡ 0 = ap unit none in
              omega arith

      stays : is_among added (Live n) ≡ false → unit (woken n) + unit (is_some (left n)) + unit (has_fact s.world (Live n)) ≡ unit (nat_eq j.member n) + unit (is_some (get_or s.settled n None)) + unit (has_fact after (Live n))
      stays old =
          let same_life : unit (has_fact after (Live n)) ≡ unit (has_fact s.world (Live n)) = ap unit (has_after (Live n) ∙ ap (λ b. b || has_fact s.world (Live n)) old) in
          ⊎_elim
          (λ (is_mine : (nat_eq j.member n ≡ true) × (j.member ≡ n)).
          let one = mine is_mine.0 is_mine.1 in
          let places_now = is.places n in
          let most = unit_le (has_fact s.world (Live n)) in
          let some : 0 < how_many (is_number n) s.held = subst (λ k. 0 < how_many (is_number k) s.held) is_mine.1 (held_counts s.held worker j.member holds) in
          let a : unit (nat_eq j.member n) ≡ 1 = ap unit is_mine.0 in
          omega arith)
          (λ (other : (nat_eq j.member n ≡ false) × (j.member ≢ n)).
          let moved = theirs old other.0 other.1 in
          let a : unit (nat_eq j.member n) ≡ 0 = ap unit other.0 in
          omega arith)
          (eqb_tells j.member n)

  dead_past : (w : Facts) → IsWorld w → w.shape ≡ s.shape → (n : ℕ) → s.shape.members ≤ n → has_fact w (Live n) ≡ false
  dead_past w is_world shape n past = go (has_fact w (Live n)) refl
    where
      go : (b : Bool) → has_fact w (Live n) ≡ b → b ≡ false
      go true h =
          let inside : n < s.shape.members = subst (λ (k : Shape). n < k.members) shape (is_world.inside (Live n) h) in
          absurd (omega arith)
      go false h = refl

  kept_places : (n : ℕ) → places (accepted s worker j whole added) n ≡ unit (has_fact after (Live n))
  kept_places n =
      let old = is.places n in
      let pending = how_many_append (λ x. nat_eq x n) s.pending (numbers_where woken s.shape.members) in
      let held = held_after s.held worker j.member n holds in
      ⊎_elim
      (λ (below : n < s.shape.members).
      let front = times_where woken s.shape.members n below in
      let change = moves n below in
      omega arith)
      (λ (past : s.shape.members ≤ n).
      let none = not_settled n (dead_past s.world is.world is.shape n past) in
      let dead : unit (has_fact after (Live n)) ≡ 0 = ap unit (dead_past after (world_withs s.world j.facts is.world facts_room) (shape_withs s.world j.facts ∙ is.shape) n past) in
      let front = times_past woken s.shape.members n past in
      let a = none.1 in
      let b = none.2 in
      let c : unit (is_some (left n)) ≡ 0 = ap (λ o. unit (is_some o)) (left_past n past) in
      omega arith)
      (cases_lt n s.shape.members)

  pub accepted_kept : IsState (accepted s worker j whole added)
  accepted_kept =
      record {
        world = world_withs s.world j.facts is.world facts_room;
        shape = shape_withs s.world j.facts ∙ is.shape;
        roots = is.roots;
        room = length_without woken s.shape.members settled_now ∙ settled_room;
        places = kept_places;
        settled = kept_settled;
        legal = legal_snoc (roots_of s.shape s.roots) s.history entry is.legal (subst (λ w. IsLegalAt w entry) (sym is.replayed) legal_now);
        replayed = replay_snoc (roots_of s.shape s.roots) s.history entry ∙ ap (λ w. with_facts w added) is.replayed ∙ sym after_is;
      }
    where
      legal_now : IsLegalAt s.world entry
      legal_now =
          record {
            live = live_now;
            shape = subst (λ sh. IsInShape sh j) (sym is.shape) in_shape;
            within = within;
            added = refl;
            whole = λ h. h;
          }

pub joined_kept : (s : State) (worker : ℕ) (j : Impact) → IsState s → May s (Join worker j) → IsState (happens s (Join worker j))
joined_kept s worker j is may = go (all_within s.world j.reads) refl
  where
    go : (b : Bool) → all_within s.world j.reads ≡ b → IsState (cond b (accepted s worker j (all_same s.world j.reads) (absent_of s.world j.facts)) (returned s worker j.member))
    go true within = accepted_kept s worker j is may.0 may.1 within
    go false outside = returned_kept s worker j.member is may.0

pub kept : (s : State) (e : Event) → IsState s → May s e → IsState (happens s e)
kept s (Take worker member) is may = taken_kept s worker member is may
kept s (Join worker j) is may = joined_kept s worker j is may
kept s (Give_back worker) is may = given_back_kept s worker is may
kept s Reclaim is may = reclaimed_kept s is

-- the start
pub started : (shape : Shape) (roots : List Fact) (workers : ℕ) → AllByRecursion (InShape shape) roots → IsState (start shape roots workers)
started shape roots workers room =
    record {
      world = is_world;
      shape = is_shape;
      roots = room;
      room = length-replicate shape.members None;
      places = λ n.
          let none = how_many_none (is_number n) workers None refl in
          let unsettled : unit (is_some (get_or (replicate shape.members None) n None)) ≡ 0 = ap (λ o. unit (is_some o)) (no_impact n) in
          ⊎_elim
          (λ (below : n < shape.members).
          let front = times_where (λ k. has_fact (roots_of shape roots) (Live k)) shape.members n below in omega arith)
          (λ (past : shape.members ≤ n).
          let front = times_past (λ k. has_fact (roots_of shape roots) (Live k)) shape.members n past in
          let dead : unit (has_fact (roots_of shape roots) (Live n)) ≡ 0 = ap unit (dead n past) in
          omega arith)
          (cases_lt n shape.members);
      settled = λ n j h. absurd (some_none j (sym (no_impact n) ∙ h));
      legal = tt;
      replayed = refl;
    }
  where
    is_world : IsWorld (roots_of shape roots)
    is_world = world_withs (empty_of shape) roots (world_empty shape) room

    is_shape : (roots_of shape roots).shape ≡ shape
    is_shape = shape_withs (empty_of shape) roots

    no_impact : (n : ℕ) → get_or (replicate {A = Option Impact} shape.members None) n None ≡ None
    no_impact n =
        ⊎_elim (λ (below : n < shape.members). get_or-replicate shape.members n None None below)
        (λ past. get_or_past (replicate shape.members None) n None (omega (arith, length-replicate {A = Option Impact} shape.members None)))
        (cases_lt n shape.members)

    dead : (n : ℕ) → shape.members ≤ n → has_fact (roots_of shape roots) (Live n) ≡ false
    dead n past = go (has_fact (roots_of shape roots) (Live n)) refl
      where
        go : (b : Bool) → has_fact (roots_of shape roots) (Live n) ≡ b → b ≡ false
        go true h =
            let inside : n < shape.members = subst (λ (k : Shape). n < k.members) is_shape (is_world.inside (Live n) h) in
            absurd (omega arith)
        go false h = refl
