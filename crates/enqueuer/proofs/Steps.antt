-- What one worker alone keeps.
use Rattle.std.proofs.Common.{◌≡◌, ◌≢◌, ℕ, zero, suc, ◌<◌, ◌+◌, Bool, true, false, cond, List, [], ◌∷◌, ◌++◌, length, refl, sym, ap, ◌∙◌, arith, subst, ⊎_elim, get_or, set, Option, Some, None, replicate, drop}
use Rattle.std.proofs.lemmas.Bool.Decides.{eqb_tells}
use Rattle.std.proofs.lemmas.Bool.{cases_lt}
use Rattle.std.proofs.lemmas.List.{get_or-set_same, get_or-set_other, length-set, get_or-replicate, get_or_past, length-replicate, drop_more}
use Rattle.std.specs.Prelude.{nat_eq}
use Rattle.world_state.specs.Worlds.{Facts, IsWorld}
use Rattle.world_state.specs.declared.impact.Impact.{Impact}
use Rattle.enqueuer_core.specs.Least.{Meaning, IsLawful, IsInShape, IsOneOf}
use Rattle.enqueuer_core.specs.Core.{State, Event, Take, Join, Reclaim, happens, held_by, times, IsState, start}
use Rattle.enqueuer_core.specs.Desks.{AreOf}
use Rattle.enqueuer_core.proofs.Kept.{kept, started}
use Rattle.enqueuer_core.proofs.Idle.{shape_kept, history_of}
use Rattle.enqueuer.specs.Alone.{IsAlone}
use Rattle.enqueuer.specs.Lists.{AllOneOf}

-- the impact of a member in a world of the shape
pub one_of : (m : Meaning) → IsLawful m → (n : ℕ) (w : Facts) (j : Impact) → n < m.shape.members → IsWorld w → w.shape ≡ m.shape → j ≡ m.impact n w → IsOneOf m j
one_of m laws n w j below world shape is =
    let named : j.member ≡ n = ap (λ (i : Impact). i.member) is ∙ laws.member n w in
    record {
      at = w;
      world = record { world = world; shape = shape };
      member = subst (λ k. k < m.shape.members) (sym named) below;
      is = is ∙ ap (λ k. m.impact k w) (sym named);
    }

pub in_shape : (m : Meaning) → IsLawful m → (n : ℕ) (w : Facts) (j : Impact) → n < m.shape.members → IsWorld w → w.shape ≡ m.shape → j ≡ m.impact n w → IsInShape m.shape j
in_shape m laws n w j below world shape is = subst (λ i. IsInShape m.shape i) (sym is) (laws.inside n w below record { world = world; shape = shape })

free_again : (held : List (Option ℕ)) (n : ℕ) → 0 < length held → ((worker : ℕ) → get_or held worker None ≡ None) → (worker : ℕ) → get_or (set (set held 0 (Some n)) 0 None) worker None ≡ None
free_again held n some free worker =
    ⊎_elim
    (λ (is : (nat_eq worker 0 ≡ true) × (worker ≡ 0)).
    let room : 0 < length (set held 0 (Some n)) = omega (arith, length-set held 0 (Some n)) in
    subst (λ k. get_or (set (set held 0 (Some n)) 0 None) k None ≡ None) (sym is.1) (get_or-set_same (set held 0 (Some n)) 0 None None room))
    (λ (is : (nat_eq worker 0 ≡ false) × (worker ≢ 0)).
    get_or-set_other (set held 0 (Some n)) 0 worker None None is.1 ∙ get_or-set_other held 0 worker (Some n) None is.1 ∙ free worker)
    (eqb_tells worker 0)

pub held_now : (s : State) (n : ℕ) → 0 < length s.held → held_by (happens s (Take 0 n)) 0 ≡ Some n
held_now s n some = get_or-set_same s.held 0 (Some n) None some

after_join_held : (s : State) (j : Impact) → (happens s (Join 0 j)).held ≡ set s.held 0 None
after_join_held s j =
    elim (Rattle.enqueuer_core.specs.Core.all_within s.world j.reads) as (λ b.
    (cond b (Rattle.enqueuer_core.specs.Core.accepted s 0 j (Rattle.enqueuer_core.specs.Core.all_same s.world j.reads) (Rattle.world_state.specs.Worlds.absent_of s.world j.facts)) (Rattle.enqueuer_core.specs.Core.returned s 0 j.member)).held ≡ set s.held 0 None) [
      | true ↦ refl
      | false ↦ refl
    ]

-- a member is taken and its impact joined
pub stepped : (m : Meaning) (s : State) (n : ℕ) (j : Impact) → IsAlone m s → 0 < times n s.pending → IsOneOf m j → IsInShape m.shape j → j.member ≡ n → IsAlone m (happens (happens s (Take 0 n)) (Join 0 j))
stepped m s n j is there one room named =
    let s1 = happens s (Take 0 n) in
    let taken : IsState s1 = kept s (Take 0 n) is.state (is.worker, is.free 0, there) in
    let holds : held_by s1 0 ≡ Some j.member = held_now s n is.worker ∙ ap Some (sym named) in
    let inside : IsInShape s1.shape j = subst (λ sh. IsInShape sh j) (sym is.shape) room in
    let same = shape_kept s1 (Join 0 j) in
    let count : 0 < length s1.held = omega (arith, length-set s.held 0 (Some n), is.worker) in
    record {
      state = kept s1 (Join 0 j) taken (holds, inside);
      shape = same.0 ∙ is.shape;
      roots = same.1 ∙ is.roots;
      ours = history_of m s1 (Join 0 j) is.ours one;
      worker = omega (arith, same.2, count);
      free = λ worker. ap (λ xs. get_or xs worker None) (after_join_held s1 j) ∙ free_again s.held n is.worker is.free worker;
    }

-- the start for one worker
pub start_alone : (m : Meaning) → IsLawful m → IsAlone m (start m.shape m.roots 1)
start_alone m laws =
    record {
      state = started m.shape m.roots 1 laws.roots;
      shape = refl;
      roots = refl;
      ours = tt;
      worker = omega arith;
      free = λ worker. none_at 1 worker;
    }
  where
    none_at : (n k : ℕ) → get_or (replicate {A = Option ℕ} n None) k None ≡ None
    none_at n k =
        ⊎_elim (λ (below : k < n). get_or-replicate n k None None below)
        (λ past. get_or_past (replicate n None) k None (omega (arith, length-replicate {A = Option ℕ} n None)))
        (cases_lt k n)

-- after all jobs are reclaimed
pub reclaimed_alone : (m : Meaning) (s : State) → IsState s → s.shape ≡ m.shape → s.roots ≡ m.roots → AreOf m s.history → 0 < length (happens s Reclaim).held → IsAlone m (happens s Reclaim)
reclaimed_alone m s is shape roots ours some =
    record {
      state = kept s Reclaim is tt;
      shape = shape;
      roots = roots;
      ours = ours;
      worker = some;
      free = λ worker.
          ⊎_elim (λ (below : worker < length s.held). get_or-replicate (length s.held) worker None None below)
          (λ past. get_or_past (replicate (length s.held) None) worker None (omega (arith, length-replicate {A = Option ℕ} (length s.held) None)))
          (cases_lt worker (length s.held));
    }

-- one impact more
pub one_more : (m : Meaning) (js : List Impact) (j : Impact) (b : Bool) → AllOneOf m js → IsOneOf m j → AllOneOf m (cond b (js ++ j ∷ []) js)
one_more m js j false all one = all
one_more m js j true all one = push js all
  where
    push : (xs : List Impact) → AllOneOf m xs → AllOneOf m (xs ++ j ∷ [])
    push [] h = (one, tt)
    push (x ∷ xs) h = (h.0, push xs h.1)

pub at_place : (m : Meaning) (js : List Impact) (i : ℕ) (d : Impact) → AllOneOf m js → i < length js → IsOneOf m (get_or js i d)
at_place m [] i d all h = absurd (omega arith)
at_place m (j ∷ js) zero d all h = all.0
at_place m (j ∷ js) (suc i) d all h = at_place m js i d all.1 (omega arith)

-- the rest and what went before
pub entry_first : (m : Meaning) (xs : List Rattle.enqueuer_core.specs.declared.history.Entry.Entry) (i : ℕ) (d : Rattle.enqueuer_core.specs.declared.history.Entry.Entry) → i < length xs → IsOneOf m (get_or xs i d).impact → AreOf m (drop (i + 1) xs) → AreOf m (drop i xs)
entry_first m xs i d within one rest = subst (λ es. AreOf m es) (sym (drop_more xs i d within)) (one, rest)
