-- Marks on the members that wake.
use Rattle.std.proofs.Common.{◌≡◌, ◌≢◌, ℕ, zero, suc, ◌+◌, ◌<◌, ◌≤◌, Bool, true, false, cond, ◌||◌, List, [], ◌∷◌, ◌++◌, length, refl, sym, ap, ◌∙◌, arith, ⊎_elim, get_or, set, Option, Some, None, nat_eq}
use Rattle.std.proofs.lemmas.Bool.{eq-eqb, eqb-true, true≢false, cases_lt}
use Rattle.std.proofs.lemmas.Bool.Decides.{eqb_tells}
use Rattle.std.proofs.lemmas.List.{get_or-set_same, get_or-set_other, get_or_past, get_or_default}
use Rattle.std.specs.List.{list_any}
use Rattle.type_masks.proofs.Sets.{same_bool, or_true, or_right, or_cases}
use Rattle.world_state.specs.declared.fact.Fact.{Fact}
use Rattle.world_state.specs.declared.fact.Fact.TheVariants.{In, Live}
use Rattle.world_state.specs.declared.impact.Impact.{Impact}
use Rattle.world_state.specs.Facts.{is_among, same_fact}
use Rattle.enqueuer_core.specs.Core.{has_raised, is_woken, numbers_where, without}
use Rattle.enqueuer_core.specs.Hints.{has_read, is_listed, is_marked, AreListed, AreListedOrMarked, wakes, IsMarking}
use Rattle.enqueuer_core.proofs.Counts.{length_without, without_at}
use Rattle.enqueuer_core.proofs.Worklists.{raises_read, any_alike, any_cases, raised_by_facts}

-- one mark more
pub marked_here : (marks : List Bool) (r n : ℕ) → r < length marks → is_marked (set marks r true) n ≡ (nat_eq n r || is_marked marks n)
marked_here marks r n within =
    ⊎_elim
    (λ (is : (nat_eq n r ≡ true) × (n ≡ r)).
    ap (λ k. is_marked (set marks r true) k) is.1 ∙ get_or-set_same marks r true false within ∙ sym (ap (λ b. b || is_marked marks n) is.0))
    (λ (is : (nat_eq n r ≡ false) × (n ≢ r)).
    get_or-set_other marks r n true false is.1 ∙ sym (ap (λ b. b || is_marked marks n) is.0))
    (eqb_tells n r)

pub marked_half : (readers : List (List ℕ)) (marks : List Bool) (settled : List (Option Impact)) (r : ℕ) → r < length marks → AreListedOrMarked readers marks settled → AreListedOrMarked readers (set marks r true) settled
marked_half readers marks settled r within half =
    record {
      each = λ n s reads.
          ⊎_elim (λ (l : is_listed readers s n ≡ true). or_true (is_listed readers s n) (is_marked (set marks r true) n) l)
          (λ (h : is_marked marks n ≡ true). or_right (is_listed readers s n) (is_marked (set marks r true) n) (marked_here marks r n within ∙ or_right (nat_eq n r) (is_marked marks n) h))
          (or_cases (is_listed readers s n) (is_marked marks n) (half.each n s reads));
    }

-- the mark that a place has
pub mark_at : (marks : List Bool) (n : ℕ) (b : Bool) → n < length marks → b ≡ get_or marks n b → is_marked marks n ≡ b
mark_at marks n b within is = sym (is ∙ get_or_default marks n b false within)

-- a mark is taken away, where none was before it
pub cleared_below : (marks : List Bool) (n : ℕ) → n < length marks → ((k : ℕ) → k < n → is_marked marks k ≡ false) → (k : ℕ) → k < n + 1 → is_marked (set marks n false) k ≡ false
cleared_below marks n within before k less =
    ⊎_elim
    (λ (below : k < n). get_or-set_other marks n k false false (λ e. omega arith) ∙ before k below)
    (λ (past : n ≤ k). let same : k ≡ n = omega arith in ap (is_marked (set marks n false)) same ∙ get_or-set_same marks n false false within)
    (cases_lt k n)

pub kept_past : (marks : List Bool) (n k : ℕ) → n + 1 ≤ k → is_marked (set marks n false) k ≡ is_marked marks k
kept_past marks n k past = get_or-set_other marks n k false false (λ e. omega arith)

-- or there is none to take away
pub clear_below : (marks : List Bool) (n : ℕ) → is_marked marks n ≡ false → ((k : ℕ) → k < n → is_marked marks k ≡ false) → (k : ℕ) → k < n + 1 → is_marked marks k ≡ false
clear_below marks n here before k less =
    ⊎_elim (λ (below : k < n). before k below) (λ (past : n ≤ k). let same : k ≡ n = omega arith in ap (is_marked marks) same ∙ here) (cases_lt k n)

-- whether some of the facts wake the member
abbrev pub by_facts : List (Option Impact) → List Fact → ℕ → Bool
by_facts settled added n = list_any (wakes (get_or settled n None) n) added

-- the start, where nothing is marked
pub marking_start : (readers : List (List ℕ)) (marks : List Bool) (settled : List (Option Impact)) (added : List Fact)
    → AreListed readers settled → ((n : ℕ) → is_marked marks n ≡ false) → length marks ≡ length settled
    → IsMarking (by_facts settled added) readers marks settled added
marking_start readers marks settled added listed none long =
    record {
      half = record { each = λ n s reads. or_true (is_listed readers s n) (is_marked marks n) (listed.each n s reads) };
      done = λ n below. ap (λ b. b || list_any (wakes (get_or settled n None) n) added) (none n);
      long = long;
    }

or_none : (b : Bool) → (b || false) ≡ b
or_none true = refl
or_none false = refl

-- whom the facts wake
woken_by : (o : Option Impact) (n : ℕ) (added : List Fact) → list_any (wakes o n) added ≡ (is_among added (Live n) || has_raised added o)
woken_by None n added =
    any_alike (wakes None n) (λ f. same_fact f (Live n)) added none ∙ sym (or_none (is_among added (Live n)))
  where
    none : (f : Fact) → wakes None n f ≡ same_fact f (Live n)
    none (In slot kind) = refl
    none (Live m) = refl
woken_by (Some j) n added =
    any_alike (wakes (Some j) n) (λ f. same_fact f (Live n) || raises_read j.reads f) added one
    ∙ any_cases (λ f. same_fact f (Live n)) (raises_read j.reads) added
    ∙ ap (λ b. is_among added (Live n) || b) (raised_by_facts added j.reads)
  where
    one : (f : Fact) → wakes (Some j) n f ≡ (same_fact f (Live n) || raises_read j.reads f)
    one (In slot kind) = refl
    one (Live m) = sym (or_none (nat_eq m n))

pub whole_woken : (added : List Fact) (settled : List (Option Impact)) (joined n : ℕ) (b : Bool) → b ≡ list_any (wakes (get_or settled n None) n) added → b ≡ is_woken added settled joined true n
whole_woken added settled joined n b is =
    is ∙ woken_by (get_or settled n None) n added ∙ ap (λ t. is_among added (Live n) || t) (sym (or_none (has_raised added (get_or settled n None))))

pub part_woken : (added : List Fact) (settled : List (Option Impact)) (joined n : ℕ) (b : Bool) → b ≡ list_any (wakes (get_or settled n None) n) added → (nat_eq n joined || b) ≡ is_woken added settled joined false n
part_woken added settled joined n b is =
    ap (λ t. nat_eq n joined || t) (is ∙ woken_by (get_or settled n None) n added)
    ∙ ap (λ t. t || (is_among added (Live n) || has_raised added (get_or settled n None))) (flip n joined)
    ∙ turn (nat_eq joined n) (is_among added (Live n)) (has_raised added (get_or settled n None))
  where
    flip : (a b : ℕ) → nat_eq a b ≡ nat_eq b a
    flip a b = same_bool (nat_eq a b) (nat_eq b a) (λ h. eq-eqb b a (sym (eqb-true a b h))) (λ h. eq-eqb a b (sym (eqb-true b a h)))

    turn : (e a r : Bool) → (e || (a || r)) ≡ (a || (r || e))
    turn true true r = refl
    turn true false true = refl
    turn true false false = refl
    turn false true r = refl
    turn false false true = refl
    turn false false false = refl

-- whoever is marked when no fact is left wakes
pub whole_marked : (readers : List (List ℕ)) (marks : List Bool) (settled : List (Option Impact)) (added : List Fact) (joined n : ℕ) → IsMarking (by_facts settled added) readers marks settled [] → n < length settled
    → is_marked marks n ≡ is_woken added settled joined true n
whole_marked readers marks settled added joined n is below = whole_woken added settled joined n (is_marked marks n) (sym (or_none (is_marked marks n)) ∙ is.done n below)

pub part_marked : (readers : List (List ℕ)) (marks : List Bool) (settled : List (Option Impact)) (added : List Fact) (joined n : ℕ) → IsMarking (by_facts settled added) readers marks settled [] → joined < length marks → n < length settled
    → is_marked (set marks joined true) n ≡ is_woken added settled joined false n
part_marked readers marks settled added joined n is within below =
    marked_here marks joined n within ∙ part_woken added settled joined n (is_marked marks n) (sym (or_none (is_marked marks n)) ∙ is.done n below)

-- the same members below a bound
pub numbers_alike : (p q : ℕ → Bool) (k : ℕ) → ((n : ℕ) → n < k → p n ≡ q n) → numbers_where p k ≡ numbers_where q k
numbers_alike p q zero each = refl
numbers_alike p q (suc k) each =
    ap (λ b. numbers_where p k ++ cond b (k ∷ []) []) (each k (omega arith)) ∙ ap (λ xs. xs ++ cond (q k) (k ∷ []) []) (numbers_alike p q k (λ n h. each n (omega arith)))

pub without_alike : (p q : ℕ → Bool) (k : ℕ) (xs : List (Option Impact)) → ((n : ℕ) → n < k → p n ≡ q n) → without p k xs ≡ without q k xs
without_alike p q zero xs each = refl
without_alike p q (suc k) xs each =
    let rest = without_alike p q k xs (λ n h. each n (omega arith)) in
    ap (λ b. cond b (set (without p k xs) k None) (without p k xs)) (each k (omega arith)) ∙ ap (λ ys. cond (q k) (set ys k None) ys) rest

-- who is marked forgets, and the others stand in the lists
pub listed_again : (readers : List (List ℕ)) (marks : List Bool) (settled : List (Option Impact)) (members : ℕ) → AreListedOrMarked readers marks settled → length settled ≡ members → AreListed readers (without (is_marked marks) members settled)
listed_again readers marks settled members half room =
    record {
      each = λ n s reads.
          ⊎_elim
          (λ (below : n < members).
          let at = without_at (is_marked marks) members n settled below (omega arith) in
          let found : has_read s (cond (is_marked marks n) None (get_or settled n None)) ≡ true = sym (ap (has_read s) at) ∙ reads in
          unmarked n s (is_marked marks n) refl found)
          (λ (past : members ≤ n).
          let none : get_or (without (is_marked marks) members settled) n None ≡ None = get_or_past (without (is_marked marks) members settled) n None (omega (arith, length_without (is_marked marks) members settled)) in
          absurd (true≢false (sym reads ∙ ap (has_read s) none)))
          (cases_lt n members);
    }
  where
    unmarked : (n s : ℕ) (b : Bool) → is_marked marks n ≡ b → has_read s (cond b None (get_or settled n None)) ≡ true → is_listed readers s n ≡ true
    unmarked n s true is found = absurd (true≢false (sym found))
    unmarked n s false is found =
        ⊎_elim (λ (l : is_listed readers s n ≡ true). l) (λ (m : is_marked marks n ≡ true). absurd (true≢false (sym m ∙ is)))
        (or_cases (is_listed readers s n) (is_marked marks n) (half.each n s found))
