-- Reads in order of slots.
use Rattle.std.proofs.Common.{◌≡◌, ◌≢◌, ℕ, zero, suc, ◌<◌, ◌≤◌, Bool, true, false, cond, ◌||◌, List, [], ◌∷◌, ◌++◌, length, refl, sym, ap, ◌∙◌, arith, ⊎_elim, get_or, take, drop, nat_eq, nat_lt}
use Rattle.std.proofs.lemmas.Bool.{eq-eqb, true≢false, ltb-true, ltb-false, lt-ltb, le-ltb, cases_lt}
use Rattle.std.proofs.lemmas.Bool.Decides.{eqb_tells}
use Rattle.std.specs.List.{AllByRecursion}
use Rattle.std.proofs.lemmas.List.{get_or_default}
use Rattle.std.specs.List.Sorted.{IsPartitionedBy}
use Rattle.world_state.specs.declared.reads.SlotRead.{SlotRead}
use Rattle.world_state.specs.Reads.{IsInSlotOrder, is_read, with_read}

-- what holds of all holds at a place
all_at : (P : SlotRead → Type 0) (rs : List SlotRead) (i : ℕ) (d : SlotRead) → AllByRecursion P rs → i < length rs → P (get_or rs i d)
all_at P [] i d all h = absurd (omega arith)
all_at P (r ∷ rs) zero d all h = all.0
all_at P (r ∷ rs) (suc i) d all h = all_at P rs i d all.1 (omega arith)

all_from : (P : SlotRead → Type 0) (rs : List SlotRead) → ((i : ℕ) (d : SlotRead) → i < length rs → P (get_or rs i d)) → AllByRecursion P rs
all_from P [] each = tt
all_from P (r ∷ rs) each = (each 0 r (omega arith), all_from P rs (λ i d h. each (suc i) d (omega arith)))

pub slots_le : (rs : List SlotRead) → IsInSlotOrder rs → (i j : ℕ) (d : SlotRead) → i ≤ j → j < length rs → (get_or rs i d).slot ≤ (get_or rs j d).slot
slots_le [] up i j d h within = absurd (omega arith)
slots_le (r ∷ rs) up zero zero d h within = omega arith
slots_le (r ∷ rs) up zero (suc j) d h within = let less = all_at (λ (o : SlotRead). r.slot < o.slot) rs j d up.0 (omega arith) in omega arith
slots_le (r ∷ rs) up (suc i) zero d h within = absurd (omega arith)
slots_le (r ∷ rs) up (suc i) (suc j) d h within = slots_le rs up.1 i j d (omega arith) (omega arith)

pub partitioned : (rs : List SlotRead) (slot : ℕ) → IsInSlotOrder rs → IsPartitionedBy (λ (r : SlotRead). nat_lt r.slot slot) rs
partitioned rs slot up i j d h within is =
    let le = slots_le rs up i j d h within in
    let less = ltb-true (get_or rs j d).slot slot is in
    lt-ltb (get_or rs i d).slot slot (omega arith)

-- a slot that stands at its place was read
pub read_at : (rs : List SlotRead) (place slot : ℕ) (d : SlotRead) → place < length rs → (get_or rs place d).slot ≡ slot → is_read rs slot ≡ true
read_at [] place slot d within is = absurd (omega arith)
read_at (r ∷ rs) zero slot d within is = ap (λ b. b || is_read rs slot) (eq-eqb r.slot slot is)
read_at (r ∷ rs) (suc place) slot d within is =
    elim (nat_eq r.slot slot) as (λ b. (b || is_read rs slot) ≡ true) [ true ↦ refl | false ↦ read_at rs place slot d (omega arith) is ]

pub read_nowhere : (rs : List SlotRead) (slot : ℕ) → ((i : ℕ) (d : SlotRead) → i < length rs → (get_or rs i d).slot ≢ slot) → is_read rs slot ≡ false
read_nowhere [] slot none = refl
read_nowhere (r ∷ rs) slot none =
    ⊎_elim (λ (is : (nat_eq r.slot slot ≡ true) × (r.slot ≡ slot)). absurd (none 0 r (omega arith) is.1))
    (λ (is : (nat_eq r.slot slot ≡ false) × (r.slot ≢ slot)). ap (λ b. b || is_read rs slot) is.0 ∙ read_nowhere rs slot (λ i d h. none (suc i) d (omega arith)))
    (eqb_tells r.slot slot)

-- a slot that does not stand at its place was not read
pub not_read : (rs : List SlotRead) (place slot : ℕ) → IsInSlotOrder rs → ((k : ℕ) (d : SlotRead) → k < place → (get_or rs k d).slot < slot) → ((k : ℕ) (d : SlotRead) → place ≤ k → k < length rs → slot ≤ (get_or rs k d).slot)
    → ((d : SlotRead) → place < length rs → (get_or rs place d).slot ≢ slot) → is_read rs slot ≡ false
not_read rs place slot up below above other =
    read_nowhere rs slot (λ i d within is.
    ⊎_elim (λ (less : i < place). let under = below i d less in omega arith)
    (λ (more : place ≤ i).
    let here : place < length rs = omega arith in
    let over = above place d (omega arith) here in
    let le = slots_le rs up place i d more within in
    other d here (omega arith))
    (cases_lt i place))

-- a slot that was not read stands nowhere
unread_at : (rs : List SlotRead) (i slot : ℕ) (d : SlotRead) → is_read rs slot ≡ false → i < length rs → (get_or rs i d).slot ≢ slot
unread_at rs i slot d none within is = true≢false (sym (read_at rs i slot d within is) ∙ none)

-- a read that is put in its place
pub placed : (rs : List SlotRead) (place : ℕ) (read : SlotRead) → place ≤ length rs → ((k : ℕ) (d : SlotRead) → k < place → (get_or rs k d).slot < read.slot) → ((k : ℕ) (d : SlotRead) → place ≤ k → k < length rs → read.slot ≤ (get_or rs k d).slot)
    → take place rs ++ read ∷ drop place rs ≡ with_read rs read
placed [] zero read within below above = refl
placed [] (suc place) read within below above = absurd (omega arith)
placed (r ∷ rs) zero read within below above =
    sym (ap (λ b. cond b (r ∷ with_read rs read) (read ∷ r ∷ rs)) (le-ltb r.slot read.slot (above 0 r (omega arith) (omega arith))))
placed (r ∷ rs) (suc place) read within below above =
    ap (λ xs. r ∷ xs) (placed rs place read (omega arith) (λ k d h. below (suc k) d (omega arith)) (λ k d h inside. above (suc k) d (omega arith) (omega arith)))
    ∙ sym (ap (λ b. cond b (r ∷ with_read rs read) (read ∷ r ∷ rs)) (lt-ltb r.slot read.slot (below 0 r (omega arith))))

all_with : (P : SlotRead → Type 0) (rs : List SlotRead) (read : SlotRead) → AllByRecursion P rs → P read → AllByRecursion P (with_read rs read)
all_with P [] read all here = (here, tt)
all_with P (r ∷ rs) read all here =
    elim (nat_lt r.slot read.slot) as (λ b. AllByRecursion P (cond b (r ∷ with_read rs read) (read ∷ r ∷ rs))) [
      | true ↦ (all.0, all_with P rs read all.1 here)
      | false ↦ (here, all)
    ]

all_more : (P Q : SlotRead → Type 0) (rs : List SlotRead) → ((r : SlotRead) → P r → Q r) → AllByRecursion P rs → AllByRecursion Q rs
all_more P Q [] more all = tt
all_more P Q (r ∷ rs) more all = (more r all.0, all_more P Q rs more all.1)

pub order_with : (rs : List SlotRead) (read : SlotRead) → IsInSlotOrder rs → is_read rs read.slot ≡ false → IsInSlotOrder (with_read rs read)
order_with [] read up none = (tt, tt)
order_with (r ∷ rs) read up none =
    elim (nat_lt r.slot read.slot) as (λ b. nat_lt r.slot read.slot ≡ b → IsInSlotOrder (cond b (r ∷ with_read rs read) (read ∷ r ∷ rs))) [
      | true ↦ λ is. (all_with (λ (o : SlotRead). r.slot < o.slot) rs read up.0 (ltb-true r.slot read.slot is), order_with rs read up.1 (or_none (nat_eq r.slot read.slot) (is_read rs read.slot) none))
      | false ↦ λ is.
          let le = ltb-false r.slot read.slot is in
          let other : r.slot ≢ read.slot = unread_at (r ∷ rs) 0 read.slot r none (omega arith) in
          let less : read.slot < r.slot = omega arith in
          ((less, all_more (λ (o : SlotRead). r.slot < o.slot) (λ (o : SlotRead). read.slot < o.slot) rs (λ o h. omega arith) up.0), up)
    ] refl
  where
    or_none : (a b : Bool) → (a || b) ≡ false → b ≡ false
    or_none true b h = absurd (true≢false h)
    or_none false b h = h

-- whether a slot was read is told by the read at its place
pub placed_read : (rs : List SlotRead) (place slot : ℕ) (d : SlotRead) → IsInSlotOrder rs → ((k : ℕ) (d : SlotRead) → k < place → (get_or rs k d).slot < slot) → ((k : ℕ) (d : SlotRead) → place ≤ k → k < length rs → slot ≤ (get_or rs k d).slot)
    → place < length rs → nat_eq (get_or rs place d).slot slot ≡ is_read rs slot
placed_read rs place slot d up below above within =
    ⊎_elim (λ (is : (nat_eq (get_or rs place d).slot slot ≡ true) × ((get_or rs place d).slot ≡ slot)). is.0 ∙ sym (read_at rs place slot d within is.1))
    (λ (is : (nat_eq (get_or rs place d).slot slot ≡ false) × ((get_or rs place d).slot ≢ slot)).
    is.0 ∙ sym (not_read rs place slot up below above (λ e h same. is.1 (ap (λ (r : SlotRead). r.slot) (get_or_default rs place d e within) ∙ same))))
    (eqb_tells (get_or rs place d).slot slot)

pub unplaced_read : (rs : List SlotRead) (place slot : ℕ) → IsInSlotOrder rs → ((k : ℕ) (d : SlotRead) → k < place → (get_or rs k d).slot < slot) → ((k : ℕ) (d : SlotRead) → place ≤ k → k < length rs → slot ≤ (get_or rs k d).slot)
    → length rs ≤ place → nat_lt place (length rs) ≡ is_read rs slot
unplaced_read rs place slot up below above past =
    le-ltb place (length rs) past ∙ sym (not_read rs place slot up below above (λ d h same. absurd (omega arith)))

-- the place of a read, where the list was lent as a slice
pub placed_in : (rs lent : List SlotRead) (place : ℕ) (read : SlotRead) → lent ≡ rs → place ≤ length lent → ((k : ℕ) (d : SlotRead) → k < place → (get_or lent k d).slot < read.slot) → ((k : ℕ) (d : SlotRead) → place ≤ k → k < length lent → read.slot ≤ (get_or lent k d).slot)
    → take place rs ++ read ∷ drop place rs ≡ with_read rs read
placed_in rs lent place read is within below above = ap (λ xs. take place xs ++ read ∷ drop place xs) (sym is) ∙ placed lent place read within below above ∙ ap (λ xs. with_read xs read) is
