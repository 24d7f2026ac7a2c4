-- The lists of readers.
use Rattle.std.proofs.Common.{◌≡◌, ℕ, ◌<◌, ◌≤◌, Bool, true, false, ◌||◌, List, [], length, refl, sym, ap, ◌∙◌, subst, ⊎_elim, arith, get_or, nat_eq, replicate, Option, None}
use Rattle.std.proofs.lemmas.Bool.{eq-eqb, eqb-true, true≢false, cases_lt}
use Rattle.std.proofs.lemmas.List.{get_or-replicate, get_or_past, length-replicate}
use Rattle.std.proofs.lemmas.List.Folds.{Any-from_list_any, list_any_at}
use Rattle.std.proofs.lemmas.List.Kept.{Contains-dedup_nat}
use Rattle.std.specs.List.{AllByRecursion, dedup}
use Rattle.index_links.specs.Lists.{is_in}
use Rattle.world_state.specs.declared.reads.SlotRead.{SlotRead}
use Rattle.world_state.specs.Reads.{is_read}
use Rattle.type_masks.specs.declared.shape.Shape.{Shape}
use Rattle.world_state.specs.declared.impact.Impact.{Impact}
use Rattle.enqueuer_core.specs.Hints.{has_read, is_listed, AreHints}

-- what is left where each number stands once has every number
pub once_each : (n : ℕ) (xs : List ℕ) → is_in n xs ≡ true → is_in n (dedup nat_eq xs) ≡ true
once_each n xs h =
    let found = Any-from_list_any (nat_eq n) xs h in
    let same : n ≡ found.1 = eqb-true n found.1 found.4 in
    let there : get_or xs found.0 n ≡ n = subst (λ m. get_or xs found.0 m ≡ m) (sym same) found.3 in
    let kept = Contains-dedup_nat xs n (found.0, found.2, there) in
    list_any_at (nat_eq n) (dedup nat_eq xs) kept.0 n kept.1 (ap (nat_eq n) kept.2 ∙ eq-eqb n n refl)

-- with these reads left the member stands in the lists of all others
pub record IsEnlisting (old now : List (List ℕ)) (all rest : List SlotRead) (member : ℕ) : Type 0 where
  pub kept : (slot n : ℕ) → is_listed old slot n ≡ true → is_listed now slot n ≡ true
  pub long : length now ≡ length old
  pub room : AllByRecursion (λ (r : SlotRead). r.slot < length old) rest
  pub listed : (slot : ℕ) → is_read all slot ≡ true → (is_listed now slot member || is_read rest slot) ≡ true

all_alike : {X : Type 0} (n i : ℕ) (x : X) → get_or (replicate n x) i x ≡ x
all_alike n i x =
    ⊎_elim (λ (below : i < n). get_or-replicate n i x x below)
    (λ (past : n ≤ i). get_or_past (replicate n x) i x (let long = length-replicate n x in omega arith))
    (cases_lt i n)

-- where nobody has settled there is no reader
pub hints_start : (s : Shape) (settled : List (Option Impact)) (readers : List (List ℕ)) (marks : List Bool)
    → settled ≡ replicate s.members None → readers ≡ replicate s.slots [] → marks ≡ replicate s.members false → AreHints s settled readers marks
hints_start s settled readers marks none empty clear =
    record {
      slots = ap length empty ∙ length-replicate s.slots [];
      listed = record { each = λ n slot h. absurd (true≢false (sym h ∙ ap (has_read slot) (ap (λ xs. get_or xs n None) none ∙ all_alike s.members n None))) };
      members = ap length clear ∙ length-replicate s.members false;
      unmarked = λ n. ap (λ xs. get_or xs n false) clear ∙ all_alike s.members n false;
    }
