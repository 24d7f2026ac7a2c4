-- The links of the worklist.
use Rattle.std.proofs.Common.{◌≡◌, ℕ, zero, suc, ◌<◌, Bool, true, false, cond, List, [], ◌∷◌, ◌++◌, length, refl, sym, ap, ◌∙◌, arith, subst, get_or, Some, None, nat_eq, ◌||◌}
use Rattle.std.proofs.lemmas.List.{length-set, get_or-set_same}
use Rattle.std.proofs.lemmas.Bool.{eq-eqb, eqb-true}
use Rattle.std.specs.List.{list_any, position_from}
use Rattle.index_links.specs.Lists.{Lists, is_in, nodes_in, list_with, with_list, taken_out, without_node, empty_lists}
use Rattle.world_state.specs.Facts.{is_of_slot}
use Rattle.world_state.specs.Reads.{is_read}
use Rattle.world_state.specs.declared.fact.Fact.{Fact}
use Rattle.world_state.specs.declared.fact.Fact.TheVariants.{In, Live}
use Rattle.world_state.specs.declared.reads.SlotRead.{SlotRead}
use Rattle.type_masks.proofs.Sets.{same_bool}
use Rattle.enqueuer_core.specs.Core.{times, is_raised}
use Rattle.enqueuer_core.specs.Worklists.{IsWorklist}
use Rattle.enqueuer_core.proofs.Counts.{in_none, in_some}

-- where there is one list
list_alone : (v : Lists) → length v.lists ≡ 1 → (xs : List (List ℕ)) → v.lists ≡ xs → length xs ≡ 1 → xs ≡ nodes_in v 0 ∷ []
list_alone v one [] is h = absurd (omega arith)
list_alone v one (x ∷ []) is h = ap (λ y. y ∷ []) (ap (λ ls. get_or ls 0 []) (sym is))
list_alone v one (x ∷ y ∷ ys) is h = absurd (omega arith)

found_in : (v : Lists) (n : ℕ) → length v.lists ≡ 1 → list_with v n ≡ cond (is_in n (nodes_in v 0)) (Some 0) None
found_in v n one = ap (position_from (is_in n) 0) (list_alone v one v.lists refl one)

pub free_of : (v : Lists) (n : ℕ) → length v.lists ≡ 1 → times n (nodes_in v 0) ≡ 0 → list_with v n ≡ None
free_of v n one none = found_in v n one ∙ ap (λ b. cond b (Some 0) None) (in_none n (nodes_in v 0) none)

pub listed_in : (v : Lists) (n : ℕ) → length v.lists ≡ 1 → 0 < times n (nodes_in v 0) → list_with v n ≡ Some 0
listed_in v n one some = found_in v n one ∙ ap (λ b. cond b (Some 0) None) (in_some n (nodes_in v 0) some)

zero_or_more : (k : ℕ) (P : Type 0) → (k ≡ 0 → P) → (0 < k → P) → P
zero_or_more zero P none some = none refl
zero_or_more (suc k) P none some = some (omega arith)

pub unlisted : (v : Lists) (n : ℕ) → length v.lists ≡ 1 → list_with v n ≡ None → times n (nodes_in v 0) ≡ 0
unlisted v n one h = zero_or_more (times n (nodes_in v 0)) (times n (nodes_in v 0) ≡ 0) (λ e. e) (λ some. absurd (let wrong : Some 0 ≡ None = sym (listed_in v n one some) ∙ h in (cc)))

pub listed : (v : Lists) (n k : ℕ) → length v.lists ≡ 1 → list_with v n ≡ Some k → 0 < times n (nodes_in v 0)
listed v n k one h = zero_or_more (times n (nodes_in v 0)) (0 < times n (nodes_in v 0)) (λ none. absurd (let wrong : None ≡ Some k = sym (free_of v n one none) ∙ h in (cc))) (λ e. e)

-- the list with other members
pub relisted : (v w : Lists) (members : ℕ) (pending xs : List ℕ) → IsWorklist v members pending → w ≡ with_list v 0 xs → IsWorklist w members xs
relisted v w members pending xs is e =
    subst (λ (l : Lists). IsWorklist l members xs) (sym e)
    (record {
      nodes = is.nodes;
      lists = length-set v.lists 0 xs ∙ is.lists;
      pending = get_or-set_same v.lists 0 xs [] (let one = is.lists in omega arith);
    })

pub pushed : (v w : Lists) (members n : ℕ) (pending : List ℕ) → IsWorklist v members pending → w ≡ with_list v 0 (nodes_in v 0 ++ n ∷ []) → IsWorklist w members (pending ++ n ∷ [])
pushed v w members n pending is e = relisted v w members pending (pending ++ n ∷ []) is (e ∙ ap (λ xs. with_list v 0 (xs ++ n ∷ [])) is.pending)

pub removed : (v w : Lists) (members n : ℕ) (pending : List ℕ) → IsWorklist v members pending → 0 < times n pending → w ≡ taken_out v n (list_with v n) → IsWorklist w members (without_node n pending)
removed v w members n pending is some e =
    relisted v w members pending (without_node n pending) is
    (e ∙ ap (taken_out v n) (listed_in v n is.lists (subst (λ xs. 0 < times n xs) (sym is.pending) some)) ∙ ap (λ xs. with_list v 0 (without_node n xs)) is.pending)

pub emptied : (members : ℕ) (w : Lists) → w ≡ empty_lists members 1 → IsWorklist w members []
emptied members w e = subst (λ (l : Lists). IsWorklist l members []) (sym e) (record { nodes = refl; lists = refl; pending = refl })

pub same_list : (v w : Lists) (members : ℕ) (xs ys : List ℕ) → IsWorklist v members xs → w ≡ v → xs ≡ ys → IsWorklist w members ys
same_list v w members xs ys is e h = subst (λ (l : Lists). IsWorklist l members ys) (sym e) (subst (IsWorklist v members) h is)

-- whether the fact is of a slot that was read
abbrev pub raises_read : List SlotRead → Fact → Bool
raises_read rs (In slot kind) = is_read rs slot
raises_read rs (Live n) = false

-- whether a fact raises a slot that was read, asked of the facts or of the reads
pub any_cases : {X : Type 0} (p q : X → Bool) (xs : List X) → list_any (λ x. p x || q x) xs ≡ (list_any p xs || list_any q xs)
any_cases p q [] = refl
any_cases p q (x ∷ xs) = ap (λ b. (p x || q x) || b) (any_cases p q xs) ∙ four (p x) (q x) (list_any p xs) (list_any q xs)
  where
    four : (a b c d : Bool) → ((a || b) || (c || d)) ≡ ((a || c) || (b || d))
    four true b c d = refl
    four false true true d = refl
    four false true false d = refl
    four false false c d = refl

none_any : {X : Type 0} (xs : List X) → list_any (λ x. false) xs ≡ false
none_any [] = refl
none_any (x ∷ xs) = none_any xs

raises_first : (r : SlotRead) (rs : List SlotRead) (f : Fact) → raises_read (r ∷ rs) f ≡ (is_of_slot r.slot f || raises_read rs f)
raises_first r rs (In slot kind) = ap (λ b. b || is_read rs slot) (flip r.slot slot)
  where
    flip : (a b : ℕ) → nat_eq a b ≡ nat_eq b a
    flip a b = same_bool (nat_eq a b) (nat_eq b a) (λ h. eq-eqb b a (sym (eqb-true a b h))) (λ h. eq-eqb a b (sym (eqb-true b a h)))
raises_first r rs (Live n) = refl

pub any_alike : {X : Type 0} (p q : X → Bool) (xs : List X) → ((x : X) → p x ≡ q x) → list_any p xs ≡ list_any q xs
any_alike p q [] each = refl
any_alike p q (x ∷ xs) each = ap (λ b. b || list_any p xs) (each x) ∙ ap (λ b. q x || b) (any_alike p q xs each)

nothing_read : (f : Fact) → raises_read [] f ≡ false
nothing_read (In slot kind) = refl
nothing_read (Live n) = refl

pub raised_by_facts : (added : List Fact) (rs : List SlotRead) → list_any (raises_read rs) added ≡ is_raised added rs
raised_by_facts added [] = any_alike (raises_read []) (λ f. false) added nothing_read ∙ none_any added
raised_by_facts added (r ∷ rs) =
    any_alike (raises_read (r ∷ rs)) (λ f. is_of_slot r.slot f || raises_read rs f) added (raises_first r rs)
    ∙ any_cases (is_of_slot r.slot) (raises_read rs) added
    ∙ ap (λ b. list_any (is_of_slot r.slot) added || b) (raised_by_facts added rs)
