-- A whole join that adds nothing wakes nobody.
use Rattle.std.proofs.Common.{◌≡◌, ℕ, zero, suc, Bool, true, false, cond, List, [], ◌∷◌, ◌++◌, refl, ap, ◌∙◌, get_or, set, Option, Some, None}
use Rattle.world_state.specs.declared.fact.Fact.{Fact}
use Rattle.world_state.specs.declared.reads.SlotRead.{SlotRead}
use Rattle.world_state.specs.declared.impact.Impact.{Impact}
use Rattle.enqueuer_core.specs.Core.{is_raised, has_raised, is_woken, numbers_where, without}

quiet : (rs : List SlotRead) → is_raised [] rs ≡ false
quiet [] = refl
quiet (r ∷ rs) = quiet rs

quiet_settled : (o : Option Impact) → has_raised [] o ≡ false
quiet_settled None = refl
quiet_settled (Some j) = quiet j.reads

pub nobody : (settled : List (Option Impact)) (joined n : ℕ) → is_woken [] settled joined true n ≡ false
nobody settled joined n = rw (quiet_settled (get_or settled n None)) refl

-- where no number passes
pub none_where : (p : ℕ → Bool) (n : ℕ) → ((k : ℕ) → p k ≡ false) → numbers_where p n ≡ []
none_where p zero none = refl
none_where p (suc n) none = ap (λ b. numbers_where p n ++ cond b (n ∷ []) []) (none n) ∙ ap (λ xs. xs ++ []) (none_where p n none)

pub all_without : (p : ℕ → Bool) (n : ℕ) (xs : List (Option Impact)) → ((k : ℕ) → p k ≡ false) → without p n xs ≡ xs
all_without p zero xs none = refl
all_without p (suc n) xs none = ap (λ b. cond b (set (without p n xs) n None) (without p n xs)) (none n) ∙ all_without p n xs none

-- of such a join
pub none_wake : (added : List Fact) (settled : List (Option Impact)) (joined : ℕ) (whole : Bool) (members : ℕ) → added ≡ [] → whole ≡ true → numbers_where (is_woken added settled joined whole) members ≡ []
none_wake added settled joined whole members nothing all =
    ap (λ fs. numbers_where (is_woken fs settled joined whole) members) nothing ∙ ap (λ b. numbers_where (is_woken [] settled joined b) members) all
    ∙ none_where (is_woken [] settled joined true) members (nobody settled joined)

pub none_forgets : (added : List Fact) (settled : List (Option Impact)) (joined : ℕ) (whole : Bool) (members : ℕ) → added ≡ [] → whole ≡ true → without (is_woken added settled joined whole) members settled ≡ settled
none_forgets added settled joined whole members nothing all =
    ap (λ fs. without (is_woken fs settled joined whole) members settled) nothing ∙ ap (λ b. without (is_woken [] settled joined b) members settled) all
    ∙ all_without (is_woken [] settled joined true) members settled (nobody settled joined)
