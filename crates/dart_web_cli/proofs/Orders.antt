-- An order, number by number.
use Rattle.std.proofs.Common.{◌≡◌, ℕ, ◌+◌, ◌<◌, ◌≤◌, List, [], ◌∷◌, ◌++◌, length, refl, sym, ◌∙◌, ap, subst, arith, append_assoc, length-append}
use Rattle.dart_web_cli.specs.Words.{IsOrder}
use Rattle.dart_web_cli.specs.Commands.{IsNumbers, HasNoNumber, Goes, Ends}

-- the numbers of the word are those done, and then those of the text
pub record SoFar (word done text : List ℕ) : Type 0 where
  pub from : (numbers : List ℕ) → IsNumbers word numbers → (more : List ℕ) × (numbers ≡ done ++ more) × IsNumbers text more
  pub to : (more : List ℕ) → IsNumbers text more → IsNumbers word (done ++ more)

numbers_of : (word order : List ℕ) → IsOrder word order → IsNumbers word order
numbers_of word order is = record { is = is.is; some = is.some; short = is.short }

pub at_first : (word : List ℕ) → SoFar word [] word
at_first word = record { from = λ numbers are. (numbers, refl, are); to = λ more are. are }

pub with_next : (word done text rest : List ℕ) (n : ℕ) → SoFar word done text → Goes text n rest → SoFar word (done ++ n ∷ []) rest
with_next word done text rest n so goes = record {
  from = λ numbers are.
      let x = so.from numbers are in
      let y = goes.from x.0 x.2 in
      (y.0, x.1 ∙ (ap (λ (l : List ℕ). done ++ l) y.1 ∙ sym (append_assoc done (n ∷ []) y.0)), y.2);
  to = λ more are. subst (IsNumbers word) (sym (append_assoc done (n ∷ []) more)) (so.to (n ∷ more) (goes.to more are));
}

pub no_more : (word done text : List ℕ) → SoFar word done text → HasNoNumber text → (order : List ℕ) → IsOrder word order → ⊥
no_more word done text so never order is = let x = so.from order (numbers_of word order is) in never x.0 x.2

pub whole_order : (word done text : List ℕ) (n : ℕ) → SoFar word done text → Ends text n → length done < 1024 → IsOrder word (done ++ n ∷ [])
whole_order word done text n so ends few =
    let are = so.to (n ∷ []) ends.is in
    record { is = are.is; some = are.some; few = omega (arith, length-append done (n ∷ [])); short = are.short }

pub too_many : (word done text : List ℕ) → SoFar word done text → length done ≡ 1024 → (order : List ℕ) → IsOrder word order → ⊥
too_many word done text so many order is =
    let x = so.from order (numbers_of word order is) in
    omega (arith, ap length x.1, length-append done x.0, x.2.some, is.few)
