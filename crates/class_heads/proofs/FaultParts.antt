-- Faults that are looked for part by part.
use Rattle.std.proofs.Common.{◌≡◌, ◌<◌, ◌+◌, ℕ, suc, List, [], ◌∷◌, ◌++◌, length, get_or, drop, Option, refl, sym, ap, ◌∙◌}
use Rattle.std.specs.List.{flat_map}
use Rattle.std.proofs.lemmas.List.{drop_more}
use Rattle.std.proofs.lemmas.List.Concat.{flat_map-append}
use Rattle.dart_syntax.specs.declared.rules.Refusal.{Refusal}
use Rattle.dart_program.specs.Sooner.{sooner, first_with}
use Rattle.class_heads.specs.declared.known.Known.{Known}
use Rattle.class_heads.specs.declared.written.WrittenClass.{WrittenClass}
use Rattle.class_heads.specs.Rules.{own_number}
use Rattle.class_heads.specs.Faults.{head_faults, faults_from}

pub first_with_append : (found : Option Refusal) (xs ys : List Refusal) → first_with found (xs ++ ys) ≡ first_with (first_with found xs) ys
first_with_append found [] ys = refl
first_with_append found (x ∷ xs) ys = first_with_append (sooner found x) xs ys

pub over_append : {A : Type 0} (f : A → List Refusal) (xs ys : List A) → flat_map f (xs ++ ys) ≡ flat_map f xs ++ flat_map f ys
over_append f xs ys = flat_map-append f xs ys

-- with one more item
pub over_more : {A : Type 0} (f : A → List Refusal) (before after : Option Refusal) (xs : List A) (i : ℕ) (x : A) → i < length xs → x ≡ get_or xs i x → after ≡ first_with before (f x) → first_with after (flat_map f (drop (i + 1) xs)) ≡ first_with before (flat_map f (drop i xs))
over_more f before after xs i x lt is e =
    sym (ap (λ ys. first_with before (flat_map f ys)) (drop_more xs i x lt ∙ ap (λ y. y ∷ drop (i + 1) xs) (sym is)) ∙ (first_with_append before (f x) (flat_map f (drop (i + 1) xs)) ∙ ap (λ o. first_with o (flat_map f (drop (i + 1) xs))) (sym e)))

-- with one more head
pub heads_more : (k : Known) (before after : Option Refusal) (ws : List WrittenClass) (i n m : ℕ) (w : WrittenClass) → i < length ws → w ≡ get_or ws i w → m ≡ suc (own_number n w) → after ≡ first_with before (head_faults k n w) → first_with after (faults_from k m (drop (i + 1) ws)) ≡ first_with before (faults_from k n (drop i ws))
heads_more k before after ws i n m w lt is long e =
    sym (ap (λ ys. first_with before (faults_from k n ys)) (drop_more ws i w lt ∙ ap (λ y. y ∷ drop (i + 1) ws) (sym is)) ∙ (first_with_append before (head_faults k n w) (faults_from k (suc (own_number n w)) (drop (i + 1) ws)) ∙ (ap (λ o. first_with o (faults_from k (suc (own_number n w)) (drop (i + 1) ws))) (sym e) ∙ ap (λ l. first_with after (faults_from k l (drop (i + 1) ws))) (sym long))))
