-- Options from their words.
use Rattle.std.proofs.Common.{◌≡◌, ◌⊎◌, inl, inr, ℕ, zero, suc, ◌+◌, ◌<◌, ◌≤◌, List, [], ◌∷◌, length, drop, get_or, Some, None, Result, Ok, Err, codes, refl, sym, ◌∙◌, ap, subst, arith}
use Rattle.std.specs.Prelude.{slice_get, MatchResult}
use Rattle.std.proofs.lemmas.List.{drop_all}
use Rattle.dart_web_cli.specs.declared.words.WordsFault.{WordsFault}
use Rattle.dart_web_cli.specs.declared.words.WordsFault.TheVariants.{Usage, Memory}
use Rattle.dart_web_cli.specs.declared.options.Options.{Options}
use Rattle.dart_web_cli.specs.Words.{IsSteps, IsOrder, usual_steps, IsOptions, none, steps, order, steps_order, order_steps}
use Rattle.dart_web_cli.specs.Commands.{Refuses}

pub with_steps : (name word : List ℕ) (n : ℕ) → name ≡ codes "--steps" → IsSteps word n → IsOptions (name ∷ word ∷ []) n []
with_steps name word n e is = subst (λ (k : List ℕ). IsOptions (k ∷ word ∷ []) n []) (sym e) (steps is)

pub with_order : (name word : List ℕ) (a : List ℕ) → name ≡ codes "--order" → IsOrder word a → IsOptions (name ∷ word ∷ []) usual_steps a
with_order name word a e is = subst (λ (k : List ℕ). IsOptions (k ∷ word ∷ []) usual_steps a) (sym e) (order is)

-- ---- two options

with_both : (name word second other : List ℕ) (n : ℕ) (a : List ℕ) → name ≡ codes "--steps" → second ≡ codes "--order" → IsSteps word n → IsOrder other a → IsOptions (name ∷ word ∷ second ∷ other ∷ []) n a
with_both name word second other n a e f is are =
    subst (λ (k : List ℕ). IsOptions (k ∷ word ∷ second ∷ other ∷ []) n a) (sym e)
    (subst (λ (k : List ℕ). IsOptions (codes "--steps" ∷ word ∷ k ∷ other ∷ []) n a) (sym f) (steps_order is are))

with_both_turned : (name word second other : List ℕ) (n : ℕ) (a : List ℕ) → name ≡ codes "--order" → second ≡ codes "--steps" → IsSteps other n → IsOrder word a → IsOptions (name ∷ word ∷ second ∷ other ∷ []) n a
with_both_turned name word second other n a e f is are =
    subst (λ (k : List ℕ). IsOptions (k ∷ word ∷ second ∷ other ∷ []) n a) (sym e)
    (subst (λ (k : List ℕ). IsOptions (codes "--order" ∷ word ∷ k ∷ other ∷ []) n a) (sym f) (order_steps are is))

apart : (x y : ℕ) → x ≡ y → x < y → ⊥
apart x y e l = omega arith

names_differ : codes "--steps" ≡ codes "--order" → ⊥
names_differ e = apart 111 115 (ap (λ (l : List ℕ). get_or l 2 0) (sym e)) (omega arith)

pub only_none : (words : List (List ℕ)) (n : ℕ) (a : List ℕ) → IsOptions words n a → words ≡ [] → (n ≡ usual_steps) × (a ≡ [])
only_none words n a none e = (refl, refl)
only_none words n a (steps is) e = absurd (let l = ap length e in omega arith)
only_none words n a (order is) e = absurd (let l = ap length e in omega arith)
only_none words n a (steps_order is are) e = absurd (let l = ap length e in omega arith)
only_none words n a (order_steps is are) e = absurd (let l = ap length e in omega arith)

pub only_steps : (words : List (List ℕ)) (n : ℕ) (a : List ℕ) → IsOptions words n a → (word : List ℕ) → words ≡ codes "--steps" ∷ word ∷ [] → IsSteps word n × (a ≡ [])
only_steps words n a none word e = absurd (let l = ap length e in omega arith)
only_steps words n a (steps {word = w} is) word e = let x : w ≡ word = cc in (subst (λ (k : List ℕ). IsSteps k n) x is, refl)
only_steps words n a (order is) word e = let x : codes "--steps" ≡ codes "--order" = cc in absurd (names_differ x)
only_steps words n a (steps_order is are) word e = absurd (let l = ap length e in omega arith)
only_steps words n a (order_steps is are) word e = absurd (let l = ap length e in omega arith)

pub only_order : (words : List (List ℕ)) (n : ℕ) (a : List ℕ) → IsOptions words n a → (word : List ℕ) → words ≡ codes "--order" ∷ word ∷ [] → (n ≡ usual_steps) × IsOrder word a
only_order words n a none word e = absurd (let l = ap length e in omega arith)
only_order words n a (order {word = w} is) word e = let x : w ≡ word = cc in (refl, subst (λ (k : List ℕ). IsOrder k a) x is)
only_order words n a (steps is) word e = let x : codes "--steps" ≡ codes "--order" = cc in absurd (names_differ x)
only_order words n a (steps_order is are) word e = absurd (let l = ap length e in omega arith)
only_order words n a (order_steps is are) word e = absurd (let l = ap length e in omega arith)

pub only_both : (words : List (List ℕ)) (n : ℕ) (a : List ℕ) → IsOptions words n a → (name word second other : List ℕ) → words ≡ name ∷ word ∷ second ∷ other ∷ [] → name ≡ codes "--steps" → IsSteps word n × IsOrder other a
only_both words n a none name word second other e f = absurd (let l = ap length e in omega arith)
only_both words n a (steps is) name word second other e f = absurd (let l = ap length e in omega arith)
only_both words n a (order is) name word second other e f = absurd (let l = ap length e in omega arith)
only_both words n a (steps_order {word = w} {other = o} is are) name word second other e f =
    let x : w ≡ word = cc in let y : o ≡ other = cc in
    (subst (λ (k : List ℕ). IsSteps k n) x is, subst (λ (k : List ℕ). IsOrder k a) y are)
only_both words n a (order_steps is are) name word second other e f = let x : codes "--steps" ≡ codes "--order" = cc in absurd (names_differ x)

pub only_both_turned : (words : List (List ℕ)) (n : ℕ) (a : List ℕ) → IsOptions words n a → (name word second other : List ℕ) → words ≡ name ∷ word ∷ second ∷ other ∷ [] → name ≡ codes "--order" → IsSteps other n × IsOrder word a
only_both_turned words n a none name word second other e f = absurd (let l = ap length e in omega arith)
only_both_turned words n a (steps is) name word second other e f = absurd (let l = ap length e in omega arith)
only_both_turned words n a (order is) name word second other e f = absurd (let l = ap length e in omega arith)
only_both_turned words n a (order_steps {word = w} {other = o} are is) name word second other e f =
    let x : w ≡ word = cc in let y : o ≡ other = cc in
    (subst (λ (k : List ℕ). IsSteps k n) y is, subst (λ (k : List ℕ). IsOrder k a) x are)
only_both_turned words n a (steps_order is are) name word second other e f = let x : codes "--steps" ≡ codes "--order" = cc in absurd (names_differ x)

-- what the options of these words come to
abbrev pub Reads : List (List ℕ) → Result Options WordsFault → Type 0
Reads words r = MatchResult r (λ o. IsOptions words o.steps o.order) (λ fault. Refuses fault ((n : ℕ) (a : List ℕ) → IsOptions words n a → ⊥))

-- what both come to
abbrev pub ReadsBoth : (word other : List ℕ) → Result Options WordsFault → Type 0
ReadsBoth word other r = MatchResult r (λ o. IsSteps word o.steps × IsOrder other o.order) (λ fault. Refuses fault ((n : ℕ) (a : List ℕ) → IsSteps word n → IsOrder other a → ⊥))

pub reads_both : (name word second other : List ℕ) (r : Result Options WordsFault) → name ≡ codes "--steps" → second ≡ codes "--order" → ReadsBoth word other r → Reads (name ∷ word ∷ second ∷ other ∷ []) r
reads_both name word second other (Ok o) e f h = with_both name word second other o.steps o.order e f h.0 h.1
reads_both name word second other (Err Usage) e f h = λ n a is. let b = only_both (name ∷ word ∷ second ∷ other ∷ []) n a is name word second other refl e in h n a b.0 b.1
reads_both name word second other (Err Memory) e f h = tt

pub reads_both_turned : (name word second other : List ℕ) (r : Result Options WordsFault) → name ≡ codes "--order" → second ≡ codes "--steps" → ReadsBoth other word r → Reads (name ∷ word ∷ second ∷ other ∷ []) r
reads_both_turned name word second other (Ok o) e f h = with_both_turned name word second other o.steps o.order e f h.0 h.1
reads_both_turned name word second other (Err Usage) e f h = λ n a is. let b = only_both_turned (name ∷ word ∷ second ∷ other ∷ []) n a is name word second other refl e in h n a b.0 b.1
reads_both_turned name word second other (Err Memory) e f h = tt

-- ---- words in their places

pub behind : (words : List (List ℕ)) (i : ℕ) (w : List ℕ) → slice_get words i ≡ Some w → drop i words ≡ w ∷ drop (i + 1) words
behind [] i w e = cc
behind (x ∷ xs) zero w e = let same : x ≡ w = cc in ap (λ (y : List ℕ). y ∷ xs) same
behind (x ∷ xs) (suc i) w e =
    let step : suc i + 1 ≡ suc (i + 1) = omega arith in
    subst (λ (k : ℕ). drop i xs ≡ w ∷ drop k (x ∷ xs)) (sym step) (behind xs i w e)

none_behind : (words : List (List ℕ)) (n : ℕ) → length words ≡ n → drop n words ≡ []
none_behind words n e = drop_all n words (omega arith)

pub reads_none : (words : List (List ℕ)) → length words ≡ 2 → IsOptions (drop 2 words) usual_steps []
reads_none words n = subst (λ (ws : List (List ℕ)). IsOptions ws usual_steps []) (sym (none_behind words 2 n)) none

pub reads_one : (words : List (List ℕ)) (a b : List ℕ) (r : Result Options WordsFault) → length words ≡ 4 → slice_get words 2 ≡ Some a → slice_get words 3 ≡ Some b → Reads (a ∷ b ∷ []) r → Reads (drop 2 words) r
reads_one words a b r n p q h =
    let all : drop 2 words ≡ a ∷ b ∷ [] = behind words 2 a p ∙ ap (λ (l : List (List ℕ)). a ∷ l) (behind words 3 b q ∙ ap (λ (l : List (List ℕ)). b ∷ l) (none_behind words 4 n)) in
    subst (λ (ws : List (List ℕ)). Reads ws r) (sym all) h

pub reads_two : (words : List (List ℕ)) (a b c d : List ℕ) (r : Result Options WordsFault) → length words ≡ 6 → slice_get words 2 ≡ Some a → slice_get words 3 ≡ Some b → slice_get words 4 ≡ Some c → slice_get words 5 ≡ Some d
    → Reads (a ∷ b ∷ c ∷ d ∷ []) r → Reads (drop 2 words) r
reads_two words a b c d r n p q s t h =
    let back : drop 4 words ≡ c ∷ d ∷ [] = behind words 4 c s ∙ ap (λ (l : List (List ℕ)). c ∷ l) (behind words 5 d t ∙ ap (λ (l : List (List ℕ)). d ∷ l) (none_behind words 6 n)) in
    let all : drop 2 words ≡ a ∷ b ∷ c ∷ d ∷ [] = behind words 2 a p ∙ ap (λ (l : List (List ℕ)). a ∷ l) (behind words 3 b q ∙ ap (λ (l : List (List ℕ)). b ∷ l) back) in
    subst (λ (ws : List (List ℕ)). Reads ws r) (sym all) h
