-- Searching sites one after another.
use Rattle.std.proofs.Common.{◌≡◌, ◌<◌, ◌+◌, ℕ, List, [], ◌∷◌, ◌++◌, length, get_or, drop, Option, Some, None, refl, sym, ap, ◌∙◌}
use Rattle.std.specs.List.{flat_map}
use Rattle.std.proofs.lemmas.List.{at_drop_more}
use Rattle.dart_grammar.specs.declared.declarations.FileTree.{FileTree}
use Rattle.dart_syntax.specs.declared.rules.Rule.{Rule}
use Rattle.dart_syntax.specs.declared.rules.Refusal.{Refusal}
use Rattle.dart_program.specs.First.{IsFirstOrNone}
use Rattle.dart_program.specs.Sooner.{sooner, first_with}
use Rattle.dart_program.proofs.Firsts.{AreBroken, first_of_broken, none_of_broken}
use Rattle.dart_sites.specs.declared.sites.Site.{Site}
use Rattle.dart_sites.specs.declared.surroundings.Surroundings.{Surroundings}
use Rattle.dart_sites.specs.Files.{sites_of_file}
use Rattle.dart_sites.specs.Visits.{visited}
use Rattle.body_rules.specs.declared.search.Search.{Search}
use Rattle.body_rules.specs.Rules.{fault, faults_at, faults_in, IsBroken}
use Rattle.body_rules.specs.Search.{searched}

pub first_with_append : (found : Option Refusal) (xs ys : List Refusal) → first_with found (xs ++ ys) ≡ first_with (first_with found xs) ys
first_with_append found [] ys = refl
first_with_append found (x ∷ xs) ys = first_with_append (sooner found x) xs ys

-- those of the rules of one site
pub eleven_joined : (found : Option Refusal) (a b c d e f g h i j k : List Refusal) → first_with found (a ++ b ++ c ++ d ++ e ++ f ++ g ++ h ++ i ++ j ++ k) ≡ first_with (first_with (first_with (first_with (first_with (first_with (first_with (first_with (first_with (first_with (first_with found a) b) c) d) e) f) g) h) i) j) k
eleven_joined found a b c d e f g h i j k =
    first_with_append found (a ++ b ++ c ++ d ++ e ++ f ++ g ++ h ++ i ++ j) k ∙ ap (λ r. first_with r k) (first_with_append found (a ++ b ++ c ++ d ++ e ++ f ++ g ++ h ++ i) j ∙ ap (λ r. first_with r j) (first_with_append found (a ++ b ++ c ++ d ++ e ++ f ++ g ++ h) i ∙ ap (λ r. first_with r i) (first_with_append found (a ++ b ++ c ++ d ++ e ++ f ++ g) h ∙ ap (λ r. first_with r h) (first_with_append found (a ++ b ++ c ++ d ++ e ++ f) g ∙ ap (λ r. first_with r g) (first_with_append found (a ++ b ++ c ++ d ++ e) f ∙ ap (λ r. first_with r f) (first_with_append found (a ++ b ++ c ++ d) e ∙ ap (λ r. first_with r e) (first_with_append found (a ++ b ++ c) d ∙ ap (λ r. first_with r d) (first_with_append found (a ++ b) c ∙ ap (λ r. first_with r c) (first_with_append found a b)))))))))

pub one_fault_more : {found found' : Option Refusal} {place place' : Option ℕ} (rule : Rule) (n : ℕ) → found ≡ found' → place ≡ place' → first_with found (fault rule n place) ≡ first_with found' (fault rule n place')
one_fault_more rule n e h = cc

-- ---- loops over what gives several

pub flat_step : {A B S : Type 0} (run : S → List B → S) → ((s : S) (xs ys : List B) → run s (xs ++ ys) ≡ run (run s xs) ys) → (f : A → List B) (xs : List A) (i : ℕ) (x : A) (s new whole : S)
    → i < length xs → x ≡ get_or xs i x → new ≡ run s (f x) → run s (flat_map f (drop i xs)) ≡ whole → run new (flat_map f (drop (i + 1) xs)) ≡ whole
flat_step run law f xs i x s new whole lt is step before =
    ap (λ t. run t (flat_map f (drop (i + 1) xs))) step
    ∙ sym (law s (f x) (flat_map f (drop (i + 1) xs)))
    ∙ ap (λ y. run s (f y ++ flat_map f (drop (i + 1) xs))) is
    ∙ sym (at_drop_more (λ ys. run s (flat_map f ys)) xs i x lt)
    ∙ before

-- ---- visitors

-- What any visitor finds that takes the first of what it found and of the faults of each site, where these rest on what it
-- keeps.
module _ {V K : Type 0} (step : V → Surroundings → Site → V) (found : V → Option Refusal) (kept : V → K) (faults : K → Surroundings → Site → List Refusal) (finds : (v : V) (s : Surroundings) (y : Site) → found (step v s y) ≡ first_with (found v) (faults (kept v) s y)) (keeps : (v : V) (s : Surroundings) (y : Site) → kept (step v s y) ≡ kept v) where
  pub visited_first : (sites : List (Surroundings × Site)) (v : V) → found (visited step sites v) ≡ first_with (found v) (flat_map (λ y. faults (kept v) y.0 y.1) sites)
  visited_first [] v = refl
  visited_first (y ∷ sites) v =
      let next = step v y.0 y.1 in
      visited_first sites next
      ∙ ap (λ k. first_with (found next) (flat_map (λ z. faults k z.0 z.1) sites)) (keeps v y.0 y.1)
      ∙ ap (λ r. first_with r (flat_map (λ z. faults (kept v) z.0 z.1) sites)) (finds v y.0 y.1)
      ∙ sym (first_with_append (found v) (faults (kept v) y.0 y.1) (flat_map (λ z. faults (kept v) z.0 z.1) sites))

-- ---- files

broken_in : (n : ℕ) (file : FileTree) → AreBroken (IsBroken n file) (faults_in n file)
unfolding IsBroken
broken_in n file = record { holds = λ x c. c; all = λ x b. b }

first_is : (n : ℕ) (file : FileTree) (r : Option Refusal) → r ≡ first_with None (faults_in n file) → IsFirstOrNone (IsBroken n file) r
first_is n file None e = none_of_broken (IsBroken n file) (faults_in n file) (broken_in n file) e
first_is n file (Some x) e = first_of_broken (IsBroken n file) (faults_in n file) x (broken_in n file) e

searched_first : (n : ℕ) (file : FileTree) → (visited searched (sites_of_file file) (record { number = n; first = None })).first ≡ first_with None (faults_in n file)
unfolding faults_in
searched_first n file = visited_first searched (λ (v : Search). v.first) (λ (v : Search). v.number) faults_at (λ v s y. refl) (λ v s y. refl) (sites_of_file file) (record { number = n; first = None })

pub first_in_file_is : (n : ℕ) (file : FileTree) (v : Search) → v ≡ visited searched (sites_of_file file) (record { number = n; first = None }) → IsFirstOrNone (IsBroken n file) v.first
first_in_file_is n file v e = first_is n file v.first (ap (λ (v : Search). v.first) e ∙ searched_first n file)
