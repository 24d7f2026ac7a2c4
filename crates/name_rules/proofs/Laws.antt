-- The first place at which a file breaks the rule.
use Rattle.std.proofs.Common.{◌≡◌, ℕ, ◌++◌, List, Option, Some, None, refl, ap, ◌∙◌}
use Rattle.dart_grammar.specs.declared.declarations.FileTree.{FileTree}
use Rattle.dart_syntax.specs.declared.rules.Refusal.{Refusal}
use Rattle.dart_program.specs.First.{IsFirstOrNone}
use Rattle.dart_program.specs.Sooner.{first_with}
use Rattle.dart_program.proofs.Firsts.{AreBroken, first_of_broken, none_of_broken}
use Rattle.dart_sites.specs.Files.{sites_of_file}
use Rattle.dart_sites.specs.Visits.{visited}
use Rattle.body_rules.proofs.Laws.{first_with_append, visited_first}
use Rattle.class_heads.specs.Sources.{Sources}
use Rattle.name_rules.specs.declared.search.Search.{Search}
use Rattle.name_rules.specs.Rules.{faults_at, faults_in, IsBroken}
use Rattle.name_rules.specs.Search.{searched}

-- those of one site
pub three_joined : (found : Option Refusal) (a b c : List Refusal) → first_with found (a ++ b ++ c) ≡ first_with (first_with (first_with found a) b) c
three_joined found a b c = first_with_append found (a ++ b) c ∙ ap (λ r. first_with r c) (first_with_append found a b)

broken_in : (p : Sources) (n : ℕ) (file : FileTree) → AreBroken (IsBroken p n file) (faults_in p n file)
unfolding IsBroken
broken_in p n file = record { holds = λ x c. c; all = λ x b. b }

first_is : (p : Sources) (n : ℕ) (file : FileTree) (r : Option Refusal) → r ≡ first_with None (faults_in p n file) → IsFirstOrNone (IsBroken p n file) r
first_is p n file None e = none_of_broken (IsBroken p n file) (faults_in p n file) (broken_in p n file) e
first_is p n file (Some x) e = first_of_broken (IsBroken p n file) (faults_in p n file) x (broken_in p n file) e

searched_first : (p : Sources) (n : ℕ) (file : FileTree) → (visited searched (sites_of_file file) (record { meanings = p; number = n; first = None })).first ≡ first_with None (faults_in p n file)
unfolding faults_in
searched_first p n file = visited_first {K = Sources × ℕ} searched (λ (v : Search). v.first) (λ (v : Search). (v.meanings, v.number)) (λ k. faults_at k.0 k.1) (λ v s y. refl) (λ v s y. refl) (sites_of_file file) (record { meanings = p; number = n; first = None })

pub first_in_file_is : (p : Sources) (n : ℕ) (file : FileTree) (v : Search) → v ≡ visited searched (sites_of_file file) (record { meanings = p; number = n; first = None }) → IsFirstOrNone (IsBroken p n file) v.first
first_in_file_is p n file v e = first_is p n file v.first (ap (λ (v : Search). v.first) e ∙ searched_first p n file)
