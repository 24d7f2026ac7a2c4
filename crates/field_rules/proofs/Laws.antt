-- The first place at which a file breaks the rule.
use Rattle.std.proofs.Common.{◌≡◌, ℕ, Option, Some, None, refl, sym, ap, ◌∙◌}
use Rattle.std.specs.List.{flat_map}
use Rattle.dart_grammar.specs.declared.declarations.FileTree.{FileTree}
use Rattle.dart_syntax.specs.declared.rules.Refusal.{Refusal}
use Rattle.dart_program.specs.First.{IsFirstOrNone}
use Rattle.dart_program.specs.Sooner.{first_with}
use Rattle.dart_program.proofs.Firsts.{AreBroken, first_of_broken, none_of_broken}
use Rattle.dart_sites.specs.Files.{sites_of_file}
use Rattle.dart_sites.specs.Visits.{visited}
use Rattle.body_rules.proofs.Laws.{first_with_append, visited_first}
use Rattle.field_rules.specs.declared.search.Search.{Search}
use Rattle.field_rules.specs.Rules.{set_faults, stray_faults, faults_in, IsBroken}
use Rattle.field_rules.specs.Steps.{searched}

broken_in : (n : ℕ) (file : FileTree) → AreBroken (IsBroken n file) (faults_in n file)
unfolding IsBroken
broken_in n file = record { holds = λ x c. c; all = λ x b. b }

first_is : (n : ℕ) (file : FileTree) (r : Option Refusal) → r ≡ first_with None (faults_in n file) → IsFirstOrNone (IsBroken n file) r
first_is n file None e = none_of_broken (IsBroken n file) (faults_in n file) (broken_in n file) e
first_is n file (Some x) e = first_of_broken (IsBroken n file) (faults_in n file) x (broken_in n file) e

searched_first : (n : ℕ) (file : FileTree) (found : Option Refusal) → found ≡ first_with None (flat_map (set_faults n) file.declarations) → (visited searched (sites_of_file file) (record { number = n; first = found })).first ≡ first_with None (faults_in n file)
unfolding faults_in
searched_first n file found e =
    visited_first searched (λ (v : Search). v.first) (λ (v : Search). v.number) stray_faults (λ v s y. refl) (λ v s y. refl) (sites_of_file file) (record { number = n; first = found })
    ∙ ap (λ r. first_with r (flat_map (λ y. stray_faults n y.0 y.1) (sites_of_file file))) e
    ∙ sym (first_with_append None (flat_map (set_faults n) file.declarations) (flat_map (λ y. stray_faults n y.0 y.1) (sites_of_file file)))

pub first_in_file_is : (n : ℕ) (file : FileTree) (found : Option Refusal) (v : Search) → found ≡ first_with None (flat_map (set_faults n) file.declarations) → v ≡ visited searched (sites_of_file file) (record { number = n; first = found }) → IsFirstOrNone (IsBroken n file) v.first
first_in_file_is n file found v e f = first_is n file v.first (ap (λ (v : Search). v.first) f ∙ searched_first n file found e)
