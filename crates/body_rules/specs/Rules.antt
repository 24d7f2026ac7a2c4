-- The rules of bodies that are told from a place and from what is around it: where each is broken.
use Rattle.std.specs.Prelude.{ℕ, List, ◌++◌, map, Option, option_to_list, Contains}
use Rattle.std.specs.List.{flat_map}
use Rattle.dart_grammar.specs.declared.declarations.FileTree.{FileTree}
use Rattle.dart_syntax.specs.declared.rules.Rule.{Rule}
use Rattle.dart_syntax.specs.declared.rules.Rule.TheVariants.{B1, B2, B3, B4, B5, B6, B7, B8, B10, B12, B14}
use Rattle.dart_syntax.specs.declared.rules.Refusal.{Refusal}
use Rattle.dart_program.specs.First.{Broken}
use Rattle.dart_sites.specs.declared.sites.Site.{Site}
use Rattle.dart_sites.specs.declared.surroundings.Surroundings.{Surroundings}
use Rattle.dart_sites.specs.Files.{sites_of_file}
use Rattle.library_scopes.specs.Rules.{refusal}
use Rattle.body_rules.specs.Blocks.{doubled_at, early_at}
use Rattle.body_rules.specs.Jumps.{break_at, continue_at, this_at, super_at, return_at, rethrow_at}
use Rattle.body_rules.specs.Constructors.{super_call_at}
use Rattle.body_rules.specs.Declarations.{declared_at}
use Rattle.body_rules.specs.Lists.{listed_at}

-- this rule, where it is broken
abbrev pub fault : Rule → ℕ → Option ℕ → List Refusal
fault rule n place = map (refusal rule n) (option_to_list place)

-- what is broken at a site of the file of this number
unfoldable pub faults_at : ℕ → Surroundings → Site → List Refusal
faults_at n s y =
    fault B1 n (doubled_at s y)
    ++ fault B2 n (early_at s y)
    ++ fault B3 n (break_at s y)
    ++ fault B4 n (continue_at s y)
    ++ fault B5 n (this_at s y)
    ++ fault B6 n (super_at s y)
    ++ fault B7 n (return_at s y)
    ++ fault B8 n (rethrow_at s y)
    ++ fault B10 n (super_call_at s y)
    ++ fault B12 n (declared_at s y)
    ++ fault B14 n (listed_at y)

-- what is broken in a file
unfoldable pub faults_in : ℕ → FileTree → List Refusal
faults_in n file = flat_map (λ y. faults_at n y.0 y.1) (sites_of_file file)

unfoldable pub IsBroken : ℕ → FileTree → Broken
IsBroken n file rule m at = Contains (faults_in n file) (refusal rule m at)
