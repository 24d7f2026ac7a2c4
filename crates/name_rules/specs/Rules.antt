-- Where a file breaks the rule of names.
use Rattle.std.specs.Prelude.{ℕ, List, ◌++◌, Contains}
use Rattle.std.specs.List.{flat_map}
use Rattle.dart_grammar.specs.declared.declarations.FileTree.{FileTree}
use Rattle.dart_syntax.specs.declared.rules.Rule.TheVariants.{B13}
use Rattle.dart_syntax.specs.declared.rules.Refusal.{Refusal}
use Rattle.dart_program.specs.First.{Broken}
use Rattle.dart_sites.specs.declared.sites.Site.{Site}
use Rattle.dart_sites.specs.declared.surroundings.Surroundings.{Surroundings}
use Rattle.dart_sites.specs.Files.{sites_of_file}
use Rattle.library_scopes.specs.Rules.{refusal}
use Rattle.body_rules.specs.Rules.{fault}
use Rattle.class_heads.specs.Sources.{Sources}
use Rattle.name_rules.specs.Uses.{misused_at, tested_at, read_wrongly_at}

-- at a site of the file of this number
unfoldable pub faults_at : Sources → ℕ → Surroundings → Site → List Refusal
faults_at p n s y =
    fault B13 n (misused_at p n s y)
    ++ fault B13 n (tested_at p n s y)
    ++ fault B13 n (read_wrongly_at p n s y)

unfoldable pub faults_in : Sources → ℕ → FileTree → List Refusal
faults_in p n file = flat_map (λ y. faults_at p n y.0 y.1) (sites_of_file file)

unfoldable pub IsBroken : Sources → ℕ → FileTree → Broken
IsBroken p n file rule m at = Contains (faults_in p n file) (refusal rule m at)
