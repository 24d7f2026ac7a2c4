-- Where a file breaks the rule of fields.
use Rattle.std.specs.Prelude.{ℕ, List, [], ◌++◌, map, Contains}
use Rattle.std.specs.List.{flat_map}
use Rattle.dart_grammar.specs.declared.declarations.Class.{Class}
use Rattle.dart_grammar.specs.declared.declarations.Declaration.{Declaration}
use Rattle.dart_grammar.specs.declared.declarations.Declaration.TheVariants as d
use Rattle.dart_grammar.specs.declared.declarations.FileTree.{FileTree}
use Rattle.dart_syntax.specs.declared.rules.Rule.TheVariants.{B9}
use Rattle.dart_syntax.specs.declared.rules.Refusal.{Refusal}
use Rattle.dart_program.specs.First.{Broken}
use Rattle.dart_sites.specs.declared.sites.Site.{Site}
use Rattle.dart_sites.specs.declared.surroundings.Surroundings.{Surroundings}
use Rattle.dart_sites.specs.Files.{sites_of_file}
use Rattle.library_scopes.specs.Rules.{refusal}
use Rattle.body_rules.specs.Rules.{fault}
use Rattle.field_rules.specs.Fields.{fields_of, wrong_in_member, stray_at}

-- the rule, where it is broken
abbrev pub faults : ℕ → List ℕ → List Refusal
faults n places = map (refusal B9 n) places

-- in the constructors of a class
abbrev pub class_faults : ℕ → Class → List Refusal
class_faults n c = flat_map (λ x. faults n (wrong_in_member (fields_of c) x)) c.members

abbrev pub set_faults : ℕ → Declaration → List Refusal
set_faults n (d.Class c) = class_faults n c
set_faults n _ = []

-- at its sites
abbrev pub stray_faults : ℕ → Surroundings → Site → List Refusal
stray_faults n s y = fault B9 n (stray_at s y)

unfoldable pub faults_in : ℕ → FileTree → List Refusal
faults_in n file = flat_map (set_faults n) file.declarations ++ flat_map (λ y. stray_faults n y.0 y.1) (sites_of_file file)

unfoldable pub IsBroken : ℕ → FileTree → Broken
IsBroken n file rule m at = Contains (faults_in n file) (refusal rule m at)
