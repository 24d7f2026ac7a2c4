-- What a class may not declare.
use Rattle.std.specs.Prelude.{ℕ, ◌==◌, Bool, not, nat_le, List, [], ◌∷◌, Option, Some, None, codes}
use Rattle.std.specs.Bool.{then_some}
use Rattle.dart_grammar.specs.declared.trees.Name.{Name}
use Rattle.dart_grammar.specs.declared.declarations.OperatorMethod.{OperatorMethod}
use Rattle.dart_grammar.specs.declared.declarations.OperatorName.{OperatorName}
use Rattle.dart_grammar.specs.declared.declarations.OperatorName.TheVariants as o
use Rattle.dart_program.specs.Declares.{parameter_count}
use Rattle.dart_sites.specs.declared.sites.Site.{Site}
use Rattle.dart_sites.specs.declared.sites.Site.TheVariants as x
use Rattle.dart_sites.specs.declared.surroundings.Owner.{Owner}
use Rattle.dart_sites.specs.declared.surroundings.Surroundings.{Surroundings}
use Rattle.library_scopes.specs.Names.{is_among}

-- ---- an operator with another number of parameters than it takes; a name that no class may declare

-- `-` stands between operands or before one.
abbrev pub fits : OperatorName → ℕ → Bool
fits o.Minus count = nat_le count 1
fits o.SetIndex count = count == 2
fits _ count = count == 1

abbrev pub miscounted : OperatorMethod → Option ℕ
miscounted f = then_some (not (fits f.operator (parameter_count f.parameters))) f.sign.from

-- Nor may a class declare `==`, which is no operator that a method of the grammar has.
abbrev pub kept_names : List (List ℕ)
kept_names = codes "hashCode" ∷ codes "noSuchMethod" ∷ codes "call" ∷ []

abbrev pub kept_name : Name → Option ℕ
kept_name y = then_some (is_among y.text kept_names) y.span.from

-- all that classes declare but constructors, static or not
abbrev pub wrong_declaration : Site → Option ℕ
wrong_declaration (x.Function f) = kept_name f.name
wrong_declaration (x.Getter f) = kept_name f.name
wrong_declaration (x.Setter f) = kept_name f.name
wrong_declaration (x.Variable is_final y) = kept_name y
wrong_declaration (x.Operator f) = miscounted f
wrong_declaration _ = None

-- Libraries may declare these names.
abbrev pub declared_by : Option Owner → Site → Option ℕ
declared_by None y = None
declared_by (Some owner) y = wrong_declaration y

abbrev pub declared_at : Surroundings → Site → Option ℕ
declared_at s y = declared_by s.class y
