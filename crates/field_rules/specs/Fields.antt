-- The rule of fields: a constructor sets no name that is no field of its class, and no field twice.
use Rattle.std.specs.Prelude.{ℕ, Bool, true, false, not, ◌&&◌, ◌||◌, if◌then◌else◌, List, [], ◌∷◌, ◌++◌, map, Option, Some, None, option_to_list}
use Rattle.std.specs.Bool.{then_some}
use Rattle.std.specs.List.{flat_map}
use Rattle.dart_grammar.specs.declared.trees.Arguments.{Arguments}
use Rattle.dart_grammar.specs.declared.trees.Body.{Body}
use Rattle.dart_grammar.specs.declared.trees.Body.TheOpen.{OptionalParameter-F}
use Rattle.dart_grammar.specs.declared.trees.Catch.{Catch}
use Rattle.dart_grammar.specs.declared.trees.Chain.{Chain}
use Rattle.dart_grammar.specs.declared.trees.Entry.{Entry}
use Rattle.dart_grammar.specs.declared.trees.Expr.{Expr}
use Rattle.dart_grammar.specs.declared.trees.Head.{Head}
use Rattle.dart_grammar.specs.declared.trees.Interpolation.{Interpolation}
use Rattle.dart_grammar.specs.declared.trees.Name.{Name}
use Rattle.dart_grammar.specs.declared.trees.OptionalParameter.{OptionalParameter, out-OptionalParameter}
use Rattle.dart_grammar.specs.declared.trees.Parameter.{Parameter}
use Rattle.dart_grammar.specs.declared.trees.Parameters.{Parameters}
use Rattle.dart_grammar.specs.declared.trees.Selector.{Selector}
use Rattle.dart_grammar.specs.declared.trees.Span.{Span}
use Rattle.dart_grammar.specs.declared.trees.Stmt.{Stmt}
use Rattle.dart_grammar.specs.declared.trees.Target.{Target}
use Rattle.dart_grammar.specs.declared.trees.Variable.{Variable}
use Rattle.dart_grammar.specs.declared.trees.Variables.{Variables}
use Rattle.dart_grammar.specs.declared.declarations.Class.{Class}
use Rattle.dart_grammar.specs.declared.declarations.Constructor.{Constructor}
use Rattle.dart_grammar.specs.declared.declarations.Initialiser.{Initialiser}
use Rattle.dart_grammar.specs.declared.declarations.Initialiser.TheVariants as i
use Rattle.dart_grammar.specs.declared.declarations.Member.{Member}
use Rattle.dart_grammar.specs.declared.declarations.Member.TheVariants as m
use Rattle.dart_program.specs.Declares.{variable_name}
use Rattle.dart_sites.specs.declared.sites.Site.{Site}
use Rattle.dart_sites.specs.declared.sites.Site.TheVariants as x
use Rattle.dart_sites.specs.declared.surroundings.Surroundings.{Surroundings}
use Rattle.dart_sites.specs.declared.surroundings.Within.{Within}
use Rattle.dart_sites.specs.declared.surroundings.Within.TheVariants as w
use Rattle.library_scopes.specs.Names.{is_among}

-- ---- the fields that an object of a class has by its body, by name

abbrev pub name_of : Variable → List ℕ
name_of v = (variable_name v).text

abbrev pub fields_by : Member → List (List ℕ)
fields_by (m.Fields is_static at xs) = if is_static then [] else map name_of xs.items
fields_by _ = []

abbrev pub fields_of : Class → List (List ℕ)
fields_of c = flat_map fields_by c.members

-- ---- what a constructor sets before its body, in the order in which it stands

-- a name that is set, and where that stands
pub record Setting : Type 0 where
  pub at : ℕ
  pub name : List ℕ

abbrev pub set_at : Option Span → Name → List Setting
set_at None y = []
set_at (Some at) y = record { at = at.from; name = y.text } ∷ []

-- `this.name`
abbrev pub set_by_parameter : Parameter → List Setting
set_by_parameter p = set_at p.this p.name

abbrev pub OptionalLevel : Type 0
OptionalLevel = OptionalParameter-F Body Expr Head OptionalParameter Selector Stmt Target Variable Arguments Catch Chain Entry Interpolation Parameters Variables

abbrev pub parameter_at : OptionalLevel → Parameter
parameter_at (OptionalParameter-F.WithoutDefault p) = p
parameter_at (OptionalParameter-F.WithDefault p a) = p

abbrev pub set_by_optional : OptionalParameter → List Setting
set_by_optional p = set_by_parameter (parameter_at (out-OptionalParameter p))

abbrev pub set_by_initialiser : Initialiser → List Setting
set_by_initialiser (i.Field at y a) = record { at = at.from; name = y.text } ∷ []
set_by_initialiser (i.Super at y args) = []

abbrev pub settings : Constructor → List Setting
settings f = flat_map set_by_parameter f.parameters.required ++ (flat_map set_by_optional f.parameters.optional ++ flat_map set_by_initialiser f.initialisers)

-- ---- where it sets what it may not

-- what is no field, or was set before
abbrev pub is_wrong : List (List ℕ) → List (List ℕ) → List ℕ → Bool
is_wrong fields before name = not (is_among name fields) || is_among name before

abbrev pub wrong_settings : List (List ℕ) → List (List ℕ) → List Setting → List ℕ
wrong_settings fields before [] = []
wrong_settings fields before (x ∷ xs) = option_to_list (then_some (is_wrong fields before x.name) x.at) ++ wrong_settings fields (before ++ x.name ∷ []) xs

abbrev pub wrong_in_member : List (List ℕ) → Member → List ℕ
wrong_in_member fields (m.Constructor f) = wrong_settings fields [] (settings f)
wrong_in_member fields _ = []

-- ---- `this.name` among parameters that are no constructor's

abbrev pub is_head : Within → Bool
is_head (w.ConstructorHead f) = true
is_head _ = false

-- A function in the head of a constructor has parameters of its own.
abbrev pub is_of_constructor : Surroundings → Bool
is_of_constructor s = not s.in_function && is_head s.within

abbrev pub stray_at : Surroundings → Site → Option ℕ
stray_at s (x.FieldParameter at y) = then_some (not (is_of_constructor s)) at.from
stray_at s _ = None
