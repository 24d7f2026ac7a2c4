-- What a file and a class declare, one thing after another; of variables that are declared together each one.
use Rattle.std.specs.Prelude.{ℕ, ◌==◌, ◌+◌, Bool, true, false, ◌&&◌, List, [], ◌∷◌, ◌++◌, length, map, flat_map, Option, Some, None, option_to_list, codes, if◌then◌else◌}
use Rattle.dart_grammar.specs.declared.trees.Name.{Name}
use Rattle.dart_grammar.specs.declared.trees.Expr.{Expr}
use Rattle.dart_grammar.specs.declared.trees.Head.{Head}
use Rattle.dart_grammar.specs.declared.trees.Selector.{Selector}
use Rattle.dart_grammar.specs.declared.trees.Stmt.{Stmt}
use Rattle.dart_grammar.specs.declared.trees.Target.{Target}
use Rattle.dart_grammar.specs.declared.trees.Body.{Body}
use Rattle.dart_grammar.specs.declared.trees.Body.TheOpen.{Variable-F}
use Rattle.dart_grammar.specs.declared.trees.Arguments.{Arguments}
use Rattle.dart_grammar.specs.declared.trees.Catch.{Catch}
use Rattle.dart_grammar.specs.declared.trees.Chain.{Chain}
use Rattle.dart_grammar.specs.declared.trees.Entry.{Entry}
use Rattle.dart_grammar.specs.declared.trees.Interpolation.{Interpolation}
use Rattle.dart_grammar.specs.declared.trees.OptionalParameter.{OptionalParameter}
use Rattle.dart_grammar.specs.declared.trees.Parameters.{Parameters}
use Rattle.dart_grammar.specs.declared.trees.Variable.{Variable, out-Variable}
use Rattle.dart_grammar.specs.declared.trees.Variables.{Variables}
use Rattle.dart_grammar.specs.declared.declarations.FileTree.{FileTree}
use Rattle.dart_grammar.specs.declared.declarations.Declaration.{Declaration}
use Rattle.dart_grammar.specs.declared.declarations.Declaration.TheVariants as d
use Rattle.dart_grammar.specs.declared.declarations.Function.{Function}
use Rattle.dart_grammar.specs.declared.declarations.Getter.{Getter}
use Rattle.dart_grammar.specs.declared.declarations.Setter.{Setter}
use Rattle.dart_grammar.specs.declared.declarations.Class.{Class}
use Rattle.dart_grammar.specs.declared.declarations.Alias.{Alias}
use Rattle.dart_grammar.specs.declared.declarations.Member.{Member}
use Rattle.dart_grammar.specs.declared.declarations.Member.TheVariants as m
use Rattle.dart_grammar.specs.declared.declarations.OperatorName.{OperatorName}
use Rattle.dart_grammar.specs.declared.declarations.OperatorName.TheVariants as o
use Rattle.dart_grammar.specs.declared.declarations.OperatorMethod.{OperatorMethod}
use Rattle.dart_grammar.specs.declared.declarations.Constructor.{Constructor}

-- ---- a variable: its name, and what it is set to

abbrev pub VariableLevel : Type 0
VariableLevel = Variable-F Body Expr Head OptionalParameter Selector Stmt Target Variable Arguments Catch Chain Entry Interpolation Parameters Variables

abbrev pub variable_name_at : VariableLevel → Name
variable_name_at (Variable-F.Unset x) = x
variable_name_at (Variable-F.Initialised x a) = x

abbrev pub variable_value_at : VariableLevel → Option Expr
variable_value_at (Variable-F.Unset x) = None
variable_value_at (Variable-F.Initialised x a) = Some a

unfoldable pub variable_name : Variable → Name
variable_name x = variable_name_at (out-Variable x)

unfoldable pub variable_value : Variable → Option Expr
variable_value x = variable_value_at (out-Variable x)

-- ---- what a file declares

pub data Declared : Type 0 where
  AClass : Class → Declared
  AnAlias : Alias → Declared
  AFunction : Function → Declared
  AGetter : Getter → Declared
  ASetter : Setter → Declared
  -- whether it is final
  AVariable : Bool → Variable → Declared

abbrev pub declared_by : Declaration → List Declared
declared_by (d.Class x) = AClass x ∷ []
declared_by (d.Alias x) = AnAlias x ∷ []
declared_by (d.Function x) = AFunction x ∷ []
declared_by (d.Getter x) = AGetter x ∷ []
declared_by (d.Setter x) = ASetter x ∷ []
declared_by (d.Variables at x) = map (AVariable x.is_final) x.items

abbrev pub declared_in : FileTree → List Declared
declared_in file = flat_map declared_by file.declarations

-- its name, where it stands
abbrev pub declared_name : Declared → Name
declared_name (AClass x) = x.name
declared_name (AnAlias x) = x.name
declared_name (AFunction x) = x.name
declared_name (AGetter x) = x.name
declared_name (ASetter x) = x.name
declared_name (AVariable is_final x) = variable_name x

-- a class, by its members or by mixins
abbrev pub is_class : Declared → Bool
is_class (AClass x) = true
is_class (AnAlias x) = true
is_class _ = false

-- ---- what a class declares

-- The first flag of a method, an accessor and a field says whether it is static.
pub data DeclaredMember : Type 0 where
  AMethod : Bool → Function → DeclaredMember
  AMemberGetter : Bool → Getter → DeclaredMember
  AMemberSetter : Bool → Setter → DeclaredMember
  -- the second one, whether it is final
  AField : Bool → Bool → Variable → DeclaredMember
  AnOperator : OperatorMethod → DeclaredMember
  AConstructor : Constructor → DeclaredMember

abbrev pub declared_by_member : Member → List DeclaredMember
declared_by_member (m.Function is_static x) = AMethod is_static x ∷ []
declared_by_member (m.Getter is_static x) = AMemberGetter is_static x ∷ []
declared_by_member (m.Setter is_static x) = AMemberSetter is_static x ∷ []
declared_by_member (m.Fields is_static at x) = map (AField is_static x.is_final) x.items
declared_by_member (m.Operator x) = AnOperator x ∷ []
declared_by_member (m.Constructor x) = AConstructor x ∷ []

abbrev pub declared_in_class : Class → List DeclaredMember
declared_in_class class = flat_map declared_by_member class.members

-- the sign of an operator, by which it is called
abbrev pub sign_of : OperatorName → List ℕ
sign_of o.Plus = codes "+"
sign_of o.Minus = codes "-"
sign_of o.Times = codes "*"
sign_of o.Divide = codes "~/"
sign_of o.Modulo = codes "%"
sign_of o.Less = codes "<"
sign_of o.Greater = codes ">"
sign_of o.LessEqual = codes "<="
sign_of o.GreaterEqual = codes ">="
sign_of o.Index = codes "[]"
sign_of o.SetIndex = codes "[]="

abbrev pub is_minus : OperatorName → Bool
is_minus o.Minus = true
is_minus _ = false

abbrev pub parameter_count : Parameters → ℕ
parameter_count ps = length ps.required + length ps.optional

-- `-` without a parameter is the operator before an operand
abbrev pub operator_text : OperatorMethod → List ℕ
operator_text x = if is_minus x.operator && (parameter_count x.parameters == 0) then codes "unary-" else sign_of x.operator

-- the last name, or `or` where there is none
abbrev pub last_name : Name → List Name → Name
last_name or [] = or
last_name or (x ∷ xs) = last_name x xs

-- Its name, where it stands; of an operator its sign, and of a constructor its own name, which is the class's where it
-- has none.
abbrev pub member_name : Name → DeclaredMember → Name
member_name class (AMethod is_static x) = x.name
member_name class (AMemberGetter is_static x) = x.name
member_name class (AMemberSetter is_static x) = x.name
member_name class (AField is_static is_final x) = variable_name x
member_name class (AnOperator x) = record { text = operator_text x; span = x.sign }
member_name class (AConstructor x) = last_name class x.names

abbrev pub is_constructor : DeclaredMember → Bool
is_constructor (AConstructor x) = true
is_constructor _ = false

abbrev pub is_static : DeclaredMember → Bool
is_static (AMethod flag x) = flag
is_static (AMemberGetter flag x) = flag
is_static (AMemberSetter flag x) = flag
is_static (AField flag is_final x) = flag
is_static _ = false

-- ---- what is written in the head of a class, from left to right

abbrev pub supertypes : Declared → List (List Name)
supertypes (AClass x) = option_to_list x.superclass ++ x.mixins ++ x.interfaces
supertypes (AnAlias x) = x.superclass ∷ x.mixins ++ x.interfaces
supertypes _ = []

abbrev pub type_parameters : Declared → List Name
type_parameters (AClass x) = x.type_parameters
type_parameters (AnAlias x) = x.type_parameters
type_parameters _ = []

-- the name under which a setter, or the setting side of a variable, is looked up
abbrev pub setter_text : List ℕ → List ℕ
setter_text name = name ++ codes "="
