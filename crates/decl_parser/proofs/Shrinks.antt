-- A derivation takes tokens.
use Rattle.std.proofs.Common.{ℕ, ◌<◌, ◌≤◌, Bool, List, length, Option, arith}
use Rattle.dart_grammar.specs.declared.trees.Span.{Span}
use Rattle.dart_grammar.specs.declared.trees.Name.{Name}
use Rattle.dart_grammar.specs.declared.trees.Body.{Body}
use Rattle.dart_grammar.specs.declared.declarations.Import.{Import}
use Rattle.dart_grammar.specs.declared.declarations.Combinator.{Combinator}
use Rattle.dart_grammar.specs.declared.declarations.Declaration.{Declaration}
use Rattle.dart_grammar.specs.declared.declarations.Function.{Function}
use Rattle.dart_grammar.specs.declared.declarations.Getter.{Getter}
use Rattle.dart_grammar.specs.declared.declarations.Setter.{Setter}
use Rattle.dart_grammar.specs.declared.declarations.Member.{Member}
use Rattle.dart_grammar.specs.declared.declarations.OperatorName.{OperatorName}
use Rattle.dart_grammar.specs.declared.declarations.OperatorMethod.{OperatorMethod}
use Rattle.dart_grammar.specs.declared.declarations.Constructor.{Constructor}
use Rattle.dart_grammar.specs.declared.declarations.Initialiser.{Initialiser}
use Rattle.dart_grammar.specs.Marks.{Tokens}
use Rattle.dart_grammar.specs.Declarations as g
use Rattle.dart_grammar.specs.Declarations.{IsBody, IsFunction, MayHaveTypeBefore, IsGetter, IsSetter, MayHaveBound, AreTypeParameters, MayHaveTypeParameters, AreSupertypes, MayExtend, MayImplement, IsOperatorName, IsInitialiser, AreInitialisers, MayInitialise, AreConstructorNames, IsConstructor, IsPlainMember, IsMember, AreMembers, MayBeAbstract, IsClassHead, IsDeclaration, MayHavePrefix, AreShown, AreCombinators, IsImport, AreImports, IsLibraryName, MayBeNamed}
use Rattle.expr_parser.proofs.Shrinks.{expr_shrinks, block_shrinks, type_shrinks, may_have_result_shrinks, parameters_shrinks, parameter_shrinks, are_arguments_shrink, are_variables_shrink, metadata_shrinks}

-- ---- functions, accessors and operators

pub body_shrinks : {native in_class : Bool} {ts : Tokens} {a : Body} {j : ℕ} {rest : Tokens} → IsBody native in_class ts a j rest → length rest < length ts
body_shrinks (g.gives a) = omega (arith, expr_shrinks a)
body_shrinks (g.block a) = omega (arith, block_shrinks a)
body_shrinks (g.abstract _) = omega arith
body_shrinks (g.native_body _) = omega arith

pub type_before_shrinks : {ts rest : Tokens} → MayHaveTypeBefore ts rest → length rest ≤ length ts
type_before_shrinks (g.at_once _) = omega arith
type_before_shrinks (g.behind_type _ b) = omega (arith, may_have_result_shrinks b)

pub operator_name_shrinks : {ts : Tokens} {x : OperatorName} {p : Span} {rest : Tokens} → IsOperatorName ts x p rest → length rest < length ts
operator_name_shrinks g.plus = omega arith
operator_name_shrinks g.minus = omega arith
operator_name_shrinks g.times = omega arith
operator_name_shrinks g.divide = omega arith
operator_name_shrinks g.modulo = omega arith
operator_name_shrinks g.less = omega arith
operator_name_shrinks g.greater = omega arith
operator_name_shrinks g.less_equal = omega arith
operator_name_shrinks g.greater_equal = omega arith
operator_name_shrinks (g.at_index _) = omega arith
operator_name_shrinks g.set_index = omega arith

pub function_shrinks : {native in_class : Bool} {from : ℕ} {ts : Tokens} {x : Function} {rest : Tokens} → IsFunction native in_class from ts x rest → length rest < length ts
function_shrinks (g.function a b c) = omega (arith, may_have_result_shrinks a, parameters_shrinks b, body_shrinks c)

pub getter_shrinks : {native in_class : Bool} {from : ℕ} {ts : Tokens} {x : Getter} {rest : Tokens} → IsGetter native in_class from ts x rest → length rest < length ts
getter_shrinks (g.getter a b) = omega (arith, type_before_shrinks a, body_shrinks b)

pub setter_shrinks : {native in_class : Bool} {from : ℕ} {ts : Tokens} {x : Setter} {rest : Tokens} → IsSetter native in_class from ts x rest → length rest < length ts
setter_shrinks (g.setter a b c) = omega (arith, type_before_shrinks a, parameter_shrinks b, body_shrinks c)

pub operator_shrinks : {native : Bool} {from : ℕ} {ts : Tokens} {x : OperatorMethod} {rest : Tokens} → g.IsOperator native from ts x rest → length rest < length ts
operator_shrinks (g.operator a b c d) = omega (arith, type_before_shrinks a, operator_name_shrinks b, parameters_shrinks c, body_shrinks d)

-- ---- between the name of a class and its members

pub bound_shrinks : {ts rest : Tokens} → MayHaveBound ts rest → length rest ≤ length ts
bound_shrinks (g.no_bound _) = omega arith
bound_shrinks (g.bound a) = omega (arith, type_shrinks a)

pub are_type_parameters_shrink : {ts : Tokens} {xs : List Name} {rest : Tokens} → AreTypeParameters ts xs rest → length rest < length ts
are_type_parameters_shrink (g.last_type_parameter a) = omega (arith, bound_shrinks a)
are_type_parameters_shrink (g.more_type_parameters a b) = omega (arith, bound_shrinks a, are_type_parameters_shrink b)

pub type_parameters_shrink : {ts : Tokens} {xs : List Name} {rest : Tokens} → MayHaveTypeParameters ts xs rest → length rest ≤ length ts
type_parameters_shrink (g.no_type_parameters _) = omega arith
type_parameters_shrink (g.type_parameters a) = omega (arith, are_type_parameters_shrink a)

pub are_supertypes_shrink : {ts : Tokens} {xs : List (List Name)} {rest : Tokens} → AreSupertypes ts xs rest → length rest < length ts
are_supertypes_shrink (g.last_supertype a) = omega (arith, type_shrinks a)
are_supertypes_shrink (g.more_supertypes a b) = omega (arith, type_shrinks a, are_supertypes_shrink b)

pub may_extend_shrinks : {ts : Tokens} {x : Option (List Name)} {xs : List (List Name)} {rest : Tokens} → MayExtend ts x xs rest → length rest ≤ length ts
may_extend_shrinks (g.no_superclass _) = omega arith
may_extend_shrinks (g.extends a _) = omega (arith, type_shrinks a)
may_extend_shrinks (g.extends_with a b) = omega (arith, type_shrinks a, are_supertypes_shrink b)

pub may_implement_shrinks : {ts : Tokens} {xs : List (List Name)} {rest : Tokens} → MayImplement ts xs rest → length rest ≤ length ts
may_implement_shrinks (g.no_interfaces _) = omega arith
may_implement_shrinks (g.implements a) = omega (arith, are_supertypes_shrink a)

pub may_be_abstract_shrinks : {ts : Tokens} {b : Bool} {rest : Tokens} → MayBeAbstract ts b rest → length rest ≤ length ts
may_be_abstract_shrinks (g.concrete _) = omega arith
may_be_abstract_shrinks g.is_abstract = omega arith

pub class_head_shrinks : {ts : Tokens} {b : Bool} {x : Name} {xs : List Name} {rest : Tokens} → IsClassHead ts b x xs rest → length rest < length ts
class_head_shrinks (g.class_head a b) = omega (arith, may_be_abstract_shrinks a, type_parameters_shrink b)

-- ---- members

pub initialiser_shrinks : {ts : Tokens} {x : Initialiser} {rest : Tokens} → IsInitialiser ts x rest → length rest < length ts
initialiser_shrinks (g.field_of_this a) = omega (arith, expr_shrinks a)
initialiser_shrinks (g.field a) = omega (arith, expr_shrinks a)
initialiser_shrinks (g.super_call a) = omega (arith, are_arguments_shrink a)
initialiser_shrinks (g.named_super_call a) = omega (arith, are_arguments_shrink a)

pub are_initialisers_shrink : {ts : Tokens} {xs : List Initialiser} {rest : Tokens} → AreInitialisers ts xs rest → length rest < length ts
are_initialisers_shrink (g.last_initialiser a) = omega (arith, initialiser_shrinks a)
are_initialisers_shrink (g.more_initialisers a b) = omega (arith, initialiser_shrinks a, are_initialisers_shrink b)

pub may_initialise_shrinks : {ts : Tokens} {xs : List Initialiser} {rest : Tokens} → MayInitialise ts xs rest → length rest ≤ length ts
may_initialise_shrinks (g.no_initialisers _) = omega arith
may_initialise_shrinks (g.initialisers a) = omega (arith, are_initialisers_shrink a)

pub constructor_names_shrink : {name : List ℕ} {ts : Tokens} {xs : List Name} {rest : Tokens} → AreConstructorNames name ts xs rest → length rest < length ts
constructor_names_shrink (g.unnamed _) = omega arith
constructor_names_shrink g.named = omega arith

pub constructor_shrinks : {native : Bool} {name : List ℕ} {from : ℕ} {ts : Tokens} {x : Constructor} {rest : Tokens} → IsConstructor native name from ts x rest → length rest < length ts
constructor_shrinks (g.constructor a b c _ d) = omega (arith, constructor_names_shrink a, parameters_shrinks b, may_initialise_shrinks c, body_shrinks d)

pub plain_member_shrinks : {native is_static : Bool} {from : ℕ} {ts : Tokens} {x : Member} {rest : Tokens} → IsPlainMember native is_static from ts x rest → length rest < length ts
plain_member_shrinks (g.method _ a) = omega (arith, function_shrinks a)
plain_member_shrinks (g.getter_member _ a) = omega (arith, getter_shrinks a)
plain_member_shrinks (g.setter_member _ a) = omega (arith, setter_shrinks a)
plain_member_shrinks (g.fields _ a) = omega (arith, are_variables_shrink a)

pub member_shrinks : {native : Bool} {name : List ℕ} {ts : Tokens} {x : Member} {rest : Tokens} → IsMember native name ts x rest → length rest < length ts
member_shrinks (g.static a _ b) = omega (arith, metadata_shrinks a, plain_member_shrinks b)
member_shrinks (g.constructor_member a _ _ b) = omega (arith, metadata_shrinks a, constructor_shrinks b)
member_shrinks (g.operator_member a _ _ _ b) = omega (arith, metadata_shrinks a, operator_shrinks b)
member_shrinks (g.plain_member a _ _ b) = omega (arith, metadata_shrinks a, plain_member_shrinks b)

pub are_members_shrink : {native : Bool} {name : List ℕ} {ts : Tokens} {xs : List Member} {rest : Tokens} → AreMembers native name ts xs rest → length rest ≤ length ts
are_members_shrink g.no_members = omega arith
are_members_shrink (g.members a b) = omega (arith, member_shrinks a, are_members_shrink b)

-- ---- declarations and imports

pub declaration_shrinks : {native : Bool} {ts : Tokens} {x : Declaration} {rest : Tokens} → IsDeclaration native ts x rest → length rest < length ts
declaration_shrinks (g.class a b _ c d e) = omega (arith, metadata_shrinks a, class_head_shrinks b, may_extend_shrinks c, may_implement_shrinks d, are_members_shrink e)
declaration_shrinks (g.alias a b c d e) = omega (arith, metadata_shrinks a, class_head_shrinks b, type_shrinks c, are_supertypes_shrink d, may_implement_shrinks e)
declaration_shrinks (g.function_declaration a _ _ b) = omega (arith, metadata_shrinks a, function_shrinks b)
declaration_shrinks (g.getter_declaration a _ _ b) = omega (arith, metadata_shrinks a, getter_shrinks b)
declaration_shrinks (g.setter_declaration a _ _ b) = omega (arith, metadata_shrinks a, setter_shrinks b)
declaration_shrinks (g.variables_declaration a _ _ b) = omega (arith, metadata_shrinks a, are_variables_shrink b)

pub may_have_prefix_shrinks : {ts : Tokens} {b : Bool} {x : Option Name} {rest : Tokens} → MayHavePrefix ts b x rest → length rest ≤ length ts
may_have_prefix_shrinks (g.no_prefix _ _) = omega arith
may_have_prefix_shrinks g.prefix = omega arith
may_have_prefix_shrinks g.deferred = omega arith

pub are_shown_shrink : {ts : Tokens} {xs : List Name} {rest : Tokens} → AreShown ts xs rest → length rest < length ts
are_shown_shrink g.last_shown = omega arith
are_shown_shrink (g.more_shown a) = omega (arith, are_shown_shrink a)

pub are_combinators_shrink : {ts : Tokens} {xs : List Combinator} {rest : Tokens} → AreCombinators ts xs rest → length rest ≤ length ts
are_combinators_shrink g.no_combinators = omega arith
are_combinators_shrink (g.shows a b) = omega (arith, are_shown_shrink a, are_combinators_shrink b)
are_combinators_shrink (g.hides a b) = omega (arith, are_shown_shrink a, are_combinators_shrink b)

pub import_shrinks : {ts : Tokens} {x : Import} {rest : Tokens} → IsImport ts x rest → length rest < length ts
import_shrinks (g.import' a b c) = omega (arith, metadata_shrinks a, may_have_prefix_shrinks b, are_combinators_shrink c)

pub are_imports_shrink : {ts : Tokens} {xs : List Import} {rest : Tokens} → AreImports ts xs rest → length rest ≤ length ts
are_imports_shrink (g.no_imports _) = omega arith
are_imports_shrink (g.imports _ a b) = omega (arith, import_shrinks a, are_imports_shrink b)

pub library_name_shrinks : {ts rest : Tokens} → IsLibraryName ts rest → length rest < length ts
library_name_shrinks g.last_part = omega arith
library_name_shrinks (g.more_parts a) = omega (arith, library_name_shrinks a)

pub may_be_named_shrinks : {ts rest : Tokens} → MayBeNamed ts rest → length rest ≤ length ts
may_be_named_shrinks (g.no_library _) = omega arith
may_be_named_shrinks (g.library _ a) = omega (arith, library_name_shrinks a)
