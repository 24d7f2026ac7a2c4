-- Each rule at small places, computed.
use Rattle.std.proofs.Common.{◌≡◌, refl}
use Rattle.std.specs.Prelude.{ℕ, ◌+◌, false, true, List, [], ◌∷◌, Some, None, codes}
use Rattle.std.specs.List.{flat_map}
use Rattle.dart_grammar.specs.declared.trees.Name.{Name}
use Rattle.dart_grammar.specs.declared.trees.Span.{Span}
use Rattle.dart_grammar.specs.declared.trees.Body.TheVariants as b
use Rattle.dart_grammar.specs.declared.trees.Body.TheOpen.{Body-F, Expr-F, Head-F, Stmt-F, Variable-F}
use Rattle.dart_grammar.specs.declared.trees.Parameter.{Parameter}
use Rattle.dart_grammar.specs.declared.declarations.Class.{Class}
use Rattle.dart_grammar.specs.declared.declarations.Function.{Function}
use Rattle.dart_grammar.specs.declared.declarations.OperatorName.{OperatorName}
use Rattle.dart_grammar.specs.declared.declarations.OperatorName.TheVariants as o
use Rattle.dart_grammar.specs.declared.declarations.OperatorMethod.{OperatorMethod}
use Rattle.dart_grammar.specs.declared.declarations.Constructor.{Constructor}
use Rattle.dart_grammar.specs.declared.declarations.Initialiser.{Initialiser}
use Rattle.dart_grammar.specs.declared.declarations.Initialiser.TheVariants as i
use Rattle.dart_grammar.specs.Trees.{span, name_of}
use Rattle.dart_syntax.specs.declared.rules.Rule.TheVariants.{B2, B3}
use Rattle.dart_sites.specs.declared.scopes.Local.{Local}
use Rattle.dart_sites.specs.declared.scopes.LocalKind.{LocalKind}
use Rattle.dart_sites.specs.declared.scopes.LocalKind.TheVariants as l
use Rattle.dart_sites.specs.declared.scopes.ScopeKind.TheVariants as k
use Rattle.dart_sites.specs.declared.sites.Site.TheVariants as x
use Rattle.dart_sites.specs.declared.sites.Use.TheVariants as u
use Rattle.dart_sites.specs.declared.surroundings.Surroundings.{Surroundings}
use Rattle.dart_sites.specs.declared.surroundings.Within.TheVariants as w
use Rattle.dart_sites.specs.Surroundings.{in_library, in_class, in_scope, in_loop, in_catch, in_function}
use Rattle.dart_sites.specs.Scopes.{found}
use Rattle.dart_sites.specs.Expressions.{ExprSites, HeadSites, SelectorSites}
use Rattle.dart_sites.specs.Statements.{StmtSites}
use Rattle.dart_sites.specs.Functions.{ParametersSites, member_sites}
use Rattle.dart_sites.specs.Trees.{body_form, expr_form, head_form, stmt_form, variable_form, chain_form, parameters_form, variables_form}
use Rattle.library_scopes.specs.Rules.{refusal}
use Rattle.body_rules.specs.Blocks.{doubled_at, early_at}
use Rattle.body_rules.specs.Jumps.{break_at, continue_at, this_at, super_at, return_at, rethrow_at}
use Rattle.body_rules.specs.Constructors.{super_call_at}
use Rattle.body_rules.specs.Declarations.{declared_at}
use Rattle.body_rules.specs.Lists.{listed_at}
use Rattle.body_rules.specs.Rules.{faults_at}

abbrev pub at : ℕ → Span
at n = span n (n + 1)

abbrev pub called : List ℕ → ℕ → Name
called text n = name_of text (at n)

-- ---- scopes

abbrev pub local : LocalKind → ℕ → ℕ → Local
local kind n ends = record { name = called (codes "a") n; ends = ends; kind = kind; is_final = false }

-- `{ var a = 9; var a; }`
abbrev pub two : Surroundings
two = in_scope k.Block (local l.Variable 6 11 ∷ local l.Variable 17 18 ∷ []) in_library

second_doubled : (doubled_at two (x.Local (called (codes "a") 6)) ≡ None) × (doubled_at two (x.Local (called (codes "a") 17)) ≡ Some 17)
second_doubled = (refl, refl)

-- `f(a) { var a; }` declares nothing twice.
abbrev pub in_parameters : Surroundings
in_parameters = in_scope k.Block (local l.Variable 11 12 ∷ []) (in_scope k.Parameters (local l.Parameter 2 3 ∷ []) in_library)

apart : doubled_at in_parameters (x.Local (called (codes "a") 11)) ≡ None
apart = refl

-- in its own value, and behind it
early : (early_at two (x.Named (called (codes "a") 10) u.Read) ≡ Some 10) × (early_at two (x.Named (called (codes "a") 11) u.Read) ≡ None)
    × (early_at two (x.Made (at 1) (called (codes "a") 5 ∷ []) 0) ≡ Some 5) × (early_at two (x.Named (called (codes "b") 5) u.Read) ≡ None)
unfolding found
early = (refl, refl, refl, refl)

-- `{ is dynamic; var dynamic; }`
no_name : early_at (in_scope k.Block (record { name = called (codes "dynamic") 15; ends = 22; kind = l.Variable; is_final = false } ∷ []) in_library) (x.TypeTested (called (codes "dynamic") 5 ∷ [])) ≡ None
no_name = refl

-- `{ a() { a; } }`: the declaration of a local function ends with its name.
names_itself : early_at (in_function [] (in_scope k.Block (local l.Function 2 3 ∷ []) in_library)) (x.Named (called (codes "a") 8) u.Read) ≡ None
unfolding found
names_itself = refl

-- ---- jumps

loops : (break_at in_library (x.Break (at 5)) ≡ Some 5) × (break_at (in_loop in_library) (x.Break (at 5)) ≡ None) × (continue_at (in_function [] (in_loop in_library)) (x.Continue (at 5)) ≡ Some 5)
loops = (refl, refl, refl)

clauses : (rethrow_at (in_catch in_library) (x.Rethrow (at 5)) ≡ None) × (rethrow_at (in_function [] (in_catch in_library)) (x.Rethrow (at 5)) ≡ Some 5)
clauses = (refl, refl)

-- ---- `class C { C() : super(), super(); C.n(); }`

abbrev pub supers : List Initialiser
supers = i.Super (at 40) None (record { span = at 45; items = [] }) ∷ i.Super (at 50) None (record { span = at 55; items = [] }) ∷ []

abbrev pub twice_super : Constructor
twice_super = record { span = at 30; names = called (codes "C") 30 ∷ []; parameters = record { span = at 31; required = []; optional = [] }; initialisers = supers; body = b.Abstract }

abbrev pub no_super : Constructor
no_super = record { span = at 60; names = called (codes "C") 60 ∷ called (codes "n") 62 ∷ []; parameters = record { span = at 63; required = []; optional = [] }; initialisers = []; body = b.Abstract }

abbrev pub class_c : Class
class_c = record { span = at 0; is_abstract = false; name = called (codes "C") 20; type_parameters = []; superclass = None; mixins = []; interfaces = []; members = [] }

abbrev pub in_body : Surroundings
in_body = in_class class_c (w.ConstructorBody no_super)

abbrev pub in_head : Surroundings
in_head = in_class class_c (w.ConstructorHead twice_super)

abbrev pub in_object : Surroundings
in_object = in_class class_c w.Instance

objects : (this_at in_body (x.This (at 5)) ≡ None) × (this_at in_head (x.This (at 5)) ≡ Some 5) × (super_at (in_class class_c w.Static) (x.Super (at 5)) ≡ Some 5)
    × (super_at (in_function [] in_object) (x.Super (at 5)) ≡ None)
objects = (refl, refl, refl, refl)

returns : (return_at in_body (x.ReturnValue (at 5)) ≡ Some 5) × (return_at (in_function [] in_body) (x.ReturnValue (at 5)) ≡ None) × (return_at in_body (x.Return (at 5)) ≡ None)
returns = (refl, refl, refl)

-- both of two super calls
super_calls : (super_call_at in_head (x.SuperInitialiser (at 40) None 0 false) ≡ Some 40) × (super_call_at in_head (x.SuperInitialiser (at 50) None 0 true) ≡ Some 50)
    × (super_call_at (in_class class_c (w.ConstructorHead no_super)) (x.SuperInitialiser (at 50) None 0 true) ≡ None)
super_calls = (refl, refl, refl)

-- ---- operators, and names that no class declares

abbrev pub plain : ℕ → Parameter
plain n = record { span = at n; is_final = false; this = None; name = called (codes "a") n }

abbrev pub operator_of : OperatorName → List Parameter → OperatorMethod
operator_of operator parameters = record { span = at 0; operator = operator; sign = at 5; parameters = record { span = at 6; required = parameters; optional = [] }; body = b.Abstract }

abbrev pub method_of : List ℕ → Function
method_of text = record { span = at 0; name = called text 5; parameters = record { span = at 6; required = []; optional = [] }; body = b.Abstract }

operators : (declared_at in_object (x.Operator (operator_of o.Plus [])) ≡ Some 5) × (declared_at in_object (x.Operator (operator_of o.Minus [])) ≡ None)
    × (declared_at in_object (x.Operator (operator_of o.SetIndex (plain 7 ∷ []))) ≡ Some 5) × (declared_at in_object (x.Operator (operator_of o.Index (plain 7 ∷ []))) ≡ None)
operators = (refl, refl, refl, refl)

kept : (declared_at in_object (x.Function (method_of (codes "call"))) ≡ Some 5) × (declared_at in_library (x.Function (method_of (codes "call"))) ≡ None)
    × (declared_at (in_class class_c w.Static) (x.Variable false (called (codes "hashCode") 5)) ≡ Some 5)
kept = (refl, refl, refl)

-- ---- lists

lists : (listed_at (x.ParameterList (at 5) 255) ≡ None) × (listed_at (x.ArgumentList (at 5) 256) ≡ Some 5) × (listed_at (x.Default (at 5) false) ≡ Some 5)
lists = (refl, refl, refl)

-- ---- a body from forms: `f() { while (z) { break; () { break; }; } { b; var b; } }`

abbrev pub chained : HeadSites → List SelectorSites → ExprSites
chained head selectors = expr_form (Expr-F.Chained (chain_form (record { span = at 0; head = head; selectors = selectors })))

abbrev pub evaluated : ExprSites → StmtSites
evaluated a = stmt_form (Stmt-F.Evaluate (at 0) a)

abbrev pub no_parameters : ℕ → ParametersSites
no_parameters n = parameters_form (record { span = at n; required = []; optional = [] })

abbrev pub breaking_literal : ExprSites
breaking_literal = chained (head_form (Head-F.Literal (at 25) (no_parameters 25) (body_form (Body-F.Block (stmt_form (Stmt-F.Break (at 30)) ∷ []))))) []

abbrev pub looping : StmtSites
looping = stmt_form (Stmt-F.While (at 6) (chained (head_form (Head-F.Named (called (codes "z") 13))) []) (stmt_form (Stmt-F.Nested (at 16) (stmt_form (Stmt-F.Break (at 18)) ∷ evaluated breaking_literal ∷ []))))

abbrev pub naming_early : StmtSites
naming_early = stmt_form (Stmt-F.Nested (at 40) (evaluated (chained (head_form (Head-F.Named (called (codes "b") 42))) []) ∷ stmt_form (Stmt-F.Declare (at 45) (variables_form (record { is_final = false; items = variable_form (Variable-F.Unset (called (codes "b") 49)) ∷ [] }))) ∷ []))

body_faults : flat_map (λ y. faults_at 1 y.0 y.1) (member_sites (no_parameters 1) (body_form (Body-F.Block (looping ∷ naming_early ∷ []))) in_library) ≡ refusal B3 1 30 ∷ refusal B2 1 42 ∷ []
unfolding faults_at found
body_faults = refl
