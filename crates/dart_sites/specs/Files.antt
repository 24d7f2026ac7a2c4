-- What stands in a file.
use Rattle.std.specs.Prelude.{Bool, true, false, if◌then◌else◌, List, [], ◌∷◌, ◌++◌}
use Rattle.std.specs.List.{flat_map}
use Rattle.dart_grammar.specs.declared.trees.Name.{Name}
use Rattle.dart_grammar.specs.declared.declarations.FileTree.{FileTree}
use Rattle.dart_grammar.specs.declared.declarations.Declaration.{Declaration}
use Rattle.dart_grammar.specs.declared.declarations.Declaration.TheVariants as d
use Rattle.dart_grammar.specs.declared.declarations.Class.{Class}
use Rattle.dart_grammar.specs.declared.declarations.Alias.{Alias}
use Rattle.dart_grammar.specs.declared.declarations.Function.{Function}
use Rattle.dart_grammar.specs.declared.declarations.Getter.{Getter}
use Rattle.dart_grammar.specs.declared.declarations.Setter.{Setter}
use Rattle.dart_grammar.specs.declared.declarations.Member.{Member}
use Rattle.dart_grammar.specs.declared.declarations.Member.TheVariants as m
use Rattle.dart_grammar.specs.declared.declarations.OperatorMethod.{OperatorMethod}
use Rattle.dart_grammar.specs.declared.declarations.Constructor.{Constructor}
use Rattle.dart_grammar.specs.declared.declarations.Initialiser.{Initialiser}
use Rattle.dart_grammar.specs.declared.declarations.Initialiser.TheVariants as i
use Rattle.dart_sites.specs.declared.scopes.ScopeKind.TheVariants as k
use Rattle.dart_sites.specs.declared.surroundings.Surroundings.{Surroundings}
use Rattle.dart_sites.specs.declared.surroundings.Within.{Within}
use Rattle.dart_sites.specs.declared.surroundings.Within.TheVariants as w
use Rattle.dart_sites.specs.declared.sites.Site.{Site}
use Rattle.dart_sites.specs.declared.sites.Site.TheVariants as x
use Rattle.dart_sites.specs.declared.sites.SupertypeKind.{SupertypeKind}
use Rattle.dart_sites.specs.declared.sites.SupertypeKind.TheVariants as t
use Rattle.dart_sites.specs.Surroundings.{in_library, in_class, in_alias, in_scope}
use Rattle.dart_sites.specs.Sites.{Sites, none, here, ◌▸◌, each, if_any}
use Rattle.dart_sites.specs.Functions.{parameter_locals, parameter_sites, member_sites}
use Rattle.dart_sites.specs.Statements.{member_variables}
use Rattle.dart_sites.specs.Trees.{expr_in, arguments_in, body_in, parameters_in, variables_in}

-- ---- functions and accessors

abbrev pub function_in : Function → Sites
function_in f = here (x.Function f) ▸ member_sites (parameters_in f.parameters) (body_in f.body)

abbrev pub getter_in : Getter → Sites
getter_in g = here (x.Getter g) ▸ body_in g.body

abbrev pub setter_in : Setter → Sites
setter_in f = here (x.Setter f) ▸ λ s. (parameter_sites f.parameter ▸ body_in f.body) (in_scope k.Parameters (parameter_locals f.parameter) s)

abbrev pub operator_in : OperatorMethod → Sites
operator_in f = here (x.Operator f) ▸ member_sites (parameters_in f.parameters) (body_in f.body)

-- ---- constructors

-- whether nothing stands behind it
abbrev pub initialiser_in : Bool → Initialiser → Sites
initialiser_in is_last (i.Field at y a) = here (x.FieldInitialiser at y) ▸ (expr_in a).sites
initialiser_in is_last (i.Super at y args) = here (x.SuperInitialiser at y (arguments_in args).count is_last) ▸ (arguments_in args).sites

abbrev pub is_end : List Initialiser → Bool
is_end [] = true
is_end (y ∷ ys) = false

abbrev pub initialisers_in : List Initialiser → Sites
initialisers_in [] = none
initialisers_in (y ∷ ys) = initialiser_in (is_end ys) y ▸ initialisers_in ys

-- Parameters are in scope of the initialisers and of the body. The body alone has `this`.
abbrev pub constructor_in : Class → Constructor → List (Surroundings × Site)
constructor_in c f =
    let ps = parameters_in f.parameters in
    let head = in_class c (w.ConstructorHead f) in
    let inside = in_scope k.Parameters ps.locals in
    here (x.Constructor f) head ++ (ps.sites head (inside head) ++ (initialisers_in f.initialisers (inside head) ++ body_in f.body (inside (in_class c (w.ConstructorBody f)))))

-- ---- classes

abbrev pub static_or : Within → Bool → Within
static_or part is_static = if is_static then w.Static else part

abbrev pub member_in : Class → Member → List (Surroundings × Site)
member_in c (m.Function is_static f) = function_in f (in_class c (static_or w.Instance is_static))
member_in c (m.Getter is_static f) = getter_in f (in_class c (static_or w.Instance is_static))
member_in c (m.Setter is_static f) = setter_in f (in_class c (static_or w.Instance is_static))
member_in c (m.Fields is_static at vs) = member_variables (variables_in vs) (in_class c (static_or w.FieldValue is_static))
member_in c (m.Operator f) = operator_in f (in_class c w.Instance)
member_in c (m.Constructor f) = constructor_in c f

abbrev pub supertype : SupertypeKind → List Name → Sites
supertype kind names = here (x.Supertype kind names)

abbrev pub class_header : Class → Sites
class_header c = if_any (supertype t.Superclass) c.superclass ▸ each (supertype t.Mixin) c.mixins ▸ each (supertype t.Interface) c.interfaces

abbrev pub alias_header : Alias → Sites
alias_header a = supertype t.Superclass a.superclass ▸ each (supertype t.Mixin) a.mixins ▸ each (supertype t.Interface) a.interfaces

abbrev pub class_in : Class → List (Surroundings × Site)
class_in c = here (x.Class c) in_library ++ (class_header c (in_class c w.Header) ++ flat_map (member_in c) c.members)

abbrev pub alias_in : Alias → List (Surroundings × Site)
alias_in a = here (x.Alias a) in_library ++ alias_header a (in_alias a)

-- ---- files

abbrev pub declaration_in : Declaration → List (Surroundings × Site)
declaration_in (d.Class c) = class_in c
declaration_in (d.Alias a) = alias_in a
declaration_in (d.Function f) = function_in f in_library
declaration_in (d.Getter f) = getter_in f in_library
declaration_in (d.Setter f) = setter_in f in_library
declaration_in (d.Variables at vs) = member_variables (variables_in vs) in_library

-- all sites of a file with what is around each, in the order in which they stand
unfoldable pub sites_of_file : FileTree → List (Surroundings × Site)
sites_of_file file = flat_map declaration_in file.declarations
