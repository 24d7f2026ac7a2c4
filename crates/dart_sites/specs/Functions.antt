-- What stands in parameter lists, and around the bodies of functions.
use Rattle.std.specs.Prelude.{ℕ, Bool, ◌+◌, List, [], ◌∷◌, ◌++◌, length, Option, Some, None}
use Rattle.std.specs.List.{flat_map}
use Rattle.dart_grammar.specs.declared.trees.Span.{Span}
use Rattle.dart_grammar.specs.declared.trees.Name.{Name}
use Rattle.dart_grammar.specs.declared.trees.Parameter.{Parameter}
use Rattle.dart_sites.specs.declared.scopes.Local.{Local}
use Rattle.dart_sites.specs.declared.scopes.LocalKind.TheVariants as l
use Rattle.dart_sites.specs.declared.scopes.ScopeKind.TheVariants as k
use Rattle.dart_sites.specs.declared.surroundings.Surroundings.{Surroundings}
use Rattle.dart_sites.specs.declared.sites.Site.TheVariants as x
use Rattle.dart_sites.specs.Surroundings.{in_scope, in_function}
use Rattle.dart_sites.specs.Sites.{Sites, here, ◌▸◌, each}

-- A parameter list, by what is around the function; then by what is in it.
pub record ParametersSites : Type 0 where
  pub count : ℕ
  pub locals : List Local
  pub sites : Surroundings → Sites

pub record OptionalSites : Type 0 where
  pub parameter : Parameter
  pub sites : Surroundings → Sites

abbrev pub parameter_local : Option Span → Name → Bool → List Local
parameter_local None y is_final = record { name = y; ends = y.span.to; kind = l.Parameter; is_final = is_final } ∷ []
parameter_local (Some at) y is_final = []

-- `this.name` is no name of the scope.
abbrev pub parameter_locals : Parameter → List Local
parameter_locals p = parameter_local p.this p.name p.is_final

abbrev pub named_parameter : Option Span → Name → Sites
named_parameter None y = here (x.Local y)
named_parameter (Some at) y = here (x.FieldParameter at y)

abbrev pub parameter_sites : Parameter → Sites
parameter_sites p = named_parameter p.this p.name

abbrev pub list_locals : List Parameter → List OptionalSites → List Local
list_locals required optional = flat_map parameter_locals required ++ flat_map (λ y. parameter_locals y.parameter) optional

-- Names of parameters stand in the function's own scope, and defaults outside.
abbrev pub list_sites : Span → List Parameter → List OptionalSites → Surroundings → Sites
list_sites at required optional outside =
    here (x.ParameterList at (length required + length optional)) ▸ each parameter_sites required ▸ each (λ y. y.sites outside) optional

-- the parameters and the body of a member
abbrev pub member_sites : ParametersSites → Sites → Sites
member_sites ps body s = (ps.sites s ▸ body) (in_scope k.Parameters ps.locals s)

-- those of a function literal or a local function
abbrev pub function_sites : ParametersSites → Sites → Sites
function_sites ps body s = (ps.sites s ▸ body) (in_function ps.locals s)
