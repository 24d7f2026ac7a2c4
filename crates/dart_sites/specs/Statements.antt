-- What stands in statements, by what stands in their parts.
use Rattle.std.specs.Prelude.{ℕ, Bool, false, List, [], ◌∷◌, ◌++◌, map, Option, Some, None}
use Rattle.std.specs.List.{flat_map}
use Rattle.dart_grammar.specs.declared.trees.Name.{Name}
use Rattle.dart_sites.specs.declared.scopes.Local.{Local}
use Rattle.dart_sites.specs.declared.scopes.LocalKind.{LocalKind}
use Rattle.dart_sites.specs.declared.scopes.LocalKind.TheVariants as l
use Rattle.dart_sites.specs.declared.scopes.ScopeKind.TheVariants as k
use Rattle.dart_sites.specs.declared.sites.Site.TheVariants as x
use Rattle.dart_sites.specs.Surroundings.{in_scope, in_loop, in_catch}
use Rattle.dart_sites.specs.Sites.{Sites, none, here, ◌▸◌, each}

-- A statement, and what it declares in the scope that it stands in.
pub record StmtSites : Type 0 where
  pub locals : List Local
  pub sites : Sites

-- A variable with its value; where its declaration ends.
pub record VariableSites : Type 0 where
  pub name : Name
  pub ends : ℕ
  pub value : Sites

pub record VariablesSites : Type 0 where
  pub is_final : Bool
  pub items : List VariableSites

-- ---- what is declared

abbrev pub variable_local : LocalKind → Bool → VariableSites → Local
variable_local kind is_final v = record { name = v.name; ends = v.ends; kind = kind; is_final = is_final }

abbrev pub variable_locals : LocalKind → VariablesSites → List Local
variable_locals kind vs = map (variable_local kind vs.is_final) vs.items

abbrev pub name_local : LocalKind → Bool → Name → Local
name_local kind is_final y = record { name = y; ends = y.span.to; kind = kind; is_final = is_final }

-- variables of a scope
abbrev pub local_variables : VariablesSites → Sites
local_variables vs = each (λ v. here (x.Local v.name) ▸ v.value) vs.items

-- variables of a library or a class
abbrev pub member_variables : VariablesSites → Sites
member_variables vs = each (λ v. here (x.Variable vs.is_final v.name) ▸ v.value) vs.items

-- ---- blocks

abbrev pub block : List StmtSites → Sites
block xs s = each (λ y. y.sites) xs (in_scope k.Block (flat_map (λ y. y.locals) xs) s)

-- a statement in the place of a block
abbrev pub alone : StmtSites → Sites
alone y s = y.sites (in_scope k.Block y.locals s)

abbrev pub turn : StmtSites → Sites
turn y s = alone y (in_loop s)

-- ---- loops and clauses

-- `for` with variables, which are in scope from the first one on
abbrev pub for_sites : VariablesSites → Sites → StmtSites → Sites
for_sites vs rest body s = (local_variables vs ▸ rest ▸ turn body) (in_scope k.For (variable_locals l.ForVariable vs) s)

-- `for (var name in values)`; the values are outside of the scope.
abbrev pub for_in_sites : Bool → Name → Sites → StmtSites → Sites
for_in_sites is_final y values body s =
    let inside = in_scope k.For (name_local l.ForVariable is_final y ∷ []) s in
    here (x.Local y) inside ++ (values s ++ turn body inside)

abbrev pub caught_locals : Option Name → List Local
caught_locals None = []
caught_locals (Some y) = name_local l.Caught false y ∷ []

abbrev pub caught_name : Option Name → Sites
caught_name None = none
caught_name (Some y) = here (x.Local y)

abbrev pub clause : Option Name → List StmtSites → Sites
clause y body s = (caught_name y ▸ block body) (in_catch (in_scope k.Catch (caught_locals y) s))
