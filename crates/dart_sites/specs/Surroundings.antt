-- How surroundings change on the way in.
use Rattle.std.specs.Prelude.{Bool, true, false, List, [], ◌∷◌, ◌++◌, Some, None}
use Rattle.dart_grammar.specs.declared.declarations.Class.{Class}
use Rattle.dart_grammar.specs.declared.declarations.Alias.{Alias}
use Rattle.dart_sites.specs.declared.scopes.Local.{Local}
use Rattle.dart_sites.specs.declared.scopes.ScopeKind.{ScopeKind}
use Rattle.dart_sites.specs.declared.scopes.ScopeKind.TheVariants as k
use Rattle.dart_sites.specs.declared.surroundings.Owner.TheVariants as o
use Rattle.dart_sites.specs.declared.surroundings.Within.{Within}
use Rattle.dart_sites.specs.declared.surroundings.Within.TheVariants as w
use Rattle.dart_sites.specs.declared.surroundings.Surroundings.{Surroundings}

-- what a library declares
abbrev pub in_library : Surroundings
in_library = record { class = None; within = w.Library; in_function = false; in_loop = false; in_catch = false; scopes = [] }

-- that part of a class
abbrev pub in_class : Class → Within → Surroundings
in_class c part = record { class = Some (o.Class c); within = part; in_function = false; in_loop = false; in_catch = false; scopes = [] }

abbrev pub in_alias : Alias → Surroundings
in_alias a = record { class = Some (o.Alias a); within = w.Header; in_function = false; in_loop = false; in_catch = false; scopes = [] }

-- one more scope
abbrev pub in_scope : ScopeKind → List Local → Surroundings → Surroundings
in_scope kind locals s = record s { scopes = s.scopes ++ record { kind = kind; locals = locals } ∷ [] }

abbrev pub in_loop : Surroundings → Surroundings
in_loop s = record s { in_loop = true }

abbrev pub in_catch : Surroundings → Surroundings
in_catch s = record s { in_catch = true }

-- a function literal or a local function, which loops and clauses around it do not reach into
abbrev pub in_function : List Local → Surroundings → Surroundings
in_function locals s = in_scope k.Parameters locals (record s { in_function = true; in_loop = false; in_catch = false })

-- `this` stands in instance members and in the bodies of constructors.
abbrev pub is_of_object : Within → Bool
is_of_object w.Instance = true
is_of_object (w.ConstructorBody c) = true
is_of_object _ = false

abbrev pub has_this : Surroundings → Bool
has_this s = is_of_object s.within
