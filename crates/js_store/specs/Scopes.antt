-- Names. A scope has the names that a block, a call or a catch declares; the top scope has those of all files. A name has
-- no value until its `let` has run, and hides outer ones of that name all the same.
use Rattle.std.specs.Prelude.{ℕ, Bool, List, [], ◌∷◌, ◌++◌, Option, Some, None, codes, length, slice_set, if◌then◌else◌}
use Rattle.std.specs.Option.{is_some}
use Rattle.std.specs.Map.{lookup}
use Rattle.indexmap.specs.IndexMap.{insert_entry}
use Rattle.js_store.specs.Names.{Name, same_name}
use Rattle.js_store.specs.Closure.{Env}
use Rattle.store_lists.specs.Lists.{list_at}
use Rattle.js_store.specs.declared.value.Value.{Value}
use Rattle.js_store.specs.declared.value.Value.TheVariants.{Host}
use Rattle.js_store.specs.declared.store.Store.{Store}

-- names with what they have: nothing, as long as their `let` has not run
abbrev pub Scope : Type 0
Scope = List (Name × Option Value)

abbrev pub bind : Scope → Name → Option Value → Scope
bind scope name bound = insert_entry same_name scope name bound

abbrev pub scope_at : Store → ℕ → Scope
scope_at store a = list_at store.scopes a

-- ---- a block is entered

-- A block that declares no name needs no scope of its own.
abbrev pub enter : Store → Scope → Store
enter store [] = store
enter store (b ∷ scope) = record store { scopes = store.scopes ++ (b ∷ scope) ∷ [] }

-- the scopes around what then runs
abbrev pub inside : Store → Env → Scope → Env
inside store env [] = env
inside store env (b ∷ scope) = length store.scopes ∷ env

-- ---- names are read and assigned

-- The host gives one name, which files may declare.
abbrev pub given_by_host : Name → Option Value
given_by_host name = if same_name name (codes "host$") then Some Host else None

-- A scope that declares the name decides, whether its `let` has run or not.
abbrev pub decided_by : Option (Option Value) → Option Value → Option Value
decided_by None outer = outer
decided_by (Some bound) outer = bound

-- the value of a name, looked for outwards; nothing where the name is absent (9.1.2.1, 9.1.1.1.6)
abbrev pub look_up : Store → Env → Name → Option Value
look_up store [] name = decided_by (lookup (same_name name) store.top) (given_by_host name)
look_up store (a ∷ env) name = decided_by (lookup (same_name name) (scope_at store a)) (look_up store env name)

abbrev pub set_top : Store → Name → Option Value → Store
set_top store name bound = record store { top = bind store.top name bound }

abbrev pub set_in : Store → ℕ → Name → Option Value → Store
set_in store a name bound = record store { scopes = slice_set store.scopes a (bind (scope_at store a) name bound) }

-- by the scope that decides: an outer one, no one, or this one
abbrev pub chosen_by : {A : Type 0} → Option (Option Value) → (outer here : Option A) → Option A
chosen_by None outer here = outer
chosen_by (Some None) outer here = None
chosen_by (Some (Some value)) outer here = here

-- a name gets another value; nothing where the name is absent (9.1.1.1.5)
abbrev pub assign : Store → Env → Name → Value → Option Store
assign store [] name value = chosen_by (lookup (same_name name) store.top) None (Some (set_top store name (Some value)))
assign store (a ∷ env) name value = chosen_by (lookup (same_name name) (scope_at store a)) (assign store env name value) (Some (set_in store a name (Some value)))

-- a `let` gives its name, which the innermost scope has, its value; and so does a `var`, at the top (14.3.1.2)
abbrev pub initialise : Store → Env → Name → Value → Store
initialise store [] name value = set_top store name (Some value)
initialise store (a ∷ env) name value = set_in store a name (Some value)

-- a file that ran declared this name at its top
abbrev pub is_declared : Store → Name → Bool
is_declared store name = is_some (lookup (same_name name) store.top)
