-- Variables: the cells of locals and parameters, and the static variables with their states.
use Rattle.std.specs.Prelude.{ℕ, List, [], ◌∷◌, ◌++◌, slice_get, slice_set, nat_eq}
use Rattle.std.specs.Option.{unwrap_or}
use Rattle.std.specs.Map.{lookup}
use Rattle.indexmap.specs.IndexMap.{insert_entry}
use Rattle.dart_store.specs.declared.value.Value.{Value}
use Rattle.dart_store.specs.declared.value.Value.TheVariants as v
use Rattle.dart_store.specs.declared.store.Static.{Static}
use Rattle.dart_store.specs.declared.store.Static.TheVariants as s
use Rattle.dart_store.specs.declared.store.Store.{Store}

-- ---- locals and parameters

-- a new cell, which is the last one
abbrev pub with_cell : Store → Value → Store
with_cell store value = record store { cells = store.cells ++ value ∷ [] }

abbrev pub read_cell : Store → ℕ → Value
read_cell store a = unwrap_or (slice_get store.cells a) v.Null

abbrev pub write_cell : Store → ℕ → Value → Store
write_cell store a value = record store { cells = slice_set store.cells a value }

-- ---- top-level and static variables, by their numbers as members

-- One that nothing was noted of isn't initialised.
abbrev pub state : Store → ℕ → Static
state store member = unwrap_or (lookup (nat_eq member) store.statics) s.Waits

abbrev pub note : Store → ℕ → Static → Store
note store member now = record store { statics = insert_entry nat_eq store.statics member now }

-- its initialiser begins to run
abbrev pub begin_static : Store → ℕ → Store
begin_static store member = note store member s.Runs

-- An assignment initialises it, and so does the end of its initialiser: with what that gave, or with null where it threw.
abbrev pub write_static : Store → ℕ → Value → Store
write_static store member value = note store member (s.Has value)
