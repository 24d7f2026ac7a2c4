-- What happens after `main`: callbacks that are ready run first in, first out; when none is, a load that was asked for
-- completes.
use Rattle.std.specs.Prelude.{ℕ, ◌+◌, ◌%◌, Bool, true, false, List, [], ◌∷◌, ◌++◌, Option, Some, None, length, remove, slice_get, nat_eq}
use Rattle.std.specs.Option.{unwrap_or}
use Rattle.std.specs.Map.{lookup}
use Rattle.indexmap.specs.IndexMap.{insert_entry}
use Rattle.store_lists.specs.Order.{first_waiting, others_waiting, next_number, further_numbers}
use Rattle.dart_store.specs.declared.value.Value.{Value}
use Rattle.dart_store.specs.declared.store.Asked.{Asked}
use Rattle.dart_store.specs.declared.store.Store.{Store}

-- ---- callbacks

-- one more is ready; all that were ever made ready are counted
abbrev pub make_ready : Store → Value → Store
make_ready store callback = record store { ready = store.ready ++ callback ∷ []; readied = store.readied + 1 }

abbrev pub next_ready : Store → Option Value
next_ready store = first_waiting store.ready

abbrev pub take_ready : Store → Store
take_ready store = record store { ready = others_waiting store.ready }

-- ---- loads

-- a load through an import is asked for, whose future is to complete
abbrev pub ask : Store → Asked → Store
ask store load = record store { asked = store.asked ++ load ∷ [] }

-- Which one completes: the next number of the order, modulo the count of those that are asked for, tells, counted from 0
-- in order of asking. Once the order has ended it is the first.
abbrev pub turn : Store → ℕ
turn store = next_number store.order % length store.asked

abbrev pub next_load : Store → Option Asked
next_load store = slice_get store.asked (turn store)

abbrev pub is_loaded : Store → ℕ → Bool
is_loaded store import = unwrap_or (lookup (nat_eq import) store.loaded) false

-- the imports through which a load has completed, with that of one more
abbrev pub marked : List (ℕ × Bool) → Option Asked → List (ℕ × Bool)
marked loaded None = loaded
marked loaded (Some load) = insert_entry nat_eq loaded load.import true

-- Where a load is asked for, the one that completes is asked for no longer, its number is taken, and its import is loaded.
abbrev pub completed : Store → List Asked → Store
completed store [] = store
completed store (load ∷ asked) = record store {
  asked = remove store.asked (turn store);
  order = further_numbers store.order;
  loaded = marked store.loaded (next_load store);
}

abbrev pub complete : Store → Store
complete store = completed store store.asked
