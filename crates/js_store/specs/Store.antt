-- The store: objects, arrays, maps and functions, each kind in a list of its own, where its address is its place. Nothing
-- is ever taken out of these lists, so no address is used again. An address that leads to nothing is as one that leads to
-- something empty; no value has one.
use Rattle.std.specs.Prelude.{ℕ, ℤ, Bool, List, [], ◌∷◌, ◌++◌, Option, slice_get, slice_set}
use Rattle.std.specs.Option.{unwrap_or, is_some}
use Rattle.std.specs.Map.{lookup, remove_entry, keys_of}
use Rattle.indexmap.specs.IndexMap.{insert_entry}
use Rattle.store_lists.specs.Lists.{list_at, item_at, set_item, last_item, all_but_last}
use Rattle.store_lists.specs.Text.{Text, same_text}
use Rattle.js_store.specs.Values.{same}
use Rattle.js_store.specs.Closure.{Closure}
use Rattle.js_store.specs.declared.value.Value.{Value}
use Rattle.js_store.specs.declared.value.Value.TheVariants.{Undefined}
use Rattle.js_store.specs.declared.store.Store.{Store}

abbrev pub empty : Store
empty = record { objects = []; arrays = []; maps = []; functions = []; scopes = []; top = [] }

-- ---- objects

-- keys and their values, in the order in which the keys came
abbrev pub Properties : Type 0
Properties = List (Text × Value)

abbrev pub properties : Store → ℕ → Properties
properties store a = list_at store.objects a

abbrev pub with_object : Store → Properties → Store
with_object store made = record store { objects = store.objects ++ made ∷ [] }

-- an absent property gives undefined (10.1.8.1)
abbrev pub read_property : Store → ℕ → Text → Value
read_property store a key = unwrap_or (lookup (same_text key) (properties store a)) Undefined

-- a property is added behind the others, or keeps its place (10.1.9.2)
abbrev pub write_property : Store → ℕ → Text → Value → Store
write_property store a key value = record store { objects = slice_set store.objects a (insert_entry same_text (properties store a) key value) }

-- ---- arrays

abbrev pub elements : Store → ℕ → List Value
elements store a = list_at store.arrays a

abbrev pub with_array : Store → List Value → Store
with_array store made = record store { arrays = store.arrays ++ made ∷ [] }

-- an element at an index in range
abbrev pub read_element : Store → ℕ → ℤ → Option Value
read_element store a index = item_at (elements store a) index

abbrev pub write_element : Store → ℕ → ℤ → Value → Store
write_element store a index value = record store { arrays = slice_set store.arrays a (set_item (elements store a) index value) }

-- `push` (23.1.3.23)
abbrev pub push_element : Store → ℕ → Value → Store
push_element store a value = record store { arrays = slice_set store.arrays a (elements store a ++ value ∷ []) }

-- `pop` gives the last element, where there is one, and takes it off (23.1.3.22)
abbrev pub popped_element : Store → ℕ → Option Value
popped_element store a = last_item (elements store a)

abbrev pub pop_element : Store → ℕ → Store
pop_element store a = record store { arrays = slice_set store.arrays a (all_but_last (elements store a)) }

-- ---- maps

-- keys of every kind and their values, in the order in which the keys came
abbrev pub Entries : Type 0
Entries = List (Value × Value)

abbrev pub entries : Store → ℕ → Entries
entries store a = list_at store.maps a

abbrev pub with_map : Store → Store
with_map store = record store { maps = store.maps ++ [] ∷ [] }

-- an absent key gives undefined (24.1.3.6)
abbrev pub read_entry : Store → ℕ → Value → Value
read_entry store a key = unwrap_or (lookup (same key) (entries store a)) Undefined

abbrev pub has_entry : Store → ℕ → Value → Bool
has_entry store a key = is_some (lookup (same key) (entries store a))

-- a key that is there keeps its place, and a new one goes last (24.1.3.9)
abbrev pub write_entry : Store → ℕ → Value → Value → Store
write_entry store a key value = record store { maps = slice_set store.maps a (insert_entry same (entries store a) key value) }

-- 24.1.3.3
abbrev pub remove_key : Store → ℕ → Value → Store
remove_key store a key = record store { maps = slice_set store.maps a (remove_entry (same key) (entries store a)) }

abbrev pub keys : Store → ℕ → List Value
keys store a = keys_of (entries store a)

-- ---- functions

abbrev pub closure : Store → ℕ → Option Closure
closure store a = slice_get store.functions a

abbrev pub with_function : Store → Closure → Store
with_function store made = record store { functions = store.functions ++ made ∷ [] }
