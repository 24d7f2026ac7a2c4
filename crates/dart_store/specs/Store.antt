-- The store: objects, lists and maps, each kind in lists of its own, where its address is its place. Nothing is ever taken
-- out of these lists, so no address is used again. An address that leads to nothing is as one that leads to something
-- empty; no value of a run has one.
use Rattle.std.specs.Prelude.{ℕ, ℤ, Bool, List, [], ◌∷◌, ◌++◌, Option, slice_get, slice_set, nat_eq}
use Rattle.std.specs.Option.{unwrap_or, is_some}
use Rattle.std.specs.Map.{lookup, remove_entry, keys_of}
use Rattle.indexmap.specs.IndexMap.{insert_entry}
use Rattle.store_lists.specs.Lists.{list_at, item_at, set_item, last_item, all_but_last}
use Rattle.store_lists.specs.Text.{Text}
use Rattle.dart_store.specs.Values.{same}
use Rattle.dart_store.specs.declared.value.Value.{Value}
use Rattle.dart_store.specs.declared.value.Value.TheVariants as v
use Rattle.dart_store.specs.declared.store.Store.{Store}

-- A run begins with no object, no variable initialised, nothing ready and nothing loaded. It knows the names of the classes
-- by their numbers, and the order in which loads complete.
abbrev pub starts : (names : List Text) → (order : List ℕ) → Store
starts names order = record {
  names = names;
  classes = [];
  fields = [];
  lists = [];
  maps = [];
  cells = [];
  statics = [];
  ready = [];
  readied = 0;
  asked = [];
  order = order;
  loaded = [];
}

-- ---- objects

-- a new object of a class, with all fields null
abbrev pub with_object : Store → ℕ → Store
with_object store class = record store { classes = store.classes ++ class ∷ []; fields = store.fields ++ [] ∷ [] }

-- The number of a value's class. Those of the prelude are numbered in its order, from 0 on.
abbrev pub class_of : Store → Value → ℕ
class_of store v.Null = 1
class_of store (v.Bool a) = 2
class_of store (v.Int a) = 4
class_of store (v.Text a) = 5
class_of store (v.Object a) = unwrap_or (slice_get store.classes a) 0
class_of store (v.List a) = 6
class_of store (v.Map a) = 8
class_of store (v.Function a) = 9
class_of store (v.Static a) = 9

abbrev pub class_name : Store → ℕ → Text
class_name store class = list_at store.names class

-- Fields go by their numbers as members. One that nothing was put in holds null.
abbrev pub read_field : Store → ℕ → ℕ → Value
read_field store a field = unwrap_or (lookup (nat_eq field) (list_at store.fields a)) v.Null

abbrev pub write_field : Store → ℕ → ℕ → Value → Store
write_field store a field value = record store { fields = slice_set store.fields a (insert_entry nat_eq (list_at store.fields a) field value) }

-- ---- lists

abbrev pub items : Store → ℕ → List Value
items store a = list_at store.lists a

abbrev pub with_list : Store → List Value → Store
with_list store made = record store { lists = store.lists ++ made ∷ [] }

-- the item at an index, where the index is in range
abbrev pub read_item : Store → ℕ → ℤ → Option Value
read_item store a index = item_at (items store a) index

abbrev pub write_item : Store → ℕ → ℤ → Value → Store
write_item store a index value = record store { lists = slice_set store.lists a (set_item (items store a) index value) }

abbrev pub push_item : Store → ℕ → Value → Store
push_item store a value = record store { lists = slice_set store.lists a (items store a ++ value ∷ []) }

abbrev pub popped_item : Store → ℕ → Option Value
popped_item store a = last_item (items store a)

abbrev pub pop_item : Store → ℕ → Store
pop_item store a = record store { lists = slice_set store.lists a (all_but_last (items store a)) }

-- ---- maps

-- keys of every kind and their values, in the order in which the keys came
abbrev pub Entries : Type 0
Entries = List (Value × Value)

abbrev pub entries : Store → ℕ → Entries
entries store a = list_at store.maps a

abbrev pub with_map : Store → Store
with_map store = record store { maps = store.maps ++ [] ∷ [] }

abbrev pub read_entry : Store → ℕ → Value → Option Value
read_entry store a key = lookup (same key) (entries store a)

-- a key that is there keeps its place, and a new one goes last
abbrev pub write_entry : Store → ℕ → Value → Value → Store
write_entry store a key value = record store { maps = slice_set store.maps a (insert_entry same (entries store a) key value) }

abbrev pub remove_key : Store → ℕ → Value → Store
remove_key store a key = record store { maps = slice_set store.maps a (remove_entry (same key) (entries store a)) }

abbrev pub keys : Store → ℕ → List Value
keys store a = keys_of (entries store a)
