-- Natives on maps.
use Rattle.std.specs.Prelude.{ℕ, List, Option, Some, None, length, if◌then◌else◌, ◌||◌}
use Rattle.std.specs.Option.{unwrap_or, is_some}
use Rattle.dart_store.specs.Store.{entries, with_map, with_list, read_entry, write_entry, remove_key, keys}
use Rattle.dart_store.specs.Answers.{count, has_room}
use Rattle.dart_store.specs.Lists.{Outcome}
use Rattle.dart_store.specs.declared.value.Value.{Value}
use Rattle.dart_store.specs.declared.value.Value.TheVariants as v
use Rattle.dart_store.specs.declared.store.Store.{Store}
use Rattle.dart_store.specs.declared.answers.Thrower.TheVariants.{Argument}
use Rattle.dart_store.specs.declared.answers.Applied.{Applied}
use Rattle.dart_store.specs.declared.answers.Applied.TheVariants.{Gives, Throws, Leaves}

abbrev pub new_map : Store → Outcome
new_map store = (Gives (v.Map (length store.maps)), with_map store)

abbrev pub keys_in : Store → Option ℕ → Applied
keys_in store (Some a) = count (length (entries store a))
keys_in store None = Throws Argument

-- the value of a key; null where the key is absent
abbrev pub entry : Store → Option ℕ → Option Value → Applied
entry store (Some a) (Some b) = Gives (unwrap_or (read_entry store a b) v.Null)
entry store _ _ = Throws Argument

-- b has c; only a new key needs room
abbrev pub put_entry : Store → Option ℕ → Option Value → Option Value → Outcome
put_entry store (Some a) (Some b) (Some c) =
    if has_room (length (entries store a)) || is_some (read_entry store a b) then (Gives v.Null, write_entry store a b c) else (Leaves, store)
put_entry store _ _ _ = (Throws Argument, store)

abbrev pub has_key : Store → Option ℕ → Option Value → Applied
has_key store (Some a) (Some b) = Gives (v.Bool (is_some (read_entry store a b)))
has_key store _ _ = Throws Argument

-- what the key had, or null; the key is gone
abbrev pub drop_entry : Store → Option ℕ → Option Value → Outcome
drop_entry store (Some a) (Some b) = (Gives (unwrap_or (read_entry store a b) v.Null), remove_key store a b)
drop_entry store _ _ = (Throws Argument, store)

-- a new list of the keys, in their order
abbrev pub list_keys : Store → Option ℕ → Outcome
list_keys store (Some a) = (Gives (v.List (length store.lists)), with_list store (keys store a))
list_keys store None = (Throws Argument, store)
