-- Natives on lists: the answer, and the store after it, which is as it was unless a value is given.
use Rattle.std.specs.Prelude.{ℕ, ℤ, List, [], Option, Some, None, length, nat_eq, if◌then◌else◌}
use Rattle.std.specs.Option.{is_some}
use Rattle.dart_store.specs.Store.{items, with_list, read_item, write_item, push_item, popped_item, pop_item}
use Rattle.dart_store.specs.Answers.{count, has_room}
use Rattle.dart_store.specs.declared.value.Value.{Value}
use Rattle.dart_store.specs.declared.value.Value.TheVariants as v
use Rattle.dart_store.specs.declared.store.Store.{Store}
use Rattle.dart_store.specs.declared.answers.Thrower.TheVariants.{Argument, Range}
use Rattle.dart_store.specs.declared.answers.Applied.{Applied}
use Rattle.dart_store.specs.declared.answers.Applied.TheVariants.{Gives, Throws, Leaves}

abbrev pub Outcome : Type 0
Outcome = Applied × Store

abbrev pub new_list : Store → Outcome
new_list store = (Gives (v.List (length store.lists)), with_list store [])

abbrev pub items_in : Store → Option ℕ → Applied
items_in store (Some a) = count (length (items store a))
items_in store None = Throws Argument

-- what stands at an index, where the index is in range
abbrev pub found : Option Value → Applied
found (Some value) = Gives value
found None = Throws Range

abbrev pub item : Store → Option ℕ → Option ℤ → Applied
item store (Some a) (Some b) = found (read_item store a b)
item store _ _ = Throws Argument

-- c is put at b, where b is in range
abbrev pub put_item : Store → Option ℕ → Option ℤ → Option Value → Outcome
put_item store (Some a) (Some b) (Some c) = if is_some (read_item store a b) then (Gives v.Null, write_item store a b c) else (Throws Range, store)
put_item store _ _ _ = (Throws Argument, store)

-- b goes last
abbrev pub add_item : Store → Option ℕ → Option Value → Outcome
add_item store (Some a) (Some b) = if has_room (length (items store a)) then (Gives v.Null, push_item store a b) else (Leaves, store)
add_item store _ _ = (Throws Argument, store)

-- the last item is given and taken off, unless the list is empty
abbrev pub drop_item : Store → Option ℕ → Outcome
drop_item store (Some a) = if nat_eq (length (items store a)) 0 then (Throws Range, store) else (found (popped_item store a), pop_item store a)
drop_item store None = (Throws Argument, store)
