-- The natives, one row each: what is answered, and the store after it. A thrower changes nothing, nor does leaving the whole
-- numbers. Arguments that are absent, or behind those that a native takes, are wrong or without meaning; no body of the
-- prelude has such.
use Rattle.std.specs.Prelude.{ℕ, ℤ, List, Option, Some, None, slice_get, if◌then◌else◌}
use Rattle.store_lists.specs.Text.{Text}
use Rattle.dart_store.specs.Values.{number_in, text_in, list_in, map_in}
use Rattle.dart_store.specs.Events.{make_ready}
use Rattle.dart_store.specs.Answers.{has_room}
use Rattle.dart_store.specs.Numbers.{sum, difference, product, negative, quotient, remainder, compared, less, more, up_to, from, digits}
use Rattle.dart_store.specs.Texts.{printing, object_text, joined, units_in, unit, part_of, order}
use Rattle.dart_store.specs.Lists.{Outcome, new_list, items_in, item, put_item, add_item, drop_item}
use Rattle.dart_store.specs.Maps.{new_map, keys_in, entry, put_entry, has_key, drop_entry, list_keys}
use Rattle.dart_store.specs.declared.natives.Native.{Native}
use Rattle.dart_store.specs.declared.natives.Native.TheVariants as n
use Rattle.dart_store.specs.declared.value.Value.{Value}
use Rattle.dart_store.specs.declared.value.Value.TheVariants as v
use Rattle.dart_store.specs.declared.store.Store.{Store}
use Rattle.dart_store.specs.declared.answers.Thrower.TheVariants.{Argument}
use Rattle.dart_store.specs.declared.answers.Applied.{Applied}
use Rattle.dart_store.specs.declared.answers.Applied.TheVariants.{Gives, Throws, Leaves}

-- a is ready, behind all that are
abbrev pub soon : Store → Option Value → Outcome
soon store (Some a) = if has_room store.readied then (Gives v.Null, make_ready store a) else (Leaves, store)
soon store None = (Throws Argument, store)

-- the arguments, the receiver first
abbrev pub number_at : List Value → ℕ → Option ℤ
number_at args i = number_in (slice_get args i)

abbrev pub text_at : List Value → ℕ → Option Text
text_at args i = text_in (slice_get args i)

abbrev pub list_of : List Value → Option ℕ
list_of args = list_in (slice_get args 0)

abbrev pub map_of : List Value → Option ℕ
map_of args = map_in (slice_get args 0)

abbrev pub native_gives : Store → Native → List Value → Outcome
native_gives store n.Print args = (printing (text_at args 0), store)
native_gives store n.Soon args = soon store (slice_get args 0)
native_gives store n.ObjectText args = (object_text store (slice_get args 0), store)
native_gives store n.IntAdd args = (sum (number_at args 0) (number_at args 1), store)
native_gives store n.IntSub args = (difference (number_at args 0) (number_at args 1), store)
native_gives store n.IntMul args = (product (number_at args 0) (number_at args 1), store)
native_gives store n.IntNeg args = (negative (number_at args 0), store)
native_gives store n.IntDiv args = (quotient (number_at args 0) (number_at args 1), store)
native_gives store n.IntMod args = (remainder (number_at args 0) (number_at args 1), store)
native_gives store n.IntLess args = (compared less (number_at args 0) (number_at args 1), store)
native_gives store n.IntMore args = (compared more (number_at args 0) (number_at args 1), store)
native_gives store n.IntUpTo args = (compared up_to (number_at args 0) (number_at args 1), store)
native_gives store n.IntFrom args = (compared from (number_at args 0) (number_at args 1), store)
native_gives store n.IntText args = (digits (number_at args 0), store)
native_gives store n.TextJoin args = (joined (text_at args 0) (text_at args 1), store)
native_gives store n.TextLength args = (units_in (text_at args 0), store)
native_gives store n.TextUnit args = (unit (text_at args 0) (number_at args 1), store)
native_gives store n.TextPart args = (part_of (text_at args 0) (number_at args 1) (slice_get args 2), store)
native_gives store n.TextOrder args = (order (text_at args 0) (text_at args 1), store)
native_gives store n.ListNew args = new_list store
native_gives store n.ListLength args = (items_in store (list_of args), store)
native_gives store n.ListAt args = (item store (list_of args) (number_at args 1), store)
native_gives store n.ListPut args = put_item store (list_of args) (number_at args 1) (slice_get args 2)
native_gives store n.ListAdd args = add_item store (list_of args) (slice_get args 1)
native_gives store n.ListDrop args = drop_item store (list_of args)
native_gives store n.MapNew args = new_map store
native_gives store n.MapLength args = (keys_in store (map_of args), store)
native_gives store n.MapAt args = (entry store (map_of args) (slice_get args 1), store)
native_gives store n.MapPut args = put_entry store (map_of args) (slice_get args 1) (slice_get args 2)
native_gives store n.MapHas args = (has_key store (map_of args) (slice_get args 1), store)
native_gives store n.MapDrop args = drop_entry store (map_of args) (slice_get args 1)
native_gives store n.MapKeys args = list_keys store (map_of args)

-- what the call of a native prints: the text of `print`
abbrev pub printed : Native → List Value → Option Text
printed n.Print args = text_at args 0
printed _ args = None
