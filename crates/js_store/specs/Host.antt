-- The host: the loads that are asked for, which of them completes next, and the files that have run. What is printed is a
-- list of texts of its own, each behind all before it.
use Rattle.std.specs.Prelude.{ℕ, ◌%◌, Bool, true, false, List, [], ◌∷◌, ◌++◌, Option, position, length, remove, slice_get}
use Rattle.std.specs.Option.{unwrap_or}
use Rattle.std.specs.Map.{lookup, keys_of}
use Rattle.indexmap.specs.IndexMap.{insert_entry}
use Rattle.store_lists.specs.Text.{Text, same_text}
use Rattle.js_store.specs.Load.{Load}
use Rattle.store_lists.specs.Order.{next_number, further_numbers}
use Rattle.js_store.specs.declared.host.Host.{Host}

-- asked is in order of asking; order has the numbers that are left; files has each file's name, and whether it has run
abbrev pub starts : (names : List (Text × Bool)) → (order : List ℕ) → Host
starts names order = record { asked = []; order = order; files = names }

-- one more load is asked for
abbrev pub ask : Host → Load → Host
ask host load = record host { asked = host.asked ++ load ∷ [] }

-- Which load completes next: the next number of the order, modulo the count of those that are asked for, tells, counted
-- from 0 in order of asking. Once the order has ended it is the first.
abbrev pub turn : Host → ℕ
turn host = next_number host.order % length host.asked

abbrev pub next_load : Host → Option Load
next_load host = slice_get host.asked (turn host)

-- Where one is asked for, it is asked for no longer, and its number is taken.
abbrev pub completed : Host → List Load → Host
completed host [] = host
completed host (load ∷ asked) = record host { asked = remove host.asked (turn host); order = further_numbers host.order }

abbrev pub complete : Host → Host
complete host = completed host host.asked

-- the number of the file of a name
abbrev pub file_number : Host → Text → Option ℕ
file_number host name = position (same_text name) (keys_of host.files)

abbrev pub has_run : Host → Text → Bool
has_run host name = unwrap_or (lookup (same_text name) host.files) false

abbrev pub note_run : Host → Text → Host
note_run host name = record host { files = insert_entry same_text host.files name true }
