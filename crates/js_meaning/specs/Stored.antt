-- The parts of a run that look into the store and change it.
use Rattle.std.specs.Prelude.{ℕ, Bool, true, false, if◌then◌else◌, List, [], ◌∷◌, ◌++◌, length, Option, Some, None, ℤ, pos, codes}
use Rattle.std.specs.Option.{unwrap_or, is_some}
use Rattle.code_units.specs.declared.ends.Shown.{Shown}
use Rattle.code_units.specs.declared.ends.Shown.TheVariants as shows
use Rattle.js_tree.specs.declared.tree.JsFunction.{JsFunction}
use Rattle.js_tree.specs.declared.words.JsMember.{JsMember}
use Rattle.js_tree.specs.declared.words.JsMember.TheVariants as m
use Rattle.store_lists.specs.Text.{Text}
use Rattle.js_store.specs.Names.{Name}
use Rattle.js_store.specs.Closure.{Closure, Env}
use Rattle.js_store.specs.Scopes.{Scope}
use Rattle.js_store.specs.Store.{Properties}
use Rattle.js_store.specs.Store as s
use Rattle.js_store.specs.Scopes as scopes
use Rattle.js_store.specs.Host as h
use Rattle.js_store.specs.Load.{Load}
use Rattle.js_store.specs.declared.store.Store.{Store}
use Rattle.js_store.specs.declared.host.Host.{Host as HostState}
use Rattle.js_store.specs.declared.value.Value.{Value}
use Rattle.js_store.specs.declared.value.Value.TheVariants.{Undefined, Null, Bool as Truth, Number, Str, Object, Array, Map, Function, Host}
use Rattle.js_meaning.specs.declared.state.Spot.{Spot}
use Rattle.js_meaning.specs.declared.state.Here.{Here}
use Rattle.js_meaning.specs.declared.state.Realm.{Realm}
use Rattle.js_meaning.specs.Prog.{Prog, ◌>>=◌, ◌>>◌, pure, left, stuck, or_stuck, look, change}
use Rattle.store_lists.specs.Limits.{is_length}
use Rattle.js_meaning.specs.Operators.{number}

-- what the store has, and a change of it that gives nothing or a value
abbrev pub seen : {T : Type 0} → (Store → T) → Prog T
seen f = look (λ r. f r.store)

abbrev pub alter : (Store → Store) → Prog (Unit {0})
alter f = change (λ r. (tt, record r { store = f r.store }))

abbrev pub make : {T : Type 0} → (Store → T) → (Store → Store) → Prog T
make value f = change (λ r. (value r.store, record r { store = f r.store }))

-- what the host is told
abbrev pub tell : (HostState → HostState) → Prog (Unit {0})
tell f = change (λ r. (tt, record r { host = f r.host }))

-- whether it was done, or else no rule applies
abbrev pub or_no_rule : Spot → Bool → Prog (Unit {0})
or_no_rule spot true = pure tt
or_no_rule spot false = stuck spot

-- ---- names and scopes

unfoldable pub read : Here → Name → Prog Value
read here x = seen (λ st. scopes.look_up st here.env x) >>= or_stuck here.spot

unfoldable pub enter : Env → Scope → Prog Env
enter env scope = make (λ st. scopes.inside st env scope) (λ st. scopes.enter st scope)

-- a name that the innermost scope declares has this value from now on
unfoldable pub give : Env → Name → Value → Prog (Unit {0})
give env x v = alter (λ st. scopes.initialise st env x v)

unfoldable pub assign : Here → Name → Value → Prog (Unit {0})
assign here x v = do
  done ← make (λ st. is_some (scopes.assign st here.env x v)) (λ st. unwrap_or (scopes.assign st here.env x v) st)
  or_no_rule here.spot done

-- ---- values with an address

unfoldable pub function_value : ℕ → Env → JsFunction → Prog Value
function_value file env f = make (λ st. Function (length st.functions)) (λ st. s.with_function st (record { function = f; around = env; file = file }))

abbrev pub function_at : Value → Option ℕ
function_at (Function a) = Some a
function_at _ = None

unfoldable pub closure : Spot → Value → Prog Closure
closure spot v = do
  a ← or_stuck spot (function_at v)
  c ← seen (λ st. s.closure st a)
  or_stuck spot c

unfoldable pub array_value : List Value → Prog Value
array_value vs = if is_length (length vs) then make (λ st. Array (length st.arrays)) (λ st. s.with_array st vs) else left

unfoldable pub object_value : Properties → Prog Value
object_value made = make (λ st. Object (length st.objects)) (λ st. s.with_object st made)

unfoldable pub map_value : Prog Value
map_value = make (λ st. Map (length st.maps)) s.with_map

-- ---- what an index finds: an array takes an index in range, and an object a string

unfoldable pub item : Spot → ℕ → ℤ → Prog Value
item spot a i = seen (λ st. s.read_element st a i) >>= or_stuck spot

abbrev pub element_at : Spot → Value → Value → Prog Value
element_at spot (Array a) (Number i) = item spot a i
element_at spot (Object a) (Str key) = seen (λ st. s.read_property st a key)
element_at spot _ _ = stuck spot

unfoldable pub element : Spot → Value → Value → Prog Value
element = element_at

unfoldable pub set_item : Spot → ℕ → ℤ → Value → Prog (Unit {0})
set_item spot a i v = do
  done ← make (λ st. is_some (s.read_element st a i)) (λ st. s.write_element st a i v)
  or_no_rule spot done

abbrev pub set_element_at : Spot → Value → Value → Value → Prog (Unit {0})
set_element_at spot (Array a) (Number i) v = set_item spot a i v
set_element_at spot (Object a) (Str key) v = alter (λ st. s.write_property st a key v)
set_element_at spot _ _ v = stuck spot

unfoldable pub set_element : Spot → Value → Value → Value → Prog (Unit {0})
set_element = set_element_at

-- ---- `length` and `size`

unfoldable pub array_length : ℕ → Prog Value
array_length a = seen (λ st. length (s.elements st a)) >>= (λ n. number (pos n))

unfoldable pub map_size : ℕ → Prog Value
map_size a = seen (λ st. length (s.entries st a)) >>= (λ n. number (pos n))

abbrev pub counted_at : Spot → JsMember → Value → Prog Value
counted_at spot m.Length (Array a) = array_length a
counted_at spot m.Length (Str t) = number (pos (length t))
counted_at spot m.Size (Map a) = map_size a
counted_at spot _ _ = stuck spot

unfoldable pub counted : Spot → JsMember → Value → Prog Value
counted = counted_at

-- ---- words of arrays

abbrev pub is_array : Value → Bool
is_array (Array a) = true
is_array _ = false

unfoldable pub copied : ℕ → Prog Value
copied a = seen (λ st. s.elements st a) >>= array_value

abbrev pub array_from_at : Spot → Value → Prog Value
array_from_at spot (Array a) = copied a
array_from_at spot _ = stuck spot

-- 23.1.2.1, of an array, as `keys` gives one
unfoldable pub array_from : Spot → Value → Prog Value
array_from = array_from_at

unfoldable pub push_all : ℕ → List Value → Prog (Unit {0})
push_all a [] = pure tt
push_all a (v ∷ vs) = alter (λ st. s.push_element st a v) >> push_all a vs

unfoldable pub pushed_to : ℕ → List Value → Prog Value
pushed_to a vs = push_all a vs >> array_length a

abbrev pub pushed_at : Spot → Value → List Value → Prog Value
pushed_at spot (Array a) vs = pushed_to a vs
pushed_at spot _ vs = stuck spot

-- 23.1.3.23: the arguments go behind the elements, and their number is given
unfoldable pub pushed : Spot → Value → List Value → Prog Value
pushed = pushed_at

unfoldable pub popped_from : ℕ → Prog Value
popped_from a = make (λ st. unwrap_or (s.popped_element st a) Undefined) (λ st. s.pop_element st a)

abbrev pub popped_at : Spot → Value → Prog Value
popped_at spot (Array a) = popped_from a
popped_at spot _ = stuck spot

-- 23.1.3.22
unfoldable pub popped : Spot → Value → Prog Value
popped = popped_at

-- ---- words of maps (24.1.3)

abbrev pub value_at_key : Spot → Value → Value → Prog Value
value_at_key spot (Map a) k = seen (λ st. s.read_entry st a k)
value_at_key spot _ k = stuck spot

unfoldable pub value_at : Spot → Value → Value → Prog Value
value_at = value_at_key

-- a map has no more than 2^53-1 entries
unfoldable pub put_in : ℕ → Value → Value → Prog Value
put_in a k w = do
  alter (λ st. s.write_entry st a k w)
  n ← seen (λ st. length (s.entries st a))
  if is_length n then pure (Map a) else left

abbrev pub put_at_key : Spot → Value → Value → Value → Prog Value
put_at_key spot (Map a) k w = put_in a k w
put_at_key spot _ k w = stuck spot

unfoldable pub put : Spot → Value → Value → Value → Prog Value
put = put_at_key

abbrev pub has_key : Spot → Value → Value → Prog Value
has_key spot (Map a) k = seen (λ st. Truth (s.has_entry st a k))
has_key spot _ k = stuck spot

unfoldable pub has : Spot → Value → Value → Prog Value
has = has_key

abbrev pub removed_key : Spot → Value → Value → Prog Value
removed_key spot (Map a) k = make (λ st. Truth (s.has_entry st a k)) (λ st. s.remove_key st a k)
removed_key spot _ k = stuck spot

unfoldable pub removed : Spot → Value → Value → Prog Value
removed = removed_key

unfoldable pub keys_in : ℕ → Prog Value
keys_in a = seen (λ st. s.keys st a) >>= array_value

abbrev pub keys_of_map : Spot → Value → Prog Value
keys_of_map spot (Map a) = keys_in a
keys_of_map spot _ = stuck spot

-- the keys, in the order in which they came, as an array
unfoldable pub keys : Spot → Value → Prog Value
keys = keys_of_map

-- ---- the top scope

unfoldable pub is_declared : Name → Prog Bool
is_declared x = seen (λ st. scopes.is_declared st x)

unfoldable pub declare : Name → Option Value → Prog (Unit {0})
declare x v = alter (λ st. scopes.set_top st x v)

-- ---- the host

-- the strings of a list that has nothing else, behind others
abbrev pub texts_from : List Text → List Value → Option (List Text)
texts_from texts [] = Some texts
texts_from texts (Str t ∷ vs) = texts_from (texts ++ t ∷ []) vs
texts_from texts (_ ∷ vs) = None

unfoldable pub asked : Spot → ℕ → Value → Prog Value
asked spot a done = do
  vs ← seen (λ st. s.elements st a)
  names ← or_stuck spot (texts_from [] vs)
  tell (λ host. h.ask host (record { names = names; done = done; file = spot.file; at = spot.at }))
  pure Undefined

abbrev pub ask_host : Spot → Value → Value → Value → Prog Value
ask_host spot Host (Array a) done = asked spot a done
ask_host spot _ names done = stuck spot

-- `host$.load` takes an array of strings, as it is then, and what is called when the load completes
unfoldable pub ask : Spot → Value → Value → Value → Prog Value
ask = ask_host

unfoldable pub file_number : Text → Prog (Option ℕ)
file_number name = look (λ r. h.file_number r.host name)

unfoldable pub has_run : Text → Prog Bool
has_run name = look (λ r. h.has_run r.host name)

unfoldable pub starts : Text → Prog (Unit {0})
starts name = tell (λ host. h.note_run host name)

unfoldable pub completes : Prog (Option Load)
completes = change (λ r. (h.next_load r.host, record r { host = h.complete r.host }))

-- ---- what is shown of a value that nothing caught

-- the string at n$ of the object at c$
abbrev pub class_name : Value → Option Shown
class_name (Str t) = Some (shows.Class t)
class_name _ = None

abbrev pub class_of : Store → Value → Option Shown
class_of st (Object a) = class_name (s.read_property st a (codes "n$"))
class_of st _ = None

abbrev pub shown_as : Store → Value → Option Shown
shown_as st Null = Some shows.Null
shown_as st (Truth b) = Some (shows.Bool b)
shown_as st (Number z) = Some (shows.Int z)
shown_as st (Str t) = Some (shows.Str t)
shown_as st (Array a) = Some (shows.Class (codes "List"))
shown_as st (Object a) = class_of st (s.read_property st a (codes "c$"))
shown_as st _ = None

unfoldable pub shown : Spot → Value → Prog Shown
shown from v = seen (λ st. shown_as st v) >>= or_stuck from
