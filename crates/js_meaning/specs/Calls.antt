-- What a call does, whose step has begun. The arguments have been evaluated; an argument that is absent is undefined, and
-- those that are too many have no say.
use Rattle.std.specs.Prelude.{ℕ, ◌+◌, Bool, true, false, List, [], ◌∷◌, slice_get, Option, Some, None, Result, Ok, Err, ℤ, pos, codes}
use Rattle.std.specs.Option.{unwrap_or}
use Rattle.std.specs.Fmt.{signed_decimal}
use Rattle.js_tree.specs.declared.words.JsMember.{JsMember}
use Rattle.js_tree.specs.declared.words.JsMember.TheVariants as m
use Rattle.store_lists.specs.Lists.{item_at}
use Rattle.store_lists.specs.Text.{Text, part}
use Rattle.js_store.specs.Names.{Name}
use Rattle.js_store.specs.Closure.{Closure, Env}
use Rattle.js_store.specs.Scopes.{Scope, bind}
use Rattle.js_store.specs.declared.value.Value.{Value}
use Rattle.js_store.specs.declared.value.Value.TheVariants.{Undefined, Null, Bool as Truth, Number, Str, Object, Array, Map, Function, Host}
use Rattle.js_meaning.specs.declared.state.Spot.{Spot}
use Rattle.js_meaning.specs.declared.state.Around.{Around}
use Rattle.js_meaning.specs.declared.state.Callee.{Callee}
use Rattle.js_meaning.specs.declared.state.Callee.TheVariants.{Applied, StringOf, IsArray, ArrayFrom, Method}
use Rattle.js_meaning.specs.declared.state.Leave.{Leave as Leaving}
use Rattle.js_meaning.specs.declared.state.Leave.TheVariants.{Break, Return, Throw}
use Rattle.js_meaning.specs.Prog.{Prog, ◌>>=◌, ◌>>◌, pure, left, stuck, or_stuck, leave, attempt}
use Rattle.js_meaning.specs.Operators.{number, truth}
use Rattle.js_meaning.specs.Statements.{with_lets, statements}
use Rattle.js_meaning.specs.Stored.{closure, enter, is_array, array_from, pushed, popped, value_at, put, has, removed, keys, ask}

abbrev pub argument : ℕ → List Value → Value
argument i vs = unwrap_or (slice_get vs i) Undefined

-- ---- functions

-- each parameter with its argument (10.2.11), of which the first has this number
abbrev pub with_parameters : Scope → ℕ → List Name → List Value → Scope
with_parameters scope i [] vs = scope
with_parameters scope i (x ∷ xs) vs = with_parameters (bind scope x (Some (argument i vs))) (i + 1) xs vs

-- A body that ends without a `return` gives undefined (10.2.1.4). No `break` leaves a function.
abbrev pub returned : Result (Unit {0}) Leaving → Prog Value
returned (Ok u) = pure Undefined
returned (Err (Return v)) = pure v
returned (Err (Throw v from)) = leave (Throw v from)
returned (Err (Break label)) = leave (Break label)

abbrev pub inside : ℕ → Env → Around
inside file env = record { file = file; env = env; in_function = true }

-- 10.2.1: the parameters and the `let`s of the body stand in one scope, which is fresh in each call
unfoldable pub entered : Closure → List Value → Prog Value
entered c vs = do
  env ← enter c.around (with_lets (with_parameters [] 0 c.function.parameters vs) c.function.body)
  o ← attempt (statements (inside c.file env) [] c.function.body)
  returned o

-- 13.3.6.2
unfoldable pub applied : Spot → Value → List Value → Prog Value
applied spot f vs = do
  c ← closure spot f
  entered c vs

-- ---- String, Array.isArray and Array.from

-- 22.1.1.1, of what emitted code asks it
abbrev pub text_of : Value → Option Text
text_of Null = Some (codes "null")
text_of (Truth true) = Some (codes "true")
text_of (Truth false) = Some (codes "false")
text_of (Number z) = Some (signed_decimal z)
text_of (Str t) = Some t
text_of _ = None

unfoldable pub string_of : Spot → Value → Prog Value
string_of spot v = or_stuck spot (text_of v) >>= (λ t. pure (Str t))

-- ---- words of strings

-- 22.1.3.3, of an index in range
unfoldable pub unit_at : Spot → Text → ℤ → Prog Value
unit_at spot t i = or_stuck spot (item_at t i) >>= (λ u. pure (Number (pos u)))

abbrev pub char_code : Spot → Value → Value → Prog Value
char_code spot (Str t) (Number i) = unit_at spot t i
char_code spot _ _ = stuck spot

unfoldable pub char_code_at : Spot → Value → Value → Prog Value
char_code_at = char_code

-- 22.1.3.25, of places in order
unfoldable pub part_of : Spot → Text → ℤ → ℤ → Prog Value
part_of spot t from to = or_stuck spot (part t from to) >>= (λ u. pure (Str u))

abbrev pub part_at : Spot → Value → Value → Value → Prog Value
part_at spot (Str t) (Number from) (Number to) = part_of spot t from to
part_at spot _ _ _ = stuck spot

unfoldable pub substring : Spot → Value → Value → Value → Prog Value
substring = part_at

-- ---- the host

-- what `host$.print` was given has been printed as its step began
abbrev pub printed : Spot → Value → Value → Prog Value
printed spot Host (Str t) = pure Undefined
printed spot v t = stuck spot

-- ---- the words

abbrev pub method : Spot → JsMember → Value → List Value → Prog Value
method spot m.Push v vs = pushed spot v vs
method spot m.Pop v vs = popped spot v
method spot m.CharCodeAt v vs = char_code_at spot v (argument 0 vs)
method spot m.Substring v vs = substring spot v (argument 0 vs) (argument 1 vs)
method spot m.Get v vs = value_at spot v (argument 0 vs)
method spot m.Set v vs = put spot v (argument 0 vs) (argument 1 vs)
method spot m.Has v vs = has spot v (argument 0 vs)
method spot m.Delete v vs = removed spot v (argument 0 vs)
method spot m.Keys v vs = keys spot v
method spot m.Print v vs = printed spot v (argument 0 vs)
method spot m.Load v vs = ask spot v (argument 0 vs) (argument 1 vs)
method spot m.Length v vs = stuck spot
method spot m.Size v vs = stuck spot

abbrev pub called_at : Spot → Callee → List Value → Prog Value
called_at spot (Applied f) vs = applied spot f vs
called_at spot StringOf vs = string_of spot (argument 0 vs)
called_at spot IsArray vs = truth (is_array (argument 0 vs))
called_at spot ArrayFrom vs = array_from spot (argument 0 vs)
called_at spot (Method v m) vs = method spot m v vs

unfoldable pub called : Spot → Callee → List Value → Prog Value
called = called_at

abbrev pub prints_at : Callee → Value → Option Text
prints_at (Method Host m.Print) (Str t) = Some t
prints_at _ _ = None

-- what is printed as the step of a call begins
abbrev pub prints : Callee → List Value → Option Text
prints f vs = prints_at f (argument 0 vs)
