-- What each form of an expression does, from what its parts do. Parts are evaluated from the left, each once.
use Rattle.std.specs.Prelude.{ℕ, Bool, true, false, List, [], ◌∷◌, ℤ, pos, neg_ℤ}
use Rattle.js_tree.specs.declared.tree.JsFunction.{JsFunction}
use Rattle.js_tree.specs.declared.words.JsMember.{JsMember}
use Rattle.js_tree.specs.declared.words.JsOperator.{JsOperator}
use Rattle.indexmap.specs.IndexMap.{insert_entry}
use Rattle.store_lists.specs.Text.{same_text}
use Rattle.js_store.specs.Names.{Name}
use Rattle.js_store.specs.Store.{Properties}
use Rattle.js_store.specs.Values.{type_word}
use Rattle.js_store.specs.declared.value.Value.{Value}
use Rattle.js_store.specs.declared.value.Value.TheVariants.{Undefined, Null, Number, Str}
use Rattle.js_meaning.specs.declared.state.Here.{Here}
use Rattle.js_meaning.specs.declared.state.Callee.{Callee}
use Rattle.js_meaning.specs.declared.state.Callee.TheVariants.{Applied, StringOf, IsArray, ArrayFrom, Method}
use Rattle.js_meaning.specs.Prog.{Prog, ◌>>=◌, ◌>>◌, pure, call}
use Rattle.js_meaning.specs.Parts.{Expr, Entry, Primary, Evaluates, Selects, values, selected}
use Rattle.js_meaning.specs.Operators.{number, operated}
use Rattle.js_meaning.specs.Stored.{read, function_value, array_value, object_value, element, counted}

-- ---- what a primary expression begins with

-- 13.1.3
unfoldable pub name : Here → Name → Prog Value
name here x = read here x

-- 13.2.3
unfoldable pub digits : ℕ → Prog Value
digits n = number (pos n)

-- 13.5.5, of a literal
unfoldable pub negative : ℕ → Prog Value
negative n = number (neg_ℤ (pos n))

-- 13.3.6: the arguments, and then the call, which is a step
unfoldable pub calls : Here → Callee → List Expr → Prog Value
calls here f es = do
  vs ← values here es
  call here.spot f vs

-- ---- what selects

-- 13.3.3
unfoldable pub index : Here → Value → Prog Value → Prog Value
index here v p = do
  i ← p
  element here.spot v i

-- 13.3.2, of `length` and `size`
unfoldable pub member : Here → Value → JsMember → Prog Value
member here v m = counted here.spot m v

-- ---- expressions

-- 13.15.4
unfoldable pub binary : Here → JsOperator → Prog Value → Prog Value → Prog Value
binary here operator p q = do
  a ← p
  b ← q
  operated here.spot operator a b

-- 13.5.3; a name that is absent has no rule here either
unfoldable pub type_of : Prog Value → Prog Value
type_of p = do
  v ← p
  pure (Str (type_word v))

-- 15.2.5
unfoldable pub function : Here → JsFunction → Prog Value
function here f = function_value here.spot.file here.env f

-- 13.2.4
unfoldable pub array : Here → List Expr → Prog Value
array here es = do
  vs ← values here es
  array_value vs

-- 13.2.5: a later entry of the same name takes the place of the value
unfoldable pub entries_from : Here → Properties → List Entry → Prog Properties
entries_from here made [] = pure made
entries_from here made (e ∷ more) = e.does here >>= (λ v. entries_from here (insert_entry same_text made e.tree.key v) more)

unfoldable pub object : Here → List Entry → Prog Value
object here es = do
  made ← entries_from here [] es
  object_value made
