-- What each form of an expression does, from what its parts do.
use Rattle.std.proofs.Common.{◌≡◌, ℕ, List, map, refl, ap, ◌∙◌, sym}
use Rattle.std.specs.Prelude.{true, false}
use Rattle.js_tree.specs.declared.tree.JsExpr.{JsExpr, roll-JsExpr}
use Rattle.js_tree.specs.declared.tree.JsExpr.TheVariants as e
use Rattle.js_tree.specs.declared.tree.JsExpr.TheOpen.{JsExpr-F, JsHead-F, JsSelector-F, JsStmt-F, JsEntry-F, JsFunction-F, JsPrimary-F}
use Rattle.js_tree.specs.declared.tree.JsHead.{JsHead, roll-JsHead}
use Rattle.js_tree.specs.declared.tree.JsHead.TheVariants as h
use Rattle.js_tree.specs.declared.tree.JsSelector.{JsSelector, roll-JsSelector}
use Rattle.js_tree.specs.declared.tree.JsSelector.TheVariants as l
use Rattle.js_tree.specs.declared.tree.JsPrimary.{JsPrimary, fold_out-JsPrimary}
use Rattle.js_tree.specs.declared.tree.JsEntry.{JsEntry}
use Rattle.js_tree.specs.declared.tree.JsFunction.{JsFunction}
use Rattle.js_tree.specs.declared.tree.JsStmt.{JsStmt}
use Rattle.js_tree.specs.declared.words.JsMember.{JsMember}
use Rattle.js_tree.specs.declared.words.JsOperator.{JsOperator}
use Rattle.store_lists.specs.Text.{Text}
use Rattle.js_store.specs.Names.{Name}
use Rattle.js_store.specs.declared.value.Value.{Value}
use Rattle.js_store.specs.declared.value.Value.TheVariants.{Undefined, Null, Str}
use Rattle.js_meaning.specs.declared.state.Here.{Here}
use Rattle.js_meaning.specs.declared.state.Callee.TheVariants.{Applied, StringOf, IsArray, ArrayFrom, Method}
use Rattle.js_meaning.specs.Prog.{Prog, ◌>>=◌, pure}
use Rattle.js_meaning.specs.Parts.{Expr, Head, Selector, Primary, Entry, selected}
use Rattle.js_meaning.specs.Operators.{truth}
use Rattle.js_meaning.specs.Stored.{map_value}
use Rattle.js_meaning.specs.Expressions.{name, digits, negative, calls, index, member, binary, type_of, function, array, object}
use Rattle.js_meaning.specs.Trees.{expr, head, selector, entry, primary, expr_part, head_part, selector_part, stmt_tree, entry_part, function_tree, primary_part, expr_does, head_does, selector_does}
use Rattle.js_meaning.proofs.Rebuilt.{expr_read, head_read, selector_read, expr_is, head_is, selector_is, same_function}

expr_rolled : (x : JsExpr-F JsExpr JsHead JsSelector JsStmt JsEntry JsFunction JsPrimary) {a : JsExpr} (here : Here) → roll-JsExpr x ≡ a → (expr a).does here ≡ expr_does (expr_read x) here
expr_rolled x here rolls = ap (λ a. (expr a).does here) (sym rolls) ∙ ap (λ p. p.does here) (expr_is x)

head_rolled : (x : JsHead-F JsExpr JsHead JsSelector JsStmt JsEntry JsFunction JsPrimary) {a : JsHead} (here : Here) → roll-JsHead x ≡ a → (head a).does here ≡ head_does (head_read x) here
head_rolled x here rolls = ap (λ a. (head a).does here) (sym rolls) ∙ ap (λ p. p.does here) (head_is x)

selector_rolled : (x : JsSelector-F JsExpr JsHead JsSelector JsStmt JsEntry JsFunction JsPrimary) {a : JsSelector} (here : Here) (v : Value) → roll-JsSelector x ≡ a → (selector a).does here v ≡ selector_does (selector_read x) here v
selector_rolled x here v rolls = ap (λ a. (selector a).does here v) (sym rolls) ∙ ap (λ p. p.does here v) (selector_is x)

-- ---- expressions

pub primary_layer : (p : JsPrimary) (here : Here) → (expr (e.Primary p)).does here ≡ (primary p).does here
primary_layer p here = expr_rolled (JsExpr-F.Primary p) here (e.rolls-Primary p)

pub binary_layer : (o : JsOperator) (a b : JsPrimary) (here : Here) → (expr (e.Binary o a b)).does here ≡ binary here o ((primary a).does here) ((primary b).does here)
binary_layer o a b here = expr_rolled (JsExpr-F.Binary o a b) here (e.rolls-Binary o a b)

pub type_of_layer : (p : JsPrimary) (here : Here) → (expr (e.TypeOf p)).does here ≡ type_of ((primary p).does here)
type_of_layer p here = expr_rolled (JsExpr-F.TypeOf p) here (e.rolls-TypeOf p)

pub function_layer : (f : JsFunction) (here : Here) → (expr (e.Function f)).does here ≡ function here f
function_layer f here = expr_rolled (JsExpr-F.Function f) here (e.rolls-Function f) ∙ ap (function here) (same_function f)

pub new_map_layer : (here : Here) → (expr e.NewMap).does here ≡ map_value
new_map_layer here = expr_rolled JsExpr-F.NewMap here e.rolls-NewMap

pub array_layer : (es : List JsExpr) (here : Here) → (expr (e.Array es)).does here ≡ array here (map expr es)
array_layer es here = expr_rolled (JsExpr-F.Array es) here (e.rolls-Array es)

pub object_layer : (es : List JsEntry) (here : Here) → (expr (e.Object es)).does here ≡ object here (map entry es)
object_layer es here = expr_rolled (JsExpr-F.Object es) here (e.rolls-Object es)

-- ---- heads

pub name_layer : (x : List ℕ) (here : Here) → (head (h.Name x)).does here ≡ name here x
name_layer x here = head_rolled (JsHead-F.Name x) here (h.rolls-Name x)

pub digits_layer : (n : ℕ) (here : Here) → (head (h.Digits n)).does here ≡ digits n
digits_layer n here = head_rolled (JsHead-F.Digits n) here (h.rolls-Digits n)

pub negative_layer : (n : ℕ) (here : Here) → (head (h.Negative n)).does here ≡ negative n
negative_layer n here = head_rolled (JsHead-F.Negative n) here (h.rolls-Negative n)

pub str_layer : (us : List ℕ) (here : Here) → (head (h.Str us)).does here ≡ pure (Str us)
str_layer us here = head_rolled (JsHead-F.Str us) here (h.rolls-Str us)

pub null_layer : (here : Here) → (head h.Null).does here ≡ pure Null
null_layer here = head_rolled JsHead-F.Null here h.rolls-Null

pub undefined_layer : (here : Here) → (head h.Undefined).does here ≡ pure Undefined
undefined_layer here = head_rolled JsHead-F.Undefined here h.rolls-Undefined

pub true_layer : (here : Here) → (head h.True).does here ≡ truth true
true_layer here = head_rolled JsHead-F.True here h.rolls-True

pub false_layer : (here : Here) → (head h.False).does here ≡ truth false
false_layer here = head_rolled JsHead-F.False here h.rolls-False

pub string_of_layer : (es : List JsExpr) (here : Here) → (head (h.StringOf es)).does here ≡ calls here StringOf (map expr es)
string_of_layer es here = head_rolled (JsHead-F.StringOf es) here (h.rolls-StringOf es)

pub is_array_layer : (es : List JsExpr) (here : Here) → (head (h.IsArray es)).does here ≡ calls here IsArray (map expr es)
is_array_layer es here = head_rolled (JsHead-F.IsArray es) here (h.rolls-IsArray es)

pub array_from_layer : (es : List JsExpr) (here : Here) → (head (h.ArrayFrom es)).does here ≡ calls here ArrayFrom (map expr es)
array_from_layer es here = head_rolled (JsHead-F.ArrayFrom es) here (h.rolls-ArrayFrom es)

-- ---- selectors

pub index_layer : (a : JsExpr) (here : Here) (v : Value) → (selector (l.Index a)).does here v ≡ index here v ((expr a).does here)
index_layer a here v = selector_rolled (JsSelector-F.Index a) here v (l.rolls-Index a)

pub call_layer : (es : List JsExpr) (here : Here) (v : Value) → (selector (l.Call es)).does here v ≡ calls here (Applied v) (map expr es)
call_layer es here v = selector_rolled (JsSelector-F.Call es) here v (l.rolls-Call es)

pub member_layer : (m : JsMember) (here : Here) (v : Value) → (selector (l.Member m)).does here v ≡ member here v m
member_layer m here v = selector_rolled (JsSelector-F.Member m) here v (l.rolls-Member m)

pub method_layer : (m : JsMember) (es : List JsExpr) (here : Here) (v : Value) → (selector (l.Method m es)).does here v ≡ calls here (Method v m) (map expr es)
method_layer m es here v = selector_rolled (JsSelector-F.Method m es) here v (l.rolls-Method m es)

-- ---- structs

pub parts_layer : (a : JsPrimary) (here : Here) → (primary a).does here ≡ (head a.head).does here >>= (λ v. selected here v (map selector a.selectors))
parts_layer a here = ap (λ p. p.does here) (fold_out-JsPrimary Expr Head Selector JsStmt Entry JsFunction Primary expr_part head_part selector_part stmt_tree entry_part function_tree primary_part a)
