-- Each form without its places from its parts without theirs.
use Rattle.std.proofs.Common.{◌≡◌, ℕ, List, map, sym, ap, ◌∙◌}
use Rattle.js_tree.specs.declared.tree.JsExpr.{JsExpr, roll-JsExpr, fold-roll-JsExpr}
use Rattle.js_tree.specs.declared.tree.JsExpr.TheVariants as e
use Rattle.js_tree.specs.declared.tree.JsExpr.TheOpen.{JsExpr-F, JsHead-F, JsSelector-F, JsStmt-F, JsEntry-F, JsFunction-F, JsPrimary-F}
use Rattle.js_tree.specs.declared.tree.JsExpr.TheFolds.{map-JsExpr, map-JsHead, map-JsSelector, map-JsStmt, map-JsEntry, map-JsFunction, map-JsPrimary}
use Rattle.js_tree.specs.declared.tree.JsHead.{JsHead, roll-JsHead, fold-roll-JsHead}
use Rattle.js_tree.specs.declared.tree.JsHead.TheVariants as h
use Rattle.js_tree.specs.declared.tree.JsSelector.{JsSelector, roll-JsSelector, fold-roll-JsSelector}
use Rattle.js_tree.specs.declared.tree.JsSelector.TheVariants as l
use Rattle.js_tree.specs.declared.tree.JsPrimary.{JsPrimary, roll-JsPrimary, fold-roll-JsPrimary, fold_out-JsPrimary}
use Rattle.js_tree.specs.declared.tree.JsEntry.{JsEntry, roll-JsEntry, fold-roll-JsEntry, fold_out-JsEntry}
use Rattle.js_tree.specs.declared.tree.JsFunction.{JsFunction, roll-JsFunction, fold-roll-JsFunction, fold_out-JsFunction}
use Rattle.js_tree.specs.declared.tree.JsStmt.{JsStmt, roll-JsStmt, fold-roll-JsStmt}
use Rattle.js_tree.specs.declared.tree.JsStmt.TheVariants as s
use Rattle.js_tree.specs.declared.words.JsMember.{JsMember}
use Rattle.js_tree.specs.declared.words.JsOperator.{JsOperator}
use Rattle.js_tree.specs.Tokens.{Bytes}
use Rattle.js_tree.specs.Places.{expr_of, head_of, selector_of, stmt_of, entry_of, function_of, primary_of, expr_without_places, head_without_places, selector_without_places, primary_without_places, entry_without_places, function_without_places, stmt_without_places}

-- ---- a form with its parts without their places

abbrev pub expr_bared : JsExpr-F JsExpr JsHead JsSelector JsStmt JsEntry JsFunction JsPrimary → JsExpr-F JsExpr JsHead JsSelector JsStmt JsEntry JsFunction JsPrimary
expr_bared = map-JsExpr JsExpr JsHead JsSelector JsStmt JsEntry JsFunction JsPrimary JsExpr JsHead JsSelector JsStmt JsEntry JsFunction JsPrimary expr_without_places head_without_places selector_without_places stmt_without_places entry_without_places function_without_places primary_without_places

abbrev pub head_bared : JsHead-F JsExpr JsHead JsSelector JsStmt JsEntry JsFunction JsPrimary → JsHead-F JsExpr JsHead JsSelector JsStmt JsEntry JsFunction JsPrimary
head_bared = map-JsHead JsExpr JsHead JsSelector JsStmt JsEntry JsFunction JsPrimary JsExpr JsHead JsSelector JsStmt JsEntry JsFunction JsPrimary expr_without_places head_without_places selector_without_places stmt_without_places entry_without_places function_without_places primary_without_places

abbrev pub selector_bared : JsSelector-F JsExpr JsHead JsSelector JsStmt JsEntry JsFunction JsPrimary → JsSelector-F JsExpr JsHead JsSelector JsStmt JsEntry JsFunction JsPrimary
selector_bared = map-JsSelector JsExpr JsHead JsSelector JsStmt JsEntry JsFunction JsPrimary JsExpr JsHead JsSelector JsStmt JsEntry JsFunction JsPrimary expr_without_places head_without_places selector_without_places stmt_without_places entry_without_places function_without_places primary_without_places

abbrev pub stmt_bared : JsStmt-F JsExpr JsHead JsSelector JsStmt JsEntry JsFunction JsPrimary → JsStmt-F JsExpr JsHead JsSelector JsStmt JsEntry JsFunction JsPrimary
stmt_bared = map-JsStmt JsExpr JsHead JsSelector JsStmt JsEntry JsFunction JsPrimary JsExpr JsHead JsSelector JsStmt JsEntry JsFunction JsPrimary expr_without_places head_without_places selector_without_places stmt_without_places entry_without_places function_without_places primary_without_places

abbrev pub entry_bared : JsEntry-F JsExpr JsHead JsSelector JsStmt JsEntry JsFunction JsPrimary → JsEntry-F JsExpr JsHead JsSelector JsStmt JsEntry JsFunction JsPrimary
entry_bared = map-JsEntry JsExpr JsHead JsSelector JsStmt JsEntry JsFunction JsPrimary JsExpr JsHead JsSelector JsStmt JsEntry JsFunction JsPrimary expr_without_places head_without_places selector_without_places stmt_without_places entry_without_places function_without_places primary_without_places

abbrev pub function_bared : JsFunction-F JsExpr JsHead JsSelector JsStmt JsEntry JsFunction JsPrimary → JsFunction-F JsExpr JsHead JsSelector JsStmt JsEntry JsFunction JsPrimary
function_bared = map-JsFunction JsExpr JsHead JsSelector JsStmt JsEntry JsFunction JsPrimary JsExpr JsHead JsSelector JsStmt JsEntry JsFunction JsPrimary expr_without_places head_without_places selector_without_places stmt_without_places entry_without_places function_without_places primary_without_places

abbrev pub primary_bared : JsPrimary-F JsExpr JsHead JsSelector JsStmt JsEntry JsFunction JsPrimary → JsPrimary-F JsExpr JsHead JsSelector JsStmt JsEntry JsFunction JsPrimary
primary_bared = map-JsPrimary JsExpr JsHead JsSelector JsStmt JsEntry JsFunction JsPrimary JsExpr JsHead JsSelector JsStmt JsEntry JsFunction JsPrimary expr_without_places head_without_places selector_without_places stmt_without_places entry_without_places function_without_places primary_without_places

pub expr_bare_is : (x : JsExpr-F JsExpr JsHead JsSelector JsStmt JsEntry JsFunction JsPrimary) → expr_without_places (roll-JsExpr x) ≡ expr_of (expr_bared x)
expr_bare_is = fold-roll-JsExpr JsExpr JsHead JsSelector JsStmt JsEntry JsFunction JsPrimary expr_of head_of selector_of stmt_of entry_of function_of primary_of

pub head_bare_is : (x : JsHead-F JsExpr JsHead JsSelector JsStmt JsEntry JsFunction JsPrimary) → head_without_places (roll-JsHead x) ≡ head_of (head_bared x)
head_bare_is = fold-roll-JsHead JsExpr JsHead JsSelector JsStmt JsEntry JsFunction JsPrimary expr_of head_of selector_of stmt_of entry_of function_of primary_of

pub selector_bare_is : (x : JsSelector-F JsExpr JsHead JsSelector JsStmt JsEntry JsFunction JsPrimary) → selector_without_places (roll-JsSelector x) ≡ selector_of (selector_bared x)
selector_bare_is = fold-roll-JsSelector JsExpr JsHead JsSelector JsStmt JsEntry JsFunction JsPrimary expr_of head_of selector_of stmt_of entry_of function_of primary_of

pub stmt_bare_is : (x : JsStmt-F JsExpr JsHead JsSelector JsStmt JsEntry JsFunction JsPrimary) → stmt_without_places (roll-JsStmt x) ≡ stmt_of (stmt_bared x)
stmt_bare_is = fold-roll-JsStmt JsExpr JsHead JsSelector JsStmt JsEntry JsFunction JsPrimary expr_of head_of selector_of stmt_of entry_of function_of primary_of

pub entry_bare_is : (x : JsEntry-F JsExpr JsHead JsSelector JsStmt JsEntry JsFunction JsPrimary) → entry_without_places (roll-JsEntry x) ≡ entry_of (entry_bared x)
entry_bare_is = fold-roll-JsEntry JsExpr JsHead JsSelector JsStmt JsEntry JsFunction JsPrimary expr_of head_of selector_of stmt_of entry_of function_of primary_of

pub function_bare_is : (x : JsFunction-F JsExpr JsHead JsSelector JsStmt JsEntry JsFunction JsPrimary) → function_without_places (roll-JsFunction x) ≡ function_of (function_bared x)
function_bare_is = fold-roll-JsFunction JsExpr JsHead JsSelector JsStmt JsEntry JsFunction JsPrimary expr_of head_of selector_of stmt_of entry_of function_of primary_of

pub primary_bare_is : (x : JsPrimary-F JsExpr JsHead JsSelector JsStmt JsEntry JsFunction JsPrimary) → primary_without_places (roll-JsPrimary x) ≡ primary_of (primary_bared x)
primary_bare_is = fold-roll-JsPrimary JsExpr JsHead JsSelector JsStmt JsEntry JsFunction JsPrimary expr_of head_of selector_of stmt_of entry_of function_of primary_of

rolled_expr : (x : JsExpr-F JsExpr JsHead JsSelector JsStmt JsEntry JsFunction JsPrimary) {a : JsExpr} → roll-JsExpr x ≡ a → expr_without_places a ≡ expr_of (expr_bared x)
rolled_expr x rolls = ap expr_without_places (sym rolls) ∙ expr_bare_is x

rolled_head : (x : JsHead-F JsExpr JsHead JsSelector JsStmt JsEntry JsFunction JsPrimary) {a : JsHead} → roll-JsHead x ≡ a → head_without_places a ≡ head_of (head_bared x)
rolled_head x rolls = ap head_without_places (sym rolls) ∙ head_bare_is x

rolled_selector : (x : JsSelector-F JsExpr JsHead JsSelector JsStmt JsEntry JsFunction JsPrimary) {a : JsSelector} → roll-JsSelector x ≡ a → selector_without_places a ≡ selector_of (selector_bared x)
rolled_selector x rolls = ap selector_without_places (sym rolls) ∙ selector_bare_is x

rolled_stmt : (x : JsStmt-F JsExpr JsHead JsSelector JsStmt JsEntry JsFunction JsPrimary) {a : JsStmt} → roll-JsStmt x ≡ a → stmt_without_places a ≡ stmt_of (stmt_bared x)
rolled_stmt x rolls = ap stmt_without_places (sym rolls) ∙ stmt_bare_is x

-- ---- JsExpr

pub primary_same : (a : JsPrimary) → expr_without_places (e.Primary a) ≡ e.Primary (primary_without_places a)
primary_same a = rolled_expr (JsExpr-F.Primary a) (e.rolls-Primary a)

pub binary_same : (o : JsOperator) (a b : JsPrimary) → expr_without_places (e.Binary o a b) ≡ e.Binary o (primary_without_places a) (primary_without_places b)
binary_same o a b = rolled_expr (JsExpr-F.Binary o a b) (e.rolls-Binary o a b)

pub type_of_same : (a : JsPrimary) → expr_without_places (e.TypeOf a) ≡ e.TypeOf (primary_without_places a)
type_of_same a = rolled_expr (JsExpr-F.TypeOf a) (e.rolls-TypeOf a)

pub function_same : (f : JsFunction) → expr_without_places (e.Function f) ≡ e.Function (function_without_places f)
function_same f = rolled_expr (JsExpr-F.Function f) (e.rolls-Function f)

pub array_same : (xs : List JsExpr) → expr_without_places (e.Array xs) ≡ e.Array (map expr_without_places xs)
array_same xs = rolled_expr (JsExpr-F.Array xs) (e.rolls-Array xs)

pub object_same : (xs : List JsEntry) → expr_without_places (e.Object xs) ≡ e.Object (map entry_without_places xs)
object_same xs = rolled_expr (JsExpr-F.Object xs) (e.rolls-Object xs)

-- ---- JsHead

pub string_of_same : (args : List JsExpr) → head_without_places (h.StringOf args) ≡ h.StringOf (map expr_without_places args)
string_of_same args = rolled_head (JsHead-F.StringOf args) (h.rolls-StringOf args)

pub is_array_same : (args : List JsExpr) → head_without_places (h.IsArray args) ≡ h.IsArray (map expr_without_places args)
is_array_same args = rolled_head (JsHead-F.IsArray args) (h.rolls-IsArray args)

pub array_from_same : (args : List JsExpr) → head_without_places (h.ArrayFrom args) ≡ h.ArrayFrom (map expr_without_places args)
array_from_same args = rolled_head (JsHead-F.ArrayFrom args) (h.rolls-ArrayFrom args)

-- ---- JsSelector

pub index_same : (a : JsExpr) → selector_without_places (l.Index a) ≡ l.Index (expr_without_places a)
index_same a = rolled_selector (JsSelector-F.Index a) (l.rolls-Index a)

pub call_same : (args : List JsExpr) → selector_without_places (l.Call args) ≡ l.Call (map expr_without_places args)
call_same args = rolled_selector (JsSelector-F.Call args) (l.rolls-Call args)

pub method_same : (m : JsMember) (args : List JsExpr) → selector_without_places (l.Method m args) ≡ l.Method m (map expr_without_places args)
method_same m args = rolled_selector (JsSelector-F.Method m args) (l.rolls-Method m args)

-- ---- JsStmt

pub let_same : (at : ℕ) (x : Bytes) (a : JsExpr) → stmt_without_places (s.Let at x a) ≡ s.Let 0 x (expr_without_places a)
let_same at x a = rolled_stmt (JsStmt-F.Let at x a) (s.rolls-Let at x a)

pub assign_same : (at : ℕ) (x : Bytes) (a : JsExpr) → stmt_without_places (s.Assign at x a) ≡ s.Assign 0 x (expr_without_places a)
assign_same at x a = rolled_stmt (JsStmt-F.Assign at x a) (s.rolls-Assign at x a)

pub store_same : (at : ℕ) (a : JsPrimary) (b c : JsExpr) → stmt_without_places (s.Store at a b c) ≡ s.Store 0 (primary_without_places a) (expr_without_places b) (expr_without_places c)
store_same at a b c = rolled_stmt (JsStmt-F.Store at a b c) (s.rolls-Store at a b c)

pub perform_same : (at : ℕ) (a : JsPrimary) → stmt_without_places (s.Perform at a) ≡ s.Perform 0 (primary_without_places a)
perform_same at a = rolled_stmt (JsStmt-F.Perform at a) (s.rolls-Perform at a)

pub if_same : (at : ℕ) (a : JsExpr) (xs : List JsStmt) → stmt_without_places (s.If at a xs) ≡ s.If 0 (expr_without_places a) (map stmt_without_places xs)
if_same at a xs = rolled_stmt (JsStmt-F.If at a xs) (s.rolls-If at a xs)

pub if_else_same : (at : ℕ) (a : JsExpr) (xs ys : List JsStmt) → stmt_without_places (s.IfElse at a xs ys) ≡ s.IfElse 0 (expr_without_places a) (map stmt_without_places xs) (map stmt_without_places ys)
if_else_same at a xs ys = rolled_stmt (JsStmt-F.IfElse at a xs ys) (s.rolls-IfElse at a xs ys)

pub loop_same : (at : ℕ) (xs : List JsStmt) → stmt_without_places (s.Loop at xs) ≡ s.Loop 0 (map stmt_without_places xs)
loop_same at xs = rolled_stmt (JsStmt-F.Loop at xs) (s.rolls-Loop at xs)

pub labelled_same : (at : ℕ) (x : Bytes) (xs : List JsStmt) → stmt_without_places (s.Labelled at x xs) ≡ s.Labelled 0 x (map stmt_without_places xs)
labelled_same at x xs = rolled_stmt (JsStmt-F.Labelled at x xs) (s.rolls-Labelled at x xs)

pub break_same : (at : ℕ) (x : Bytes) → stmt_without_places (s.Break at x) ≡ s.Break 0 x
break_same at x = rolled_stmt (JsStmt-F.Break at x) (s.rolls-Break at x)

pub return_same : (at : ℕ) (a : JsExpr) → stmt_without_places (s.Return at a) ≡ s.Return 0 (expr_without_places a)
return_same at a = rolled_stmt (JsStmt-F.Return at a) (s.rolls-Return at a)

pub throw_same : (at : ℕ) (a : JsExpr) → stmt_without_places (s.Throw at a) ≡ s.Throw 0 (expr_without_places a)
throw_same at a = rolled_stmt (JsStmt-F.Throw at a) (s.rolls-Throw at a)

pub try_catch_same : (at : ℕ) (xs : List JsStmt) (x : Bytes) (ys : List JsStmt) → stmt_without_places (s.TryCatch at xs x ys) ≡ s.TryCatch 0 (map stmt_without_places xs) x (map stmt_without_places ys)
try_catch_same at xs x ys = rolled_stmt (JsStmt-F.TryCatch at xs x ys) (s.rolls-TryCatch at xs x ys)

pub try_finally_same : (at : ℕ) (xs ys : List JsStmt) → stmt_without_places (s.TryFinally at xs ys) ≡ s.TryFinally 0 (map stmt_without_places xs) (map stmt_without_places ys)
try_finally_same at xs ys = rolled_stmt (JsStmt-F.TryFinally at xs ys) (s.rolls-TryFinally at xs ys)

-- ---- structs

pub same_primary : (a : JsPrimary) → primary_without_places a ≡ record { head = head_without_places a.head; selectors = map selector_without_places a.selectors }
same_primary = fold_out-JsPrimary JsExpr JsHead JsSelector JsStmt JsEntry JsFunction JsPrimary expr_of head_of selector_of stmt_of entry_of function_of primary_of

pub same_entry : (a : JsEntry) → entry_without_places a ≡ record { key = a.key; value = expr_without_places a.value }
same_entry = fold_out-JsEntry JsExpr JsHead JsSelector JsStmt JsEntry JsFunction JsPrimary expr_of head_of selector_of stmt_of entry_of function_of primary_of

pub same_function : (f : JsFunction) → function_without_places f ≡ record { parameters = f.parameters; body = map stmt_without_places f.body }
same_function = fold_out-JsFunction JsExpr JsHead JsSelector JsStmt JsEntry JsFunction JsPrimary expr_of head_of selector_of stmt_of entry_of function_of primary_of
