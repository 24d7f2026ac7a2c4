-- Trees that differ in their places alone.
use Rattle.std.specs.Prelude.{◌≡◌, map}
use Rattle.js_tree.specs.declared.tree.JsExpr.{JsExpr, fold-JsExpr}
use Rattle.js_tree.specs.declared.tree.JsExpr.TheVariants as e
use Rattle.js_tree.specs.declared.tree.JsHead.{JsHead, fold-JsHead}
use Rattle.js_tree.specs.declared.tree.JsHead.TheVariants as h
use Rattle.js_tree.specs.declared.tree.JsSelector.{JsSelector, fold-JsSelector}
use Rattle.js_tree.specs.declared.tree.JsSelector.TheVariants as l
use Rattle.js_tree.specs.declared.tree.JsPrimary.{JsPrimary, fold-JsPrimary}
use Rattle.js_tree.specs.declared.tree.JsFunction.{JsFunction, fold-JsFunction}
use Rattle.js_tree.specs.declared.tree.JsEntry.{JsEntry, fold-JsEntry}
use Rattle.js_tree.specs.declared.tree.JsStmt.{JsStmt, fold-JsStmt}
use Rattle.js_tree.specs.declared.tree.JsStmt.TheVariants as s
use Rattle.js_tree.specs.declared.tree.JsExpr.TheOpen.{JsExpr-F, JsHead-F, JsSelector-F, JsStmt-F, JsEntry-F, JsFunction-F, JsPrimary-F}
use Rattle.js_tree.specs.declared.tree.JsItem.{JsItem}
use Rattle.js_tree.specs.declared.tree.JsItem.TheVariants.{Declared, Var, Statement}
use Rattle.js_tree.specs.declared.tree.JsFile.{JsFile}

-- ---- each form with its parts as they are, and a statement at the place 0

abbrev pub expr_of : JsExpr-F JsExpr JsHead JsSelector JsStmt JsEntry JsFunction JsPrimary → JsExpr
expr_of (JsExpr-F.Primary a) = e.Primary a
expr_of (JsExpr-F.Binary o a b) = e.Binary o a b
expr_of (JsExpr-F.TypeOf a) = e.TypeOf a
expr_of (JsExpr-F.Function f) = e.Function f
expr_of JsExpr-F.NewMap = e.NewMap
expr_of (JsExpr-F.Array xs) = e.Array xs
expr_of (JsExpr-F.Object xs) = e.Object xs

abbrev pub head_of : JsHead-F JsExpr JsHead JsSelector JsStmt JsEntry JsFunction JsPrimary → JsHead
head_of (JsHead-F.Name x) = h.Name x
head_of (JsHead-F.Digits n) = h.Digits n
head_of (JsHead-F.Negative n) = h.Negative n
head_of (JsHead-F.Str us) = h.Str us
head_of JsHead-F.Null = h.Null
head_of JsHead-F.Undefined = h.Undefined
head_of JsHead-F.True = h.True
head_of JsHead-F.False = h.False
head_of (JsHead-F.StringOf args) = h.StringOf args
head_of (JsHead-F.IsArray args) = h.IsArray args
head_of (JsHead-F.ArrayFrom args) = h.ArrayFrom args

abbrev pub selector_of : JsSelector-F JsExpr JsHead JsSelector JsStmt JsEntry JsFunction JsPrimary → JsSelector
selector_of (JsSelector-F.Index a) = l.Index a
selector_of (JsSelector-F.Call args) = l.Call args
selector_of (JsSelector-F.Member m) = l.Member m
selector_of (JsSelector-F.Method m args) = l.Method m args

abbrev pub stmt_of : JsStmt-F JsExpr JsHead JsSelector JsStmt JsEntry JsFunction JsPrimary → JsStmt
stmt_of (JsStmt-F.Let at x a) = s.Let 0 x a
stmt_of (JsStmt-F.Assign at x a) = s.Assign 0 x a
stmt_of (JsStmt-F.Store at a b c) = s.Store 0 a b c
stmt_of (JsStmt-F.Perform at a) = s.Perform 0 a
stmt_of (JsStmt-F.If at a xs) = s.If 0 a xs
stmt_of (JsStmt-F.IfElse at a xs ys) = s.IfElse 0 a xs ys
stmt_of (JsStmt-F.Loop at xs) = s.Loop 0 xs
stmt_of (JsStmt-F.Labelled at x xs) = s.Labelled 0 x xs
stmt_of (JsStmt-F.Break at x) = s.Break 0 x
stmt_of (JsStmt-F.Return at a) = s.Return 0 a
stmt_of (JsStmt-F.Throw at a) = s.Throw 0 a
stmt_of (JsStmt-F.TryCatch at xs x ys) = s.TryCatch 0 xs x ys
stmt_of (JsStmt-F.TryFinally at xs ys) = s.TryFinally 0 xs ys

abbrev pub entry_of : JsEntry-F JsExpr JsHead JsSelector JsStmt JsEntry JsFunction JsPrimary → JsEntry
entry_of a = record { key = a.key; value = a.value }

abbrev pub function_of : JsFunction-F JsExpr JsHead JsSelector JsStmt JsEntry JsFunction JsPrimary → JsFunction
function_of f = record { parameters = f.parameters; body = f.body }

abbrev pub primary_of : JsPrimary-F JsExpr JsHead JsSelector JsStmt JsEntry JsFunction JsPrimary → JsPrimary
primary_of a = record { head = a.head; selectors = a.selectors }

-- ---- the tree with every place at 0

abbrev pub expr_without_places : JsExpr → JsExpr
expr_without_places = fold-JsExpr JsExpr JsHead JsSelector JsStmt JsEntry JsFunction JsPrimary expr_of head_of selector_of stmt_of entry_of function_of primary_of

abbrev pub head_without_places : JsHead → JsHead
head_without_places = fold-JsHead JsExpr JsHead JsSelector JsStmt JsEntry JsFunction JsPrimary expr_of head_of selector_of stmt_of entry_of function_of primary_of

abbrev pub selector_without_places : JsSelector → JsSelector
selector_without_places = fold-JsSelector JsExpr JsHead JsSelector JsStmt JsEntry JsFunction JsPrimary expr_of head_of selector_of stmt_of entry_of function_of primary_of

abbrev pub primary_without_places : JsPrimary → JsPrimary
primary_without_places = fold-JsPrimary JsExpr JsHead JsSelector JsStmt JsEntry JsFunction JsPrimary expr_of head_of selector_of stmt_of entry_of function_of primary_of

abbrev pub entry_without_places : JsEntry → JsEntry
entry_without_places = fold-JsEntry JsExpr JsHead JsSelector JsStmt JsEntry JsFunction JsPrimary expr_of head_of selector_of stmt_of entry_of function_of primary_of

abbrev pub function_without_places : JsFunction → JsFunction
function_without_places = fold-JsFunction JsExpr JsHead JsSelector JsStmt JsEntry JsFunction JsPrimary expr_of head_of selector_of stmt_of entry_of function_of primary_of

abbrev pub stmt_without_places : JsStmt → JsStmt
stmt_without_places = fold-JsStmt JsExpr JsHead JsSelector JsStmt JsEntry JsFunction JsPrimary expr_of head_of selector_of stmt_of entry_of function_of primary_of

abbrev pub item_without_places : JsItem → JsItem
item_without_places (Declared x f) = Declared x (function_without_places f)
item_without_places (Var at x a) = Var 0 x (expr_without_places a)
item_without_places (Statement a) = Statement (stmt_without_places a)

pub record SameTree (file other : JsFile) : Type 0 where
  pub same : map item_without_places file.items ≡ map item_without_places other.items
