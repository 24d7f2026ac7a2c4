-- What each expression does: the forms, one inside the other.
use Rattle.std.specs.Prelude.{true, false}
use Rattle.js_tree.specs.declared.tree.JsExpr.{JsExpr, roll-JsExpr, fold-JsExpr}
use Rattle.js_tree.specs.declared.tree.JsHead.{JsHead, roll-JsHead, fold-JsHead}
use Rattle.js_tree.specs.declared.tree.JsSelector.{JsSelector, roll-JsSelector, fold-JsSelector}
use Rattle.js_tree.specs.declared.tree.JsPrimary.{JsPrimary, roll-JsPrimary, fold-JsPrimary}
use Rattle.js_tree.specs.declared.tree.JsFunction.{JsFunction, roll-JsFunction, fold-JsFunction}
use Rattle.js_tree.specs.declared.tree.JsEntry.{JsEntry, roll-JsEntry, fold-JsEntry}
use Rattle.js_tree.specs.declared.tree.JsStmt.{JsStmt, roll-JsStmt, fold-JsStmt}
use Rattle.js_tree.specs.declared.tree.JsExpr.TheOpen.{JsExpr-F, JsHead-F, JsSelector-F, JsStmt-F, JsEntry-F, JsFunction-F, JsPrimary-F}
use Rattle.js_tree.specs.declared.tree.JsExpr.TheFolds.{map-JsExpr, map-JsHead, map-JsSelector, map-JsStmt, map-JsEntry, map-JsFunction, map-JsPrimary}
use Rattle.js_store.specs.declared.value.Value.{Value}
use Rattle.js_store.specs.declared.value.Value.TheVariants.{Undefined, Null, Str}
use Rattle.js_meaning.specs.declared.state.Here.{Here}
use Rattle.js_meaning.specs.declared.state.Callee.TheVariants.{Applied, StringOf, IsArray, ArrayFrom, Method}
use Rattle.js_meaning.specs.Prog.{Prog, ◌>>=◌, pure}
use Rattle.js_meaning.specs.Parts.{Part, Expr, Head, Selector, Primary, Entry, Evaluates, Selects, selected}
use Rattle.js_meaning.specs.Operators.{truth}
use Rattle.js_meaning.specs.Stored.{map_value}
use Rattle.js_meaning.specs.Expressions.{name, digits, negative, calls, index, member, binary, type_of, function, array, object}

-- ---- what each form does

abbrev pub head_does : JsHead-F Expr Head Selector JsStmt Entry JsFunction Primary → Evaluates
head_does (JsHead-F.Name x) here = name here x
head_does (JsHead-F.Digits n) here = digits n
head_does (JsHead-F.Negative n) here = negative n
head_does (JsHead-F.Str us) here = pure (Str us)
head_does JsHead-F.Null here = pure Null
head_does JsHead-F.Undefined here = pure Undefined
head_does JsHead-F.True here = truth true
head_does JsHead-F.False here = truth false
head_does (JsHead-F.StringOf es) here = calls here StringOf es
head_does (JsHead-F.IsArray es) here = calls here IsArray es
head_does (JsHead-F.ArrayFrom es) here = calls here ArrayFrom es

abbrev pub selector_does : JsSelector-F Expr Head Selector JsStmt Entry JsFunction Primary → Selects
selector_does (JsSelector-F.Index e) here v = index here v (e.does here)
selector_does (JsSelector-F.Call es) here v = calls here (Applied v) es
selector_does (JsSelector-F.Member m) here v = member here v m
selector_does (JsSelector-F.Method m es) here v = calls here (Method v m) es

-- the head, and then each selector behind it
abbrev pub primary_does : JsPrimary-F Expr Head Selector JsStmt Entry JsFunction Primary → Evaluates
primary_does p here = p.head.does here >>= (λ v. selected here v p.selectors)

abbrev pub expr_does : JsExpr-F Expr Head Selector JsStmt Entry JsFunction Primary → Evaluates
expr_does (JsExpr-F.Primary p) here = p.does here
expr_does (JsExpr-F.Binary operator a b) here = binary here operator (a.does here) (b.does here)
expr_does (JsExpr-F.TypeOf p) here = type_of (p.does here)
expr_does (JsExpr-F.Function f) here = function here f
expr_does JsExpr-F.NewMap here = map_value
expr_does (JsExpr-F.Array es) here = array here es
expr_does (JsExpr-F.Object es) here = object here es

-- ---- and its tree

abbrev pub expr_tree : JsExpr-F Expr Head Selector JsStmt Entry JsFunction Primary → JsExpr
expr_tree x = roll-JsExpr (map-JsExpr Expr Head Selector JsStmt Entry JsFunction Primary JsExpr JsHead JsSelector JsStmt JsEntry JsFunction JsPrimary (λ y. y.tree) (λ y. y.tree) (λ y. y.tree) (λ y. y) (λ y. y.tree) (λ y. y) (λ y. y.tree) x)

abbrev pub head_tree : JsHead-F Expr Head Selector JsStmt Entry JsFunction Primary → JsHead
head_tree x = roll-JsHead (map-JsHead Expr Head Selector JsStmt Entry JsFunction Primary JsExpr JsHead JsSelector JsStmt JsEntry JsFunction JsPrimary (λ y. y.tree) (λ y. y.tree) (λ y. y.tree) (λ y. y) (λ y. y.tree) (λ y. y) (λ y. y.tree) x)

abbrev pub selector_tree : JsSelector-F Expr Head Selector JsStmt Entry JsFunction Primary → JsSelector
selector_tree x = roll-JsSelector (map-JsSelector Expr Head Selector JsStmt Entry JsFunction Primary JsExpr JsHead JsSelector JsStmt JsEntry JsFunction JsPrimary (λ y. y.tree) (λ y. y.tree) (λ y. y.tree) (λ y. y) (λ y. y.tree) (λ y. y) (λ y. y.tree) x)

abbrev pub stmt_tree : JsStmt-F Expr Head Selector JsStmt Entry JsFunction Primary → JsStmt
stmt_tree x = roll-JsStmt (map-JsStmt Expr Head Selector JsStmt Entry JsFunction Primary JsExpr JsHead JsSelector JsStmt JsEntry JsFunction JsPrimary (λ y. y.tree) (λ y. y.tree) (λ y. y.tree) (λ y. y) (λ y. y.tree) (λ y. y) (λ y. y.tree) x)

abbrev pub entry_tree : JsEntry-F Expr Head Selector JsStmt Entry JsFunction Primary → JsEntry
entry_tree x = roll-JsEntry (map-JsEntry Expr Head Selector JsStmt Entry JsFunction Primary JsExpr JsHead JsSelector JsStmt JsEntry JsFunction JsPrimary (λ y. y.tree) (λ y. y.tree) (λ y. y.tree) (λ y. y) (λ y. y.tree) (λ y. y) (λ y. y.tree) x)

abbrev pub function_tree : JsFunction-F Expr Head Selector JsStmt Entry JsFunction Primary → JsFunction
function_tree x = roll-JsFunction (map-JsFunction Expr Head Selector JsStmt Entry JsFunction Primary JsExpr JsHead JsSelector JsStmt JsEntry JsFunction JsPrimary (λ y. y.tree) (λ y. y.tree) (λ y. y.tree) (λ y. y) (λ y. y.tree) (λ y. y) (λ y. y.tree) x)

abbrev pub primary_tree : JsPrimary-F Expr Head Selector JsStmt Entry JsFunction Primary → JsPrimary
primary_tree x = roll-JsPrimary (map-JsPrimary Expr Head Selector JsStmt Entry JsFunction Primary JsExpr JsHead JsSelector JsStmt JsEntry JsFunction JsPrimary (λ y. y.tree) (λ y. y.tree) (λ y. y.tree) (λ y. y) (λ y. y.tree) (λ y. y) (λ y. y.tree) x)

-- ---- trees; the tree of a part is the one that it was made of

abbrev pub expr_part : JsExpr-F Expr Head Selector JsStmt Entry JsFunction Primary → Expr
expr_part x = record { tree = expr_tree x; does = expr_does x }

abbrev pub head_part : JsHead-F Expr Head Selector JsStmt Entry JsFunction Primary → Head
head_part x = record { tree = head_tree x; does = head_does x }

abbrev pub selector_part : JsSelector-F Expr Head Selector JsStmt Entry JsFunction Primary → Selector
selector_part x = record { tree = selector_tree x; does = selector_does x }

abbrev pub entry_part : JsEntry-F Expr Head Selector JsStmt Entry JsFunction Primary → Entry
entry_part x = record { tree = entry_tree x; does = x.value.does }

abbrev pub primary_part : JsPrimary-F Expr Head Selector JsStmt Entry JsFunction Primary → Primary
primary_part x = record { tree = primary_tree x; does = primary_does x }

abbrev pub expr : JsExpr → Expr
expr = fold-JsExpr Expr Head Selector JsStmt Entry JsFunction Primary expr_part head_part selector_part stmt_tree entry_part function_tree primary_part

abbrev pub head : JsHead → Head
head = fold-JsHead Expr Head Selector JsStmt Entry JsFunction Primary expr_part head_part selector_part stmt_tree entry_part function_tree primary_part

abbrev pub selector : JsSelector → Selector
selector = fold-JsSelector Expr Head Selector JsStmt Entry JsFunction Primary expr_part head_part selector_part stmt_tree entry_part function_tree primary_part

abbrev pub entry : JsEntry → Entry
entry = fold-JsEntry Expr Head Selector JsStmt Entry JsFunction Primary expr_part head_part selector_part stmt_tree entry_part function_tree primary_part

abbrev pub primary : JsPrimary → Primary
primary = fold-JsPrimary Expr Head Selector JsStmt Entry JsFunction Primary expr_part head_part selector_part stmt_tree entry_part function_tree primary_part
