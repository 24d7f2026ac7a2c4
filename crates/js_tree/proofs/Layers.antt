-- The text of each form from the texts of its parts.
use Rattle.std.proofs.Common.{◌≡◌, ℕ, List, ◌++◌, map, sym, ap, ◌∙◌}
use Rattle.std.specs.Prelude.{codes}
use Rattle.std.specs.Fmt.{decimal}
use Rattle.js_tree.specs.declared.tree.JsExpr.{JsExpr, roll-JsExpr, fold-roll-JsExpr}
use Rattle.js_tree.specs.declared.tree.JsExpr.TheVariants as e
use Rattle.js_tree.specs.declared.tree.JsExpr.TheOpen.{JsExpr-F, JsHead-F, JsSelector-F, JsStmt-F, JsEntry-F, JsFunction-F, JsPrimary-F}
use Rattle.js_tree.specs.declared.tree.JsExpr.TheFolds.{map-JsExpr, map-JsHead, map-JsSelector, map-JsStmt, map-JsEntry, map-JsFunction, map-JsPrimary}
use Rattle.js_tree.specs.declared.tree.JsHead.{JsHead, roll-JsHead, fold-roll-JsHead}
use Rattle.js_tree.specs.declared.tree.JsHead.TheVariants as h
use Rattle.js_tree.specs.declared.tree.JsSelector.{JsSelector, roll-JsSelector, fold-roll-JsSelector}
use Rattle.js_tree.specs.declared.tree.JsSelector.TheVariants as l
use Rattle.js_tree.specs.declared.tree.JsPrimary.{JsPrimary, roll-JsPrimary, fold-roll-JsPrimary, fold_out-JsPrimary}
use Rattle.js_tree.specs.declared.tree.JsEntry.{JsEntry, roll-JsEntry, fold-roll-JsEntry, fold_out-JsEntry}
use Rattle.js_tree.specs.declared.tree.JsFunction.{JsFunction, roll-JsFunction, fold-roll-JsFunction, fold_out-JsFunction}
use Rattle.js_tree.specs.declared.tree.JsStmt.{JsStmt, roll-JsStmt, fold-roll-JsStmt}
use Rattle.js_tree.specs.declared.tree.JsStmt.TheVariants as s
use Rattle.js_tree.specs.declared.words.JsMember.{JsMember}
use Rattle.js_tree.specs.declared.words.JsOperator.{JsOperator}
use Rattle.js_tree.specs.Words.{member_text, operator_text}
use Rattle.js_tree.specs.Tokens.{Bytes}
use Rattle.js_tree.specs.Text.{joined, separated, string_text, arguments_text, block_text, function_text, line, expr_text, head_text, selector_text, stmt_text, entry_text, code_text, primary_text, text_of_expr, text_of_head, text_of_selector, text_of_primary, text_of_entry, text_of_function, text_of_stmt}

-- ---- a form with the texts of its parts

abbrev pub expr_read : JsExpr-F JsExpr JsHead JsSelector JsStmt JsEntry JsFunction JsPrimary → JsExpr-F Bytes Bytes Bytes Bytes Bytes Bytes Bytes
expr_read = map-JsExpr JsExpr JsHead JsSelector JsStmt JsEntry JsFunction JsPrimary Bytes Bytes Bytes Bytes Bytes Bytes Bytes text_of_expr text_of_head text_of_selector text_of_stmt text_of_entry text_of_function text_of_primary

abbrev pub head_read : JsHead-F JsExpr JsHead JsSelector JsStmt JsEntry JsFunction JsPrimary → JsHead-F Bytes Bytes Bytes Bytes Bytes Bytes Bytes
head_read = map-JsHead JsExpr JsHead JsSelector JsStmt JsEntry JsFunction JsPrimary Bytes Bytes Bytes Bytes Bytes Bytes Bytes text_of_expr text_of_head text_of_selector text_of_stmt text_of_entry text_of_function text_of_primary

abbrev pub selector_read : JsSelector-F JsExpr JsHead JsSelector JsStmt JsEntry JsFunction JsPrimary → JsSelector-F Bytes Bytes Bytes Bytes Bytes Bytes Bytes
selector_read = map-JsSelector JsExpr JsHead JsSelector JsStmt JsEntry JsFunction JsPrimary Bytes Bytes Bytes Bytes Bytes Bytes Bytes text_of_expr text_of_head text_of_selector text_of_stmt text_of_entry text_of_function text_of_primary

abbrev pub stmt_read : JsStmt-F JsExpr JsHead JsSelector JsStmt JsEntry JsFunction JsPrimary → JsStmt-F Bytes Bytes Bytes Bytes Bytes Bytes Bytes
stmt_read = map-JsStmt JsExpr JsHead JsSelector JsStmt JsEntry JsFunction JsPrimary Bytes Bytes Bytes Bytes Bytes Bytes Bytes text_of_expr text_of_head text_of_selector text_of_stmt text_of_entry text_of_function text_of_primary

abbrev pub entry_read : JsEntry-F JsExpr JsHead JsSelector JsStmt JsEntry JsFunction JsPrimary → JsEntry-F Bytes Bytes Bytes Bytes Bytes Bytes Bytes
entry_read = map-JsEntry JsExpr JsHead JsSelector JsStmt JsEntry JsFunction JsPrimary Bytes Bytes Bytes Bytes Bytes Bytes Bytes text_of_expr text_of_head text_of_selector text_of_stmt text_of_entry text_of_function text_of_primary

abbrev pub function_read : JsFunction-F JsExpr JsHead JsSelector JsStmt JsEntry JsFunction JsPrimary → JsFunction-F Bytes Bytes Bytes Bytes Bytes Bytes Bytes
function_read = map-JsFunction JsExpr JsHead JsSelector JsStmt JsEntry JsFunction JsPrimary Bytes Bytes Bytes Bytes Bytes Bytes Bytes text_of_expr text_of_head text_of_selector text_of_stmt text_of_entry text_of_function text_of_primary

abbrev pub primary_read : JsPrimary-F JsExpr JsHead JsSelector JsStmt JsEntry JsFunction JsPrimary → JsPrimary-F Bytes Bytes Bytes Bytes Bytes Bytes Bytes
primary_read = map-JsPrimary JsExpr JsHead JsSelector JsStmt JsEntry JsFunction JsPrimary Bytes Bytes Bytes Bytes Bytes Bytes Bytes text_of_expr text_of_head text_of_selector text_of_stmt text_of_entry text_of_function text_of_primary

pub expr_text_is : (x : JsExpr-F JsExpr JsHead JsSelector JsStmt JsEntry JsFunction JsPrimary) → text_of_expr (roll-JsExpr x) ≡ expr_text (expr_read x)
expr_text_is = fold-roll-JsExpr Bytes Bytes Bytes Bytes Bytes Bytes Bytes expr_text head_text selector_text stmt_text entry_text code_text primary_text

pub head_text_is : (x : JsHead-F JsExpr JsHead JsSelector JsStmt JsEntry JsFunction JsPrimary) → text_of_head (roll-JsHead x) ≡ head_text (head_read x)
head_text_is = fold-roll-JsHead Bytes Bytes Bytes Bytes Bytes Bytes Bytes expr_text head_text selector_text stmt_text entry_text code_text primary_text

pub selector_text_is : (x : JsSelector-F JsExpr JsHead JsSelector JsStmt JsEntry JsFunction JsPrimary) → text_of_selector (roll-JsSelector x) ≡ selector_text (selector_read x)
selector_text_is = fold-roll-JsSelector Bytes Bytes Bytes Bytes Bytes Bytes Bytes expr_text head_text selector_text stmt_text entry_text code_text primary_text

pub stmt_text_is : (x : JsStmt-F JsExpr JsHead JsSelector JsStmt JsEntry JsFunction JsPrimary) → text_of_stmt (roll-JsStmt x) ≡ stmt_text (stmt_read x)
stmt_text_is = fold-roll-JsStmt Bytes Bytes Bytes Bytes Bytes Bytes Bytes expr_text head_text selector_text stmt_text entry_text code_text primary_text

pub entry_text_is : (x : JsEntry-F JsExpr JsHead JsSelector JsStmt JsEntry JsFunction JsPrimary) → text_of_entry (roll-JsEntry x) ≡ entry_text (entry_read x)
entry_text_is = fold-roll-JsEntry Bytes Bytes Bytes Bytes Bytes Bytes Bytes expr_text head_text selector_text stmt_text entry_text code_text primary_text

pub function_text_is : (x : JsFunction-F JsExpr JsHead JsSelector JsStmt JsEntry JsFunction JsPrimary) → text_of_function (roll-JsFunction x) ≡ code_text (function_read x)
function_text_is = fold-roll-JsFunction Bytes Bytes Bytes Bytes Bytes Bytes Bytes expr_text head_text selector_text stmt_text entry_text code_text primary_text

pub primary_text_is : (x : JsPrimary-F JsExpr JsHead JsSelector JsStmt JsEntry JsFunction JsPrimary) → text_of_primary (roll-JsPrimary x) ≡ primary_text (primary_read x)
primary_text_is = fold-roll-JsPrimary Bytes Bytes Bytes Bytes Bytes Bytes Bytes expr_text head_text selector_text stmt_text entry_text code_text primary_text

rolled_expr : (x : JsExpr-F JsExpr JsHead JsSelector JsStmt JsEntry JsFunction JsPrimary) {a : JsExpr} → roll-JsExpr x ≡ a → text_of_expr a ≡ expr_text (expr_read x)
rolled_expr x rolls = ap text_of_expr (sym rolls) ∙ expr_text_is x

rolled_head : (x : JsHead-F JsExpr JsHead JsSelector JsStmt JsEntry JsFunction JsPrimary) {a : JsHead} → roll-JsHead x ≡ a → text_of_head a ≡ head_text (head_read x)
rolled_head x rolls = ap text_of_head (sym rolls) ∙ head_text_is x

rolled_selector : (x : JsSelector-F JsExpr JsHead JsSelector JsStmt JsEntry JsFunction JsPrimary) {a : JsSelector} → roll-JsSelector x ≡ a → text_of_selector a ≡ selector_text (selector_read x)
rolled_selector x rolls = ap text_of_selector (sym rolls) ∙ selector_text_is x

rolled_stmt : (x : JsStmt-F JsExpr JsHead JsSelector JsStmt JsEntry JsFunction JsPrimary) {a : JsStmt} → roll-JsStmt x ≡ a → text_of_stmt a ≡ stmt_text (stmt_read x)
rolled_stmt x rolls = ap text_of_stmt (sym rolls) ∙ stmt_text_is x

-- ---- JsExpr

pub primary_layer : (a : JsPrimary) → text_of_expr (e.Primary a) ≡ text_of_primary a
primary_layer a = rolled_expr (JsExpr-F.Primary a) (e.rolls-Primary a)

pub binary_layer : (o : JsOperator) (a b : JsPrimary) → text_of_expr (e.Binary o a b) ≡ text_of_primary a ++ (codes " " ++ (operator_text o ++ (codes " " ++ text_of_primary b)))
binary_layer o a b = rolled_expr (JsExpr-F.Binary o a b) (e.rolls-Binary o a b)

pub type_of_layer : (a : JsPrimary) → text_of_expr (e.TypeOf a) ≡ codes "typeof " ++ text_of_primary a
type_of_layer a = rolled_expr (JsExpr-F.TypeOf a) (e.rolls-TypeOf a)

pub function_layer : (f : JsFunction) → text_of_expr (e.Function f) ≡ codes "function " ++ text_of_function f
function_layer f = rolled_expr (JsExpr-F.Function f) (e.rolls-Function f)

pub new_map_layer : text_of_expr e.NewMap ≡ codes "new Map()"
new_map_layer = rolled_expr JsExpr-F.NewMap e.rolls-NewMap

pub array_layer : (xs : List JsExpr) → text_of_expr (e.Array xs) ≡ codes "[" ++ (separated (map text_of_expr xs) ++ codes "]")
array_layer xs = rolled_expr (JsExpr-F.Array xs) (e.rolls-Array xs)

pub object_layer : (xs : List JsEntry) → text_of_expr (e.Object xs) ≡ codes "{" ++ (separated (map text_of_entry xs) ++ codes "}")
object_layer xs = rolled_expr (JsExpr-F.Object xs) (e.rolls-Object xs)

-- ---- JsHead

pub name_layer : (x : Bytes) → text_of_head (h.Name x) ≡ x
name_layer x = rolled_head (JsHead-F.Name x) (h.rolls-Name x)

pub digits_layer : (n : ℕ) → text_of_head (h.Digits n) ≡ decimal n
digits_layer n = rolled_head (JsHead-F.Digits n) (h.rolls-Digits n)

pub negative_layer : (n : ℕ) → text_of_head (h.Negative n) ≡ codes "-" ++ decimal n
negative_layer n = rolled_head (JsHead-F.Negative n) (h.rolls-Negative n)

pub str_layer : (us : List ℕ) → text_of_head (h.Str us) ≡ string_text us
str_layer us = rolled_head (JsHead-F.Str us) (h.rolls-Str us)

pub null_layer : text_of_head h.Null ≡ codes "null"
null_layer = rolled_head JsHead-F.Null h.rolls-Null

pub undefined_layer : text_of_head h.Undefined ≡ codes "undefined"
undefined_layer = rolled_head JsHead-F.Undefined h.rolls-Undefined

pub true_layer : text_of_head h.True ≡ codes "true"
true_layer = rolled_head JsHead-F.True h.rolls-True

pub false_layer : text_of_head h.False ≡ codes "false"
false_layer = rolled_head JsHead-F.False h.rolls-False

pub string_of_layer : (args : List JsExpr) → text_of_head (h.StringOf args) ≡ codes "String" ++ arguments_text (map text_of_expr args)
string_of_layer args = rolled_head (JsHead-F.StringOf args) (h.rolls-StringOf args)

pub is_array_layer : (args : List JsExpr) → text_of_head (h.IsArray args) ≡ codes "Array.isArray" ++ arguments_text (map text_of_expr args)
is_array_layer args = rolled_head (JsHead-F.IsArray args) (h.rolls-IsArray args)

pub array_from_layer : (args : List JsExpr) → text_of_head (h.ArrayFrom args) ≡ codes "Array.from" ++ arguments_text (map text_of_expr args)
array_from_layer args = rolled_head (JsHead-F.ArrayFrom args) (h.rolls-ArrayFrom args)

-- ---- JsSelector

pub index_layer : (a : JsExpr) → text_of_selector (l.Index a) ≡ codes "[" ++ (text_of_expr a ++ codes "]")
index_layer a = rolled_selector (JsSelector-F.Index a) (l.rolls-Index a)

pub call_layer : (args : List JsExpr) → text_of_selector (l.Call args) ≡ arguments_text (map text_of_expr args)
call_layer args = rolled_selector (JsSelector-F.Call args) (l.rolls-Call args)

pub member_layer : (m : JsMember) → text_of_selector (l.Member m) ≡ codes "." ++ member_text m
member_layer m = rolled_selector (JsSelector-F.Member m) (l.rolls-Member m)

pub method_layer : (m : JsMember) (args : List JsExpr) → text_of_selector (l.Method m args) ≡ codes "." ++ (member_text m ++ arguments_text (map text_of_expr args))
method_layer m args = rolled_selector (JsSelector-F.Method m args) (l.rolls-Method m args)

-- ---- JsStmt

pub let_layer : (at : ℕ) (x : Bytes) (a : JsExpr) → text_of_stmt (s.Let at x a) ≡ line (codes "let " ++ (x ++ (codes " = " ++ (text_of_expr a ++ codes ";"))))
let_layer at x a = rolled_stmt (JsStmt-F.Let at x a) (s.rolls-Let at x a)

pub assign_layer : (at : ℕ) (x : Bytes) (a : JsExpr) → text_of_stmt (s.Assign at x a) ≡ line (x ++ (codes " = " ++ (text_of_expr a ++ codes ";")))
assign_layer at x a = rolled_stmt (JsStmt-F.Assign at x a) (s.rolls-Assign at x a)

pub store_layer : (at : ℕ) (a : JsPrimary) (b c : JsExpr) → text_of_stmt (s.Store at a b c) ≡ line (text_of_primary a ++ (codes "[" ++ (text_of_expr b ++ (codes "] = " ++ (text_of_expr c ++ codes ";")))))
store_layer at a b c = rolled_stmt (JsStmt-F.Store at a b c) (s.rolls-Store at a b c)

pub perform_layer : (at : ℕ) (a : JsPrimary) → text_of_stmt (s.Perform at a) ≡ line (text_of_primary a ++ codes ";")
perform_layer at a = rolled_stmt (JsStmt-F.Perform at a) (s.rolls-Perform at a)

pub if_layer : (at : ℕ) (a : JsExpr) (xs : List JsStmt) → text_of_stmt (s.If at a xs) ≡ line (codes "if (" ++ (text_of_expr a ++ (codes ") " ++ block_text (map text_of_stmt xs))))
if_layer at a xs = rolled_stmt (JsStmt-F.If at a xs) (s.rolls-If at a xs)

pub if_else_layer : (at : ℕ) (a : JsExpr) (xs ys : List JsStmt) → text_of_stmt (s.IfElse at a xs ys) ≡ line (codes "if (" ++ (text_of_expr a ++ (codes ") " ++ (block_text (map text_of_stmt xs) ++ (codes " else " ++ block_text (map text_of_stmt ys))))))
if_else_layer at a xs ys = rolled_stmt (JsStmt-F.IfElse at a xs ys) (s.rolls-IfElse at a xs ys)

pub loop_layer : (at : ℕ) (xs : List JsStmt) → text_of_stmt (s.Loop at xs) ≡ line (codes "while (true) " ++ block_text (map text_of_stmt xs))
loop_layer at xs = rolled_stmt (JsStmt-F.Loop at xs) (s.rolls-Loop at xs)

pub labelled_layer : (at : ℕ) (x : Bytes) (xs : List JsStmt) → text_of_stmt (s.Labelled at x xs) ≡ line (x ++ (codes ": " ++ block_text (map text_of_stmt xs)))
labelled_layer at x xs = rolled_stmt (JsStmt-F.Labelled at x xs) (s.rolls-Labelled at x xs)

pub break_layer : (at : ℕ) (x : Bytes) → text_of_stmt (s.Break at x) ≡ line (codes "break " ++ (x ++ codes ";"))
break_layer at x = rolled_stmt (JsStmt-F.Break at x) (s.rolls-Break at x)

pub return_layer : (at : ℕ) (a : JsExpr) → text_of_stmt (s.Return at a) ≡ line (codes "return " ++ (text_of_expr a ++ codes ";"))
return_layer at a = rolled_stmt (JsStmt-F.Return at a) (s.rolls-Return at a)

pub throw_layer : (at : ℕ) (a : JsExpr) → text_of_stmt (s.Throw at a) ≡ line (codes "throw " ++ (text_of_expr a ++ codes ";"))
throw_layer at a = rolled_stmt (JsStmt-F.Throw at a) (s.rolls-Throw at a)

pub try_catch_layer : (at : ℕ) (xs : List JsStmt) (x : Bytes) (ys : List JsStmt) → text_of_stmt (s.TryCatch at xs x ys) ≡ line (codes "try " ++ (block_text (map text_of_stmt xs) ++ (codes " catch (" ++ (x ++ (codes ") " ++ block_text (map text_of_stmt ys))))))
try_catch_layer at xs x ys = rolled_stmt (JsStmt-F.TryCatch at xs x ys) (s.rolls-TryCatch at xs x ys)

pub try_finally_layer : (at : ℕ) (xs ys : List JsStmt) → text_of_stmt (s.TryFinally at xs ys) ≡ line (codes "try " ++ (block_text (map text_of_stmt xs) ++ (codes " finally " ++ block_text (map text_of_stmt ys))))
try_finally_layer at xs ys = rolled_stmt (JsStmt-F.TryFinally at xs ys) (s.rolls-TryFinally at xs ys)

-- ---- structs

pub text_of_its_parts : (a : JsPrimary) → text_of_primary a ≡ text_of_head a.head ++ joined (map text_of_selector a.selectors)
text_of_its_parts = fold_out-JsPrimary Bytes Bytes Bytes Bytes Bytes Bytes Bytes expr_text head_text selector_text stmt_text entry_text code_text primary_text

pub text_of_key_and_value : (a : JsEntry) → text_of_entry a ≡ string_text a.key ++ (codes ": " ++ text_of_expr a.value)
text_of_key_and_value = fold_out-JsEntry Bytes Bytes Bytes Bytes Bytes Bytes Bytes expr_text head_text selector_text stmt_text entry_text code_text primary_text

pub text_of_its_body : (f : JsFunction) → text_of_function f ≡ function_text f.parameters (map text_of_stmt f.body)
text_of_its_body = fold_out-JsFunction Bytes Bytes Bytes Bytes Bytes Bytes Bytes expr_text head_text selector_text stmt_text entry_text code_text primary_text
