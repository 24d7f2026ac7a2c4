-- The canonical text of small trees, computed.
use Rattle.std.proofs.Common.{◌≡◌, List, [], ◌∷◌, refl}
use Rattle.std.specs.Prelude.{codes}
use Rattle.js_tree.specs.declared.tree.JsExpr.{JsExpr}
use Rattle.js_tree.specs.declared.tree.JsExpr.TheVariants as e
use Rattle.js_tree.specs.declared.tree.JsHead.{JsHead}
use Rattle.js_tree.specs.declared.tree.JsHead.TheVariants as h
use Rattle.js_tree.specs.declared.tree.JsSelector.{JsSelector}
use Rattle.js_tree.specs.declared.tree.JsSelector.TheVariants as l
use Rattle.js_tree.specs.declared.tree.JsPrimary.{JsPrimary}
use Rattle.js_tree.specs.declared.tree.JsStmt.{JsStmt}
use Rattle.js_tree.specs.declared.tree.JsStmt.TheVariants as s
use Rattle.js_tree.specs.declared.tree.JsItem.TheVariants as i
use Rattle.js_tree.specs.declared.tree.JsFile.{JsFile}
use Rattle.js_tree.specs.declared.words.JsMember.TheVariants as m
use Rattle.js_tree.specs.declared.words.JsOperator.TheVariants as o
use Rattle.js_tree.specs.Tokens.{Bytes}
use Rattle.js_tree.specs.Text.{string_text, text_of_expr, text_of_stmt, text_of_item, file_text}
use Rattle.std.specs.Fmt.{digits}
use Rattle.js_tree.proofs.Layers.{primary_layer, binary_layer, type_of_layer, function_layer, new_map_layer, array_layer, object_layer, name_layer, digits_layer, negative_layer, str_layer, null_layer, undefined_layer, true_layer, false_layer, string_of_layer, is_array_layer, array_from_layer, index_layer, call_layer, member_layer, method_layer, let_layer, assign_layer, store_layer, perform_layer, if_layer, if_else_layer, loop_layer, labelled_layer, break_layer, return_layer, throw_layer, try_catch_layer, try_finally_layer, text_of_its_parts, text_of_key_and_value, text_of_its_body}

-- ---- parts of the trees

abbrev selected : JsHead → List JsSelector → JsPrimary
selected a xs = record { head = a; selectors = xs }

abbrev named : Bytes → JsPrimary
named x = selected (h.Name x) []

abbrev a : JsPrimary
a = named (codes "a$")

abbrev b : JsExpr
b = e.Primary (named (codes "b$"))

abbrev only : JsHead → JsExpr
only x = e.Primary (selected x [])

abbrev one : JsExpr
one = only (h.Digits 1)

abbrev leave : JsStmt
leave = s.Break 0 (codes "l$")

-- ---- the file of one function that prints a sum, and its call

abbrev sum : JsFile
sum = record {
  items =
      i.Declared (codes "main$") (record {
        parameters = [];
        body =
            s.Let 0 (codes "a0$") (e.Binary o.Plus (selected (h.Digits 1) []) (selected (h.Digits 2) []))
            ∷ s.Perform 0 (selected (h.Name (codes "host$")) (l.Method m.Print (only (h.StringOf (e.Primary (named (codes "a0$")) ∷ [])) ∷ []) ∷ []))
            ∷ s.Return 0 (only h.Null) ∷ [];
      })
      ∷ i.Statement (s.Perform 0 (selected (h.Name (codes "main$")) (l.Call [] ∷ []))) ∷ [];
}

sum_text : file_text sum ≡ codes "function main$() {\nlet a0$ = 1 + 2;\nhost$.print(String(a0$));\nreturn null;\n}\nmain$();\n"
unfolding digits
sum_text = simp (text_of_its_parts, text_of_its_body, primary_layer, binary_layer, name_layer, digits_layer, null_layer, string_of_layer, call_layer, method_layer, let_layer, perform_layer, return_layer)

-- ---- the lines of each form of a statement

let_line : text_of_stmt (s.Let 0 (codes "x$") one) ≡ codes "let x$ = 1;\n"
unfolding digits
let_line = simp (let_layer, primary_layer, text_of_its_parts, digits_layer)

assign_line : text_of_stmt (s.Assign 0 (codes "x$") b) ≡ codes "x$ = b$;\n"
assign_line = simp (assign_layer, primary_layer, text_of_its_parts, name_layer)

store_line : text_of_stmt (s.Store 0 a (only (h.Str (codes "p1$"))) b) ≡ codes "a$[\"p1$\"] = b$;\n"
store_line = simp (store_layer, primary_layer, text_of_its_parts, str_layer, name_layer)

perform_line : text_of_stmt (s.Perform 0 (selected (h.Name (codes "f$")) (l.Call (b ∷ one ∷ []) ∷ []))) ≡ codes "f$(b$, 1);\n"
unfolding digits
perform_line = simp (perform_layer, primary_layer, text_of_its_parts, call_layer, name_layer, digits_layer)

if_lines : text_of_stmt (s.If 0 b (leave ∷ [])) ≡ codes "if (b$) {\nbreak l$;\n}\n"
if_lines = simp (if_layer, primary_layer, text_of_its_parts, name_layer, break_layer)

if_else_lines : text_of_stmt (s.IfElse 0 b [] (leave ∷ [])) ≡ codes "if (b$) {\n} else {\nbreak l$;\n}\n"
if_else_lines = simp (if_else_layer, primary_layer, text_of_its_parts, name_layer, break_layer)

loop_lines : text_of_stmt (s.Loop 0 (leave ∷ [])) ≡ codes "while (true) {\nbreak l$;\n}\n"
loop_lines = simp (loop_layer, break_layer)

labelled_lines : text_of_stmt (s.Labelled 0 (codes "l$") (leave ∷ leave ∷ [])) ≡ codes "l$: {\nbreak l$;\nbreak l$;\n}\n"
labelled_lines = simp (labelled_layer, break_layer)

return_line : text_of_stmt (s.Return 0 b) ≡ codes "return b$;\n"
return_line = simp (return_layer, primary_layer, text_of_its_parts, name_layer)

throw_line : text_of_stmt (s.Throw 0 b) ≡ codes "throw b$;\n"
throw_line = simp (throw_layer, primary_layer, text_of_its_parts, name_layer)

try_catch_lines : text_of_stmt (s.TryCatch 0 (leave ∷ []) (codes "e$") (s.Throw 0 b ∷ [])) ≡ codes "try {\nbreak l$;\n} catch (e$) {\nthrow b$;\n}\n"
try_catch_lines = simp (try_catch_layer, break_layer, throw_layer, primary_layer, text_of_its_parts, name_layer)

try_finally_lines : text_of_stmt (s.TryFinally 0 (leave ∷ []) []) ≡ codes "try {\nbreak l$;\n} finally {\n}\n"
try_finally_lines = simp (try_finally_layer, break_layer)

-- ---- items

var_line : text_of_item (i.Var 0 (codes "x$") b) ≡ codes "var x$ = b$;\n"
var_line = simp (primary_layer, text_of_its_parts, name_layer)

function_lines : text_of_item (i.Declared (codes "f$") (record { parameters = codes "a$" ∷ codes "b$" ∷ []; body = [] })) ≡ codes "function f$(a$, b$) {\n}\n"
function_lines = simp text_of_its_body

-- ---- each form of an expression

binary : text_of_expr (e.Binary o.GreaterEqual a (selected (h.Negative 2) [])) ≡ codes "a$ >= -2"
unfolding digits
binary = simp (binary_layer, text_of_its_parts, name_layer, negative_layer)

type_of : text_of_expr (e.TypeOf a) ≡ codes "typeof a$"
type_of = simp (type_of_layer, text_of_its_parts, name_layer)

function : text_of_expr (e.Function (record { parameters = []; body = leave ∷ [] })) ≡ codes "function () {\nbreak l$;\n}"
function = simp (function_layer, text_of_its_body, break_layer)

new_map : text_of_expr e.NewMap ≡ codes "new Map()"
new_map = new_map_layer

array : text_of_expr (e.Array (b ∷ only h.Null ∷ only h.Undefined ∷ [])) ≡ codes "[b$, null, undefined]"
array = simp (array_layer, primary_layer, text_of_its_parts, name_layer, null_layer, undefined_layer)

object : text_of_expr (e.Object (record { key = codes "c$"; value = only h.True } ∷ record { key = []; value = only h.False } ∷ [])) ≡ codes "{\"c$\": true, \"\": false}"
object = simp (object_layer, text_of_key_and_value, primary_layer, text_of_its_parts, true_layer, false_layer)

empty : (text_of_expr (e.Array []) ≡ codes "[]") × (text_of_expr (e.Object []) ≡ codes "{}")
empty = (array_layer [], object_layer [])

words : (text_of_expr (only (h.StringOf (b ∷ []))) ≡ codes "String(b$)") × (text_of_expr (only (h.IsArray (b ∷ []))) ≡ codes "Array.isArray(b$)") × (text_of_expr (only (h.ArrayFrom (b ∷ []))) ≡ codes "Array.from(b$)")
words = (simp (primary_layer, text_of_its_parts, name_layer, string_of_layer), simp (primary_layer, text_of_its_parts, name_layer, is_array_layer), simp (primary_layer, text_of_its_parts, name_layer, array_from_layer))

selectors : text_of_expr (e.Primary (selected (h.Name (codes "a$")) (l.Index one ∷ l.Call [] ∷ l.Method m.CharCodeAt (b ∷ []) ∷ l.Member m.Length ∷ []))) ≡ codes "a$[1]().charCodeAt(b$).length"
unfolding digits
selectors = simp (primary_layer, text_of_its_parts, name_layer, digits_layer, index_layer, call_layer, method_layer, member_layer)

-- ---- strings: a quote, a backslash, a control character, DEL, and the two units of a character above FFFF

units : string_text (97 ∷ 34 ∷ 92 ∷ 10 ∷ 127 ∷ 55357 ∷ 56832 ∷ 126 ∷ []) ≡ codes "\"a\\\"\\\\\\u000a\\u007f\\ud83d\\ude00~\""
units = refl
