-- The canonical spelling of a tree: each item and statement on lines of its own, ended by LF.
use Rattle.std.specs.Prelude.{ℕ, ◌+◌, ◌/◌, ◌%◌, ◌==◌, nat_lt, if◌then◌else◌, List, [], ◌∷◌, ◌++◌, map, codes}
use Rattle.std.specs.Fmt.{decimal}
use Rattle.js_tree.specs.declared.tree.JsExpr.{JsExpr, fold-JsExpr}
use Rattle.js_tree.specs.declared.tree.JsHead.{JsHead, fold-JsHead}
use Rattle.js_tree.specs.declared.tree.JsSelector.{JsSelector, fold-JsSelector}
use Rattle.js_tree.specs.declared.tree.JsPrimary.{JsPrimary, fold-JsPrimary}
use Rattle.js_tree.specs.declared.tree.JsEntry.{JsEntry, fold-JsEntry}
use Rattle.js_tree.specs.declared.tree.JsFunction.{JsFunction, fold-JsFunction}
use Rattle.js_tree.specs.declared.tree.JsStmt.{JsStmt, fold-JsStmt}
use Rattle.js_tree.specs.declared.tree.JsExpr.TheOpen.{JsExpr-F, JsHead-F, JsSelector-F, JsStmt-F, JsEntry-F, JsFunction-F, JsPrimary-F}
use Rattle.js_tree.specs.declared.tree.JsItem.{JsItem}
use Rattle.js_tree.specs.declared.tree.JsItem.TheVariants.{Declared, Var, Statement}
use Rattle.js_tree.specs.declared.tree.JsFile.{JsFile}
use Rattle.js_tree.specs.Words.{member_text, operator_text}
use Rattle.js_tree.specs.Tokens.{Bytes, is_plain}

-- ---- lists

abbrev pub joined : List Bytes → Bytes
joined [] = []
joined (x ∷ xs) = x ++ joined xs

-- with a comma and a blank between
abbrev pub separated : List Bytes → Bytes
separated [] = []
separated (x ∷ []) = x
separated (x ∷ y ∷ xs) = x ++ (codes ", " ++ separated (y ∷ xs))

-- ---- strings

-- 0 to 9 and a to f
abbrev pub hex_digit : ℕ → ℕ
hex_digit d = if nat_lt d 10 then 48 + d else 87 + d

abbrev pub unicode_escape : ℕ → Bytes
unicode_escape u = codes "\\u" ++ hex_digit (u / 4096 % 16) ∷ hex_digit (u / 256 % 16) ∷ hex_digit (u / 16 % 16) ∷ hex_digit (u % 16) ∷ []

abbrev pub unit_text : ℕ → Bytes
unit_text u = if is_plain u then u ∷ [] else if u == 34 then codes "\\\"" else if u == 92 then codes "\\\\" else unicode_escape u

abbrev pub string_text : List ℕ → Bytes
string_text us = codes "\"" ++ (joined (map unit_text us) ++ codes "\"")

-- ---- parts of statements

abbrev pub arguments_text : List Bytes → Bytes
arguments_text args = codes "(" ++ (separated args ++ codes ")")

-- a block, whose `{` ends its line and whose `}` begins one
abbrev pub block_text : List Bytes → Bytes
block_text body = codes "{\n" ++ (joined body ++ codes "}")

abbrev pub function_text : List Bytes → List Bytes → Bytes
function_text parameters body = arguments_text parameters ++ (codes " " ++ block_text body)

abbrev pub line : Bytes → Bytes
line text = text ++ codes "\n"

-- ---- forms, from the texts of their parts

abbrev pub expr_text : JsExpr-F Bytes Bytes Bytes Bytes Bytes Bytes Bytes → Bytes
expr_text (JsExpr-F.Primary a) = a
expr_text (JsExpr-F.Binary o a b) = a ++ (codes " " ++ (operator_text o ++ (codes " " ++ b)))
expr_text (JsExpr-F.TypeOf a) = codes "typeof " ++ a
expr_text (JsExpr-F.Function f) = codes "function " ++ f
expr_text JsExpr-F.NewMap = codes "new Map()"
expr_text (JsExpr-F.Array xs) = codes "[" ++ (separated xs ++ codes "]")
expr_text (JsExpr-F.Object xs) = codes "{" ++ (separated xs ++ codes "}")

abbrev pub head_text : JsHead-F Bytes Bytes Bytes Bytes Bytes Bytes Bytes → Bytes
head_text (JsHead-F.Name x) = x
head_text (JsHead-F.Digits n) = decimal n
head_text (JsHead-F.Negative n) = codes "-" ++ decimal n
head_text (JsHead-F.Str us) = string_text us
head_text JsHead-F.Null = codes "null"
head_text JsHead-F.Undefined = codes "undefined"
head_text JsHead-F.True = codes "true"
head_text JsHead-F.False = codes "false"
head_text (JsHead-F.StringOf args) = codes "String" ++ arguments_text args
head_text (JsHead-F.IsArray args) = codes "Array.isArray" ++ arguments_text args
head_text (JsHead-F.ArrayFrom args) = codes "Array.from" ++ arguments_text args

abbrev pub selector_text : JsSelector-F Bytes Bytes Bytes Bytes Bytes Bytes Bytes → Bytes
selector_text (JsSelector-F.Index a) = codes "[" ++ (a ++ codes "]")
selector_text (JsSelector-F.Call args) = arguments_text args
selector_text (JsSelector-F.Member m) = codes "." ++ member_text m
selector_text (JsSelector-F.Method m args) = codes "." ++ (member_text m ++ arguments_text args)

abbrev pub primary_text : JsPrimary-F Bytes Bytes Bytes Bytes Bytes Bytes Bytes → Bytes
primary_text a = a.head ++ joined a.selectors

abbrev pub entry_text : JsEntry-F Bytes Bytes Bytes Bytes Bytes Bytes Bytes → Bytes
entry_text a = string_text a.key ++ (codes ": " ++ a.value)

abbrev pub code_text : JsFunction-F Bytes Bytes Bytes Bytes Bytes Bytes Bytes → Bytes
code_text f = function_text f.parameters f.body

abbrev pub stmt_text : JsStmt-F Bytes Bytes Bytes Bytes Bytes Bytes Bytes → Bytes
stmt_text (JsStmt-F.Let at x a) = line (codes "let " ++ (x ++ (codes " = " ++ (a ++ codes ";"))))
stmt_text (JsStmt-F.Assign at x a) = line (x ++ (codes " = " ++ (a ++ codes ";")))
stmt_text (JsStmt-F.Store at a b c) = line (a ++ (codes "[" ++ (b ++ (codes "] = " ++ (c ++ codes ";")))))
stmt_text (JsStmt-F.Perform at a) = line (a ++ codes ";")
stmt_text (JsStmt-F.If at a xs) = line (codes "if (" ++ (a ++ (codes ") " ++ block_text xs)))
stmt_text (JsStmt-F.IfElse at a xs ys) = line (codes "if (" ++ (a ++ (codes ") " ++ (block_text xs ++ (codes " else " ++ block_text ys)))))
stmt_text (JsStmt-F.Loop at xs) = line (codes "while (true) " ++ block_text xs)
stmt_text (JsStmt-F.Labelled at x xs) = line (x ++ (codes ": " ++ block_text xs))
stmt_text (JsStmt-F.Break at x) = line (codes "break " ++ (x ++ codes ";"))
stmt_text (JsStmt-F.Return at a) = line (codes "return " ++ (a ++ codes ";"))
stmt_text (JsStmt-F.Throw at a) = line (codes "throw " ++ (a ++ codes ";"))
stmt_text (JsStmt-F.TryCatch at xs x ys) = line (codes "try " ++ (block_text xs ++ (codes " catch (" ++ (x ++ (codes ") " ++ block_text ys)))))
stmt_text (JsStmt-F.TryFinally at xs ys) = line (codes "try " ++ (block_text xs ++ (codes " finally " ++ block_text ys)))

-- ---- trees

abbrev pub text_of_expr : JsExpr → Bytes
text_of_expr = fold-JsExpr Bytes Bytes Bytes Bytes Bytes Bytes Bytes expr_text head_text selector_text stmt_text entry_text code_text primary_text

abbrev pub text_of_head : JsHead → Bytes
text_of_head = fold-JsHead Bytes Bytes Bytes Bytes Bytes Bytes Bytes expr_text head_text selector_text stmt_text entry_text code_text primary_text

abbrev pub text_of_selector : JsSelector → Bytes
text_of_selector = fold-JsSelector Bytes Bytes Bytes Bytes Bytes Bytes Bytes expr_text head_text selector_text stmt_text entry_text code_text primary_text

abbrev pub text_of_primary : JsPrimary → Bytes
text_of_primary = fold-JsPrimary Bytes Bytes Bytes Bytes Bytes Bytes Bytes expr_text head_text selector_text stmt_text entry_text code_text primary_text

abbrev pub text_of_entry : JsEntry → Bytes
text_of_entry = fold-JsEntry Bytes Bytes Bytes Bytes Bytes Bytes Bytes expr_text head_text selector_text stmt_text entry_text code_text primary_text

abbrev pub text_of_function : JsFunction → Bytes
text_of_function = fold-JsFunction Bytes Bytes Bytes Bytes Bytes Bytes Bytes expr_text head_text selector_text stmt_text entry_text code_text primary_text

abbrev pub text_of_stmt : JsStmt → Bytes
text_of_stmt = fold-JsStmt Bytes Bytes Bytes Bytes Bytes Bytes Bytes expr_text head_text selector_text stmt_text entry_text code_text primary_text

abbrev pub text_of_item : JsItem → Bytes
text_of_item (Declared x f) = line (codes "function " ++ (x ++ text_of_function f))
text_of_item (Var at x a) = line (codes "var " ++ (x ++ (codes " = " ++ (text_of_expr a ++ codes ";"))))
text_of_item (Statement a) = text_of_stmt a

abbrev pub file_text : JsFile → Bytes
file_text file = joined (map text_of_item file.items)
