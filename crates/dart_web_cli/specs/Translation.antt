-- The translation of a first program, and what it promises.
use Rattle.std.specs.Prelude.{◌≡◌, ◌<◌, ◌^◌, ℕ, suc, Bool, true, false, List, [], ◌∷◌, ◌++◌, length, Option, Some, None, codes}
use Rattle.std.specs.Fmt.{decimal}
use Rattle.code_units.specs.Text.{units_of}
use Rattle.dart_syntax.specs.declared.tokens.Token.{Token}
use Rattle.meanings.specs.Runs.{SameRun}
use Rattle.dart_meaning.specs.declared.program.Operand.{Operand}
use Rattle.dart_meaning.specs.declared.program.Operand.TheVariants.{Number, Variable}
use Rattle.dart_meaning.specs.declared.program.Sign.{Sign}
use Rattle.dart_meaning.specs.declared.program.Sign.TheVariants as signs
use Rattle.dart_meaning.specs.declared.program.Addend.{Addend}
use Rattle.dart_meaning.specs.declared.program.Expression.{Expression}
use Rattle.dart_meaning.specs.declared.program.Expression.TheVariants as expressions
use Rattle.dart_meaning.specs.declared.program.Statement.{Statement}
use Rattle.dart_meaning.specs.declared.program.Statement.TheVariants.{Print, Declare}
use Rattle.dart_meaning.specs.Program.{Kinds, is_text, IsProgram}
use Rattle.dart_meaning.specs.Meaning.{dart}
use Rattle.js_tree.specs.declared.tree.JsExpr.{JsExpr}
use Rattle.js_tree.specs.declared.tree.JsExpr.TheVariants as e
use Rattle.js_tree.specs.declared.tree.JsHead.{JsHead}
use Rattle.js_tree.specs.declared.tree.JsHead.TheVariants as h
use Rattle.js_tree.specs.declared.tree.JsSelector.{JsSelector}
use Rattle.js_tree.specs.declared.tree.JsSelector.TheVariants as l
use Rattle.js_tree.specs.declared.tree.JsPrimary.{JsPrimary}
use Rattle.js_tree.specs.declared.tree.JsStmt.{JsStmt}
use Rattle.js_tree.specs.declared.tree.JsStmt.TheVariants as s
use Rattle.js_tree.specs.declared.tree.JsItem.{JsItem}
use Rattle.js_tree.specs.declared.tree.JsItem.TheVariants as i
use Rattle.js_tree.specs.declared.tree.JsFile.{JsFile}
use Rattle.js_tree.specs.declared.tree.NamedTree.{NamedTree}
use Rattle.js_tree.specs.declared.words.JsMember.TheVariants as m
use Rattle.js_tree.specs.declared.words.JsOperator.{JsOperator}
use Rattle.js_tree.specs.declared.words.JsOperator.TheVariants as o
use Rattle.js_tree.specs.Spelling.{IsSpelled}
use Rattle.js_tree.specs.Text.{file_text}
use Rattle.js_meaning.specs.Meaning.{js}

-- ---- names

-- a letter, a number without a leading zero, and $
abbrev pub numbered_name : (letter k : ℕ) → List ℕ
numbered_name letter k = letter ∷ (decimal k ++ codes "$")

-- a0$, a1$, .. for operators
abbrev pub operation_name : ℕ → List ℕ
operation_name k = numbered_name 97 k

-- v0$, v1$, .. for the names of the program
abbrev pub variable_name : ℕ → List ℕ
variable_name i = numbered_name 118 i

-- ---- parts of trees

-- a head that nothing is selected from
abbrev pub alone : JsHead → JsPrimary
alone head = record { head = head; selectors = [] }

-- the value of an operator, and that of a name of the program
abbrev pub operation : ℕ → JsPrimary
operation k = alone (h.Name (operation_name k))

abbrev pub variable : ℕ → JsPrimary
variable i = alone (h.Name (variable_name i))

-- a name that one thing is selected from
abbrev pub selected : List ℕ → JsSelector → JsPrimary
selected name selector = record { head = h.Name name; selectors = selector ∷ [] }

-- host$.print(value)
abbrev pub host_print : JsExpr → JsPrimary
host_print value = selected (codes "host$") (l.Method m.Print (value ∷ []))

-- String(value)
abbrev pub string_of : JsPrimary → JsExpr
string_of value = e.Primary (alone (h.StringOf (e.Primary value ∷ [])))

-- let ak$ = left operator right;
abbrev pub operation_let : ℕ → JsOperator → JsPrimary → JsPrimary → JsStmt
operation_let k operator left right = s.Let 0 (operation_name k) (e.Binary operator left right)

-- let vi$ = value;
abbrev pub variable_let : ℕ → JsPrimary → JsStmt
variable_let i value = s.Let 0 (variable_name i) (e.Primary value)

-- a text is printed as it is, and a number by its string
abbrev pub printed_of : Bool → JsPrimary → JsExpr
printed_of true value = e.Primary value
printed_of false value = string_of value

abbrev pub print_of : Bool → JsPrimary → JsStmt
print_of is_text value = s.Perform 0 (host_print (printed_of is_text value))

-- return null;
abbrev pub last_statement : JsStmt
last_statement = s.Return 0 (e.Primary (alone h.Null))

-- function main$() { body }
abbrev pub main_function : List JsStmt → JsItem
main_function body = i.Declared (codes "main$") (record { parameters = []; body = body })

-- main$();
abbrev pub main_call : JsItem
main_call = i.Statement (s.Perform 0 (selected (codes "main$") (l.Call [])))

abbrev pub file_with : List JsStmt → JsFile
file_with body = record { items = main_function body ∷ main_call ∷ [] }

-- ---- the translation

-- a number stands for itself, and the i-th name of the program is vi$
abbrev pub operand_of : Operand → JsPrimary
operand_of (Number n) = alone (h.Digits n)
operand_of (Variable i) = variable i

abbrev pub operator_of : Sign → JsOperator
operator_of signs.Plus = o.Plus
operator_of signs.Minus = o.Minus

-- What comes behind an operator's lets: it is told the number of the next operator, and what stands for the value.
abbrev pub Behind : Type 0
Behind = ℕ → JsPrimary → List JsStmt

-- The operators of a product, numbered from k; sofar stands for the factors before. Each is a let.
abbrev pub product_then : ℕ → JsPrimary → List Operand → Behind → List JsStmt
product_then k sofar [] behind = behind k sofar
product_then k sofar (factor ∷ factors) behind = operation_let k o.Times sofar (operand_of factor) ∷ product_then (suc k) (operation k) factors behind

-- The operators of a sum, in order of evaluation: those of each product stand before the sign in front of it.
abbrev pub addends_then : ℕ → JsPrimary → List Addend → Behind → List JsStmt
addends_then k sofar [] behind = behind k sofar
addends_then k sofar (addend ∷ addends) behind =
    product_then k (operand_of addend.product.first) addend.product.rest
    (λ k' product. operation_let k' (operator_of addend.sign) sofar product ∷ addends_then (suc k') (operation k') addends behind)

-- a text stands for itself
abbrev pub expression_then : ℕ → Expression → Behind → List JsStmt
expression_then k (expressions.Text text) behind = behind k (alone (h.Str text))
expression_then k (expressions.Sum sum) behind =
    product_then k (operand_of sum.first.first) sum.first.rest (λ k' first. addends_then k' first sum.rest behind)

-- the statements, behind k operators and the names of these kinds
abbrev pub statements_from : ℕ → Kinds → List Statement → List JsStmt
statements_from k kinds [] = last_statement ∷ []
statements_from k kinds (Print value ∷ program) =
    expression_then k value (λ k' p. print_of (is_text kinds value) p ∷ statements_from k' kinds program)
statements_from k kinds (Declare name value ∷ program) =
    expression_then k value (λ k' p. variable_let (length kinds) p ∷ statements_from k' (kinds ++ is_text kinds value ∷ []) program)

-- the tree, without places
abbrev pub file_of : List Statement → JsFile
file_of program = file_with (statements_from 0 [] program)

-- the bytes of the translation
abbrev pub translation : List Statement → List ℕ
translation program = file_text (file_of program)

-- the one file that is served
abbrev pub served : List ℕ → JsFile → List NamedTree
served out tree = record { name = units_of out; tree = tree } ∷ []

-- Read back as the file OUT, the bytes are a tree, and it runs as the program does, whatever the order of loads.
pub record RunsAs (program : List Statement) (out bytes : List ℕ) : Type 0 where
  pub tree : JsFile
  pub spelled : IsSpelled bytes tree
  pub same : (order : List ℕ) → SameRun (dart program order) (js (served out tree) order)

-- the translation of a program that was read runs as the program does
abbrev pub TranslationIsRight : Type 0
TranslationIsRight = (tokens : List Token) (out : List ℕ) (program : List Statement) → length tokens < 2 ^ 64 → IsProgram tokens program → RunsAs program out (translation program)

-- what tokens are translated to: nothing where no first program has them
abbrev pub Translates : List Token → Option (List ℕ) → Type 0
Translates tokens None = (program : List Statement) → IsProgram tokens program → ⊥
Translates tokens (Some out) = (program : List Statement) × IsProgram tokens program × (out ≡ translation program) × ((name : List ℕ) → RunsAs program name (translation program))
