-- Tokens as the grammar sees them.
use Rattle.std.specs.Prelude.{ℕ, Bool, true, false, not, ◌==◌, if◌then◌else◌, List, [], ◌∷◌, Option, Some, None, codes}
use Rattle.std.specs.Str.{bytes_eq}
use denote.Enum.Bare.{sameb}
use Rattle.dart_syntax.specs.contracts.words.Word.{the_type as words}
use Rattle.dart_syntax.specs.contracts.words.Sign.{the_type as signs}
use Rattle.dart_syntax.specs.declared.words.Word.{Word}
use Rattle.dart_syntax.specs.declared.words.Word.TheVariants as w
use Rattle.dart_syntax.specs.declared.words.Sign.{Sign}
use Rattle.dart_syntax.specs.declared.words.Sign.TheVariants as s
use Rattle.dart_syntax.specs.declared.tokens.Form.{Form}
use Rattle.dart_syntax.specs.declared.tokens.Form.TheVariants as f
use Rattle.dart_syntax.specs.declared.tokens.Token.{Token}
use Rattle.dart_grammar.specs.declared.trees.Span.{Span}
use Rattle.dart_grammar.specs.declared.trees.Operator.{Operator}
use Rattle.dart_grammar.specs.declared.trees.Operator.TheVariants as o
use Rattle.dart_grammar.specs.declared.trees.PrefixOperator.{PrefixOperator}
use Rattle.dart_grammar.specs.declared.trees.PrefixOperator.TheVariants as p
use Rattle.dart_grammar.specs.declared.trees.Assignment.{Assignment}
use Rattle.dart_grammar.specs.declared.trees.Assignment.TheVariants as a
use Rattle.dart_grammar.specs.declared.trees.Step.{Step}
use Rattle.dart_grammar.specs.declared.trees.Step.TheVariants as t

abbrev pub Tokens : Type 0
Tokens = List Token

abbrev pub token : Form → Span → Token
token form at = record { form = form; from = at.from; to = at.to }

abbrev pub word : Word → Span → Token
word x at = token (f.Word x) at

abbrev pub sign : Sign → Span → Token
sign x at = token (f.Sign x) at

abbrev pub ident : List ℕ → Span → Token
ident x at = token (f.Name x) at

-- ---- tests of the next token

unfoldable pub same_word : Word → Word → Bool
same_word = sameb words

unfoldable pub same_sign : Sign → Sign → Bool
same_sign = sameb signs

abbrev pub is_word : Word → Form → Bool
is_word x (f.Word y) = same_word y x
is_word x _ = false

abbrev pub is_sign : Sign → Form → Bool
is_sign x (f.Sign y) = same_sign y x
is_sign x _ = false

abbrev pub is_name : Form → Bool
is_name (f.Name x) = true
is_name _ = false

-- the name of this spelling
abbrev pub is_named : List ℕ → Form → Bool
is_named text (f.Name x) = bytes_eq text x
is_named text _ = false

abbrev pub is_text_open : Form → Bool
is_text_open f.TextOpen = true
is_text_open _ = false

abbrev pub next : (Form → Bool) → Tokens → Bool
next test [] = false
next test (t ∷ ts) = test t.form

abbrev pub next_word : Word → Tokens → Bool
next_word x = next (is_word x)

abbrev pub next_sign : Sign → Tokens → Bool
next_sign x = next (is_sign x)

abbrev pub next_name : Tokens → Bool
next_name = next is_name

abbrev pub behind : Tokens → Tokens
behind [] = []
behind (t ∷ ts) = ts

-- ---- operators

abbrev pub operator_of : Sign → Option Operator
operator_of s.Or = Some o.Or
operator_of s.And = Some o.And
operator_of s.Equal = Some o.Equal
operator_of s.NotEqual = Some o.NotEqual
operator_of s.Less = Some o.Less
operator_of s.Greater = Some o.Greater
operator_of s.LessEqual = Some o.LessEqual
operator_of s.GreaterEqual = Some o.GreaterEqual
operator_of s.Plus = Some o.Plus
operator_of s.Minus = Some o.Minus
operator_of s.Times = Some o.Times
operator_of s.Modulo = Some o.Modulo
operator_of s.Divide = Some o.Divide
operator_of _ = None

-- an operator that a class can declare
abbrev pub is_declared : Operator → Bool
is_declared o.Or = false
is_declared o.And = false
is_declared o.Equal = false
is_declared o.NotEqual = false
is_declared _ = true

abbrev pub prefix_of : Sign → Option PrefixOperator
prefix_of s.Minus = Some p.Negate
prefix_of s.Not = Some p.Not
prefix_of _ = None

abbrev pub step_of : Sign → Option Step
step_of s.Increment = Some t.Increment
step_of s.Decrement = Some t.Decrement
step_of _ = None

abbrev pub assignment_of : Sign → Option Assignment
assignment_of s.Assign = Some a.Set
assignment_of s.PlusAssign = Some a.Plus
assignment_of s.MinusAssign = Some a.Minus
assignment_of s.TimesAssign = Some a.Times
assignment_of s.DivideAssign = Some a.Divide
assignment_of s.ModuloAssign = Some a.Modulo
assignment_of _ = None

-- ---- what joins

-- How loosely a token joins what stands before it: 1 a selector, `++` and `--`, 2 to 7 the levels of operators, 8 `?`,
-- 9 an assignment, 10 a token that does not join.
abbrev pub sign_looseness : Sign → ℕ
sign_looseness s.Dot = 1
sign_looseness s.OpenBracket = 1
sign_looseness s.OpenParen = 1
sign_looseness s.Increment = 1
sign_looseness s.Decrement = 1
sign_looseness s.Times = 2
sign_looseness s.Modulo = 2
sign_looseness s.Divide = 2
sign_looseness s.Plus = 3
sign_looseness s.Minus = 3
sign_looseness s.Less = 4
sign_looseness s.Greater = 4
sign_looseness s.LessEqual = 4
sign_looseness s.GreaterEqual = 4
sign_looseness s.Equal = 5
sign_looseness s.NotEqual = 5
sign_looseness s.And = 6
sign_looseness s.Or = 7
sign_looseness s.Question = 8
sign_looseness s.Assign = 9
sign_looseness s.PlusAssign = 9
sign_looseness s.MinusAssign = 9
sign_looseness s.TimesAssign = 9
sign_looseness s.DivideAssign = 9
sign_looseness s.ModuloAssign = 9
sign_looseness _ = 10

abbrev pub as_word : List ℕ
as_word = codes "as"

-- `is` and `as` join as comparisons do
abbrev pub form_looseness : Form → ℕ
form_looseness (f.Sign x) = sign_looseness x
form_looseness (f.Word w.Is) = 4
form_looseness (f.Name x) = if bytes_eq as_word x then 4 else 10
form_looseness _ = 10

-- of the next token
abbrev pub looseness : Tokens → ℕ
looseness [] = 10
looseness (t ∷ ts) = form_looseness t.form

-- an expression ends before a token that does not join
abbrev pub joins : Tokens → Bool
joins ts = not (looseness ts == 10)
