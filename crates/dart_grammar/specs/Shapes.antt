-- Choices that look ahead: what begins here is told by the shape of the tokens, without a derivation.
use Rattle.std.specs.Prelude.{ℕ, zero, suc, ◌-◌, Bool, true, false, not, ◌&&◌, ◌||◌, ◌==◌, if◌then◌else◌, List, [], ◌∷◌, length, Option, Some, None, codes}
use Rattle.dart_syntax.specs.declared.words.Word.TheVariants as w
use Rattle.dart_syntax.specs.declared.words.Sign.{Sign}
use Rattle.dart_syntax.specs.declared.words.Sign.TheVariants as s
use Rattle.dart_syntax.specs.declared.tokens.Form.{Form}
use Rattle.dart_syntax.specs.declared.tokens.Form.TheVariants as f
use Rattle.dart_grammar.specs.declared.kinds.Kind.{Kind}
use Rattle.dart_grammar.specs.declared.kinds.Kind.TheVariants.{Variables, Typed, Untyped, Expression}
use Rattle.dart_grammar.specs.declared.kinds.ForKind.{ForKind}
use Rattle.dart_grammar.specs.declared.kinds.ForKind.TheVariants.{In, DeclaredIn, Declared, Expressions}
use Rattle.dart_grammar.specs.Marks.{Tokens, is_sign, is_name, is_named, next, next_word, next_sign, next_name, behind, as_word}

infixl 10 ◌>>=◌
abbrev pub ◌>>=◌ : {A B : Type 0} → Option A → (A → Option B) → Option B
None >>= f = None
(Some x) >>= f = f x

-- behind this sign
abbrev pub past : Sign → Tokens → Option Tokens
past x ts = if next_sign x ts then Some (behind ts) else None

-- ---- types

-- behind a name, or two with a dot between
abbrev pub dotted_end : Tokens → Option Tokens
dotted_end ts =
    if next_name ts then (if next_sign s.Dot (behind ts) && next_name (behind (behind ts)) then Some (behind (behind (behind ts))) else Some (behind ts))
    else None

-- what may stand in type arguments besides `<` and `>`
abbrev pub is_of_types : Form → Bool
is_of_types form = is_name form || is_sign s.Dot form || is_sign s.Comma form

-- behind the `>` that closes the outermost of n open `<`
unfoldable pub angles_end : ℕ → Tokens → Option Tokens
angles_end n [] = None
angles_end n (t ∷ ts) =
    if is_sign s.Less t.form then angles_end (suc n) ts
    else if is_sign s.Greater t.form then (if n == 1 then Some ts else angles_end (n - 1) ts)
    else if is_of_types t.form then angles_end n ts
    else None

-- behind type arguments, where there are some
abbrev pub arguments_end : Tokens → Option Tokens
arguments_end ts = if next_sign s.Less ts then angles_end 0 ts else Some ts

-- behind a type
abbrev pub type_end : Tokens → Option Tokens
type_end ts = dotted_end ts >>= arguments_end

-- A type, or `void`, stands before the name that is declared: a name has no other name, `this`, `.` or `<` behind it.
abbrev pub begins_type : Tokens → Bool
begins_type ts =
    next_word w.Void ts ||
    (next_name ts && (next_name (behind ts) || next_word w.This (behind ts) || next_sign s.Dot (behind ts) || next_sign s.Less (behind ts)))

-- behind a type or `void`, where one stands before a name
abbrev pub result_end : Tokens → Option Tokens
result_end ts = if next_word w.Void ts then Some (behind ts) else if begins_type ts then type_end ts else Some ts

-- ---- brackets

-- The brackets are `( [ {` and the `${` of an interpolation.
abbrev pub opens : Form → Bool
opens f.Enter = true
opens form = is_sign s.OpenParen form || is_sign s.OpenBracket form || is_sign s.OpenBrace form

abbrev pub closes : Form → Bool
closes f.Leave = true
closes form = is_sign s.CloseParen form || is_sign s.CloseBracket form || is_sign s.CloseBrace form

-- behind the bracket that closes the outermost of n open ones
unfoldable pub brackets_end : ℕ → Tokens → Option Tokens
brackets_end n [] = None
brackets_end n (t ∷ ts) =
    if opens t.form then brackets_end (suc n) ts
    else if closes t.form then (if n == 1 then Some ts else brackets_end (n - 1) ts)
    else brackets_end n ts

-- ---- parameters

-- behind one name to three
abbrev pub names_end : Tokens → Option Tokens
names_end ts = dotted_end ts >>= λ mid. if next_sign s.Dot mid && next_name (behind mid) then Some (behind (behind mid)) else Some mid

-- behind arguments, where there are some
abbrev pub bracketed_end : Tokens → Option Tokens
bracketed_end ts = if next_sign s.OpenParen ts then brackets_end 0 ts else Some ts

-- behind `@`, its names and its arguments, as often as they stand here; the number bounds how often
unfoldable pub metadata_end : ℕ → Tokens → Option Tokens
metadata_end zero ts = Some ts
metadata_end (suc n) ts = if next_sign s.At ts then (names_end (behind ts) >>= bracketed_end >>= metadata_end n) else Some ts

-- whether an operand ends with the token, where `before` says whether one stood before it
abbrev pub ends_operand : Bool → Form → Bool
ends_operand before (f.Name x) = true
ends_operand before (f.Number n) = true
ends_operand before f.TextClose = true
ends_operand before (f.Word w.This) = true
ends_operand before (f.Word w.Super) = true
ends_operand before (f.Word w.Null) = true
ends_operand before (f.Word w.True) = true
ends_operand before (f.Word w.False) = true
ends_operand before (f.Sign s.Increment) = before
ends_operand before (f.Sign s.Decrement) = before
ends_operand before _ = false

-- whether the token goes on with the type behind `new`, `is` or `as`
abbrev pub is_in_type : Bool → Bool → Form → Bool
is_in_type operand typed (f.Word w.New) = true
is_in_type operand typed (f.Word w.Is) = true
is_in_type operand typed (f.Name x) = typed || (operand && is_named as_word (f.Name x))
is_in_type operand typed (f.Sign s.Dot) = typed
is_in_type operand typed (f.Sign s.Not) = typed
is_in_type operand typed _ = false

-- At the comma or the bracket that ends a default. So many brackets and `<` are open in it. A `<` begins type arguments,
-- whose commas separate no parameters, where no operand stands before it, and in the type behind `new`, `is` and `as`.
unfoldable pub default_end : ℕ → ℕ → Bool → Bool → Tokens → Option Tokens
default_end depth angles operand typed [] = None
default_end (suc depth) angles operand typed (t ∷ ts) =
    if opens t.form then default_end (suc (suc depth)) angles operand typed ts
    else if closes t.form then default_end depth angles true false ts
    else default_end (suc depth) angles operand typed ts
default_end zero (suc angles) operand typed (t ∷ ts) =
    if is_sign s.Less t.form then default_end zero (suc (suc angles)) operand typed ts
    else if is_sign s.Greater t.form then default_end zero angles operand typed ts
    else default_end zero (suc angles) operand typed ts
default_end zero zero operand typed (t ∷ ts) =
    if is_sign s.Comma t.form || closes t.form then Some (t ∷ ts)
    else if opens t.form then default_end 1 zero operand typed ts
    else if is_sign s.Less t.form && (typed || not operand) then default_end zero 1 operand typed ts
    else default_end zero zero (ends_operand operand t.form) (is_in_type operand typed t.form) ts

abbrev pub past_default : Tokens → Option Tokens
past_default ts = if next_sign s.Assign ts then default_end zero zero false false (behind ts) else Some ts

abbrev pub modifier_end : Tokens → Tokens
modifier_end ts = if next_word w.Var ts || next_word w.Final ts then behind ts else ts

-- behind `this.`, where it stands
abbrev pub this_end : Tokens → Option Tokens
this_end ts = if next_word w.This ts then past s.Dot (behind ts) else Some ts

abbrev pub name_end : Tokens → Option Tokens
name_end ts = if next_name ts then Some (behind ts) else None

-- behind the name of a parameter
unfoldable pub parameter_name_end : Tokens → Option Tokens
parameter_name_end ts = metadata_end (length ts) ts >>= λ mid. result_end (modifier_end mid) >>= this_end >>= name_end

-- Behind the bracket that closes parameters, from behind the one that opens them. The number bounds the turns; each takes
-- a token.
unfoldable mutual
  pub parameters_end : ℕ → Tokens → Option Tokens
  parameters_end zero ts = None
  parameters_end (suc n) ts = if next_sign s.CloseParen ts then Some (behind ts) else required_end n ts

  pub required_end : ℕ → Tokens → Option Tokens
  required_end zero ts = None
  required_end (suc n) ts =
      if next_sign s.OpenBracket ts then (optional_end n (behind ts) >>= past s.CloseParen)
      else (parameter_name_end ts >>= λ mid. nested_end n mid >>= λ after.
      if next_sign s.Comma after then required_end n (behind after) else past s.CloseParen after)

  -- the parameters of a parameter that is a function
  pub nested_end : ℕ → Tokens → Option Tokens
  nested_end zero ts = None
  nested_end (suc n) ts = if next_sign s.OpenParen ts then parameters_end n (behind ts) else Some ts

  pub optional_end : ℕ → Tokens → Option Tokens
  optional_end zero ts = None
  optional_end (suc n) ts = parameter_name_end ts >>= λ mid. nested_end n mid >>= λ after. past_default after >>= λ late.
      if next_sign s.Comma late then optional_end n (behind late) else past s.CloseBracket late

abbrev pub begins_body : Tokens → Bool
begins_body ts = next_sign s.Arrow ts || next_sign s.OpenBrace ts

abbrev pub is_before_body : Option Tokens → Bool
is_before_body None = false
is_before_body (Some ts) = begins_body ts

-- behind a `(`: parameters stand here, and a body behind them
unfoldable pub opens_function : Tokens → Bool
opens_function ts = is_before_body (parameters_end (suc (suc (suc (length ts)))) ts)

-- ---- statements

-- a map literal begins with `{`, or with type arguments and `{`
abbrev pub is_before_brace : Option Tokens → Bool
is_before_brace None = false
is_before_brace (Some ts) = next_sign s.OpenBrace ts

abbrev pub begins_map : Tokens → Bool
begins_map ts = is_before_brace (arguments_end ts)

-- at the name that is declared behind `var`, `final`, `const` or a type
abbrev pub lead_end : Tokens → Option Tokens
lead_end ts =
    if next_word w.Var ts then Some (behind ts)
    else if next_word w.Final ts || next_word w.Const ts then (if begins_type (behind ts) then type_end (behind ts) else Some (behind ts))
    else type_end ts

-- A name stands here that can be declared. `a as B` is an expression, and `a as;` declares the name `as`.
abbrev pub is_declaring : Option Tokens → Bool
is_declaring None = false
is_declaring (Some ts) = next_name ts && not (next (is_named as_word) ts && next_name (behind ts))

abbrev pub is_call : Option Tokens → Bool
is_call None = false
is_call (Some ts) = next_sign s.OpenParen (behind ts)

abbrev pub begins_untyped : Tokens → Bool
begins_untyped ts = next_name ts && (next_sign s.OpenParen (behind ts) && opens_function (behind (behind ts)))

abbrev pub begins_variables : Tokens → Bool
begins_variables ts = next_word w.Var ts || next_word w.Final ts || next_word w.Const ts

-- What a statement that begins with no word or sign of its own is. A name and `<` begin a type.
unfoldable pub kind_of : Tokens → Kind
kind_of ts =
    if begins_variables ts then Variables
    else if next_word w.Void ts then Typed
    else if (next_name ts && next_sign s.Less (behind ts)) || is_declaring (type_end ts) then (if is_call (type_end ts) then Typed else Variables)
    else if begins_untyped ts then Untyped
    else Expression

abbrev pub is_before_in : Option Tokens → Bool
is_before_in None = false
is_before_in (Some ts) = next_word w.In (behind ts)

-- what stands behind the `(` of a `for`
unfoldable pub for_kind_of : Tokens → ForKind
for_kind_of ts =
    if next_name ts && next_word w.In (behind ts) then In
    else if begins_variables ts || is_declaring (lead_end ts) then (if is_before_in (lead_end ts) then DeclaredIn else Declared)
    else Expressions

-- a clause of a `try`: `catch`, or `on`, a type, and a block or `catch`
abbrev pub is_before_clause : Option Tokens → Bool
is_before_clause None = false
is_before_clause (Some ts) = next_sign s.OpenBrace ts || next_word w.Catch ts

abbrev pub on_word : List ℕ
on_word = codes "on"

unfoldable pub begins_clause : Tokens → Bool
begins_clause ts = next_word w.Catch ts || (next (is_named on_word) ts && is_before_clause (type_end (behind ts)))
