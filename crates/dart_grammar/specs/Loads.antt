-- The load of a token: how deep a parser is at it, at most. Each open bracket has a run of counted tokens, and so has the
-- file itself; the innermost stands first.
use Rattle.std.specs.Prelude.{ℕ, suc, ◌+◌, ◌-◌, Bool, true, false, ◌||◌, if◌then◌else◌, nat_lt, List, [], ◌∷◌, length, sum, Option, Some, None, is_some}
use Rattle.dart_syntax.specs.declared.words.Word.TheVariants as w
use Rattle.dart_syntax.specs.declared.words.Sign.{Sign}
use Rattle.dart_syntax.specs.declared.words.Sign.TheVariants as s
use Rattle.dart_syntax.specs.declared.tokens.Form.{Form}
use Rattle.dart_syntax.specs.declared.tokens.Form.TheVariants as f
use Rattle.dart_grammar.specs.Marks.{Tokens, is_word, is_sign, is_named, next, as_word, operator_of}
use Rattle.dart_grammar.specs.Shapes.{opens, closes}

abbrev pub Runs : Type 0
Runs = List ℕ

-- all signs but brackets, `;`, `,`, `:` and `@`
abbrev pub is_counted_sign : Sign → Bool
is_counted_sign s.OpenBrace = false
is_counted_sign s.CloseBrace = false
is_counted_sign s.OpenParen = false
is_counted_sign s.CloseParen = false
is_counted_sign s.OpenBracket = false
is_counted_sign s.CloseBracket = false
is_counted_sign s.Semicolon = false
is_counted_sign s.Comma = false
is_counted_sign s.Colon = false
is_counted_sign s.At = false
is_counted_sign _ = true

-- these signs, and is, as, throw, if, else, for, while and do
abbrev pub is_counted : Form → Bool
is_counted (f.Sign x) = is_counted_sign x
is_counted (f.Word w.Is) = true
is_counted (f.Word w.Throw) = true
is_counted (f.Word w.If) = true
is_counted (f.Word w.Else) = true
is_counted (f.Word w.For) = true
is_counted (f.Word w.While) = true
is_counted (f.Word w.Do) = true
is_counted (f.Name x) = is_named as_word (f.Name x)
is_counted _ = false

abbrev pub is_two_sided : Form → Bool
is_two_sided (f.Sign x) = is_some (operator_of x)
is_two_sided _ = false

-- what stands before it goes on behind a `}`
abbrev pub goes_on : Form → Bool
goes_on form = is_word w.Else form || is_sign s.Dot form || is_sign s.Question form || is_two_sided form

-- the innermost run begins anew
abbrev pub anew : Runs → Runs
anew [] = []
anew (n ∷ runs) = 0 ∷ runs

abbrev pub counted : Runs → Runs
counted [] = []
counted (n ∷ runs) = suc n ∷ runs

-- the innermost bracket is closed; the file itself stays
abbrev pub left : Runs → Runs
left [] = []
left (n ∷ []) = n ∷ []
left (n ∷ m ∷ runs) = m ∷ runs

-- the runs behind a token, before these tokens
abbrev pub passed : Form → Tokens → Runs → Runs
passed form ts runs =
    if opens form then 0 ∷ runs
    else if is_sign s.CloseBrace form then (if next goes_on ts then left runs else anew (left runs))
    else if closes form then left runs
    else if is_sign s.Semicolon form || is_sign s.Comma form then anew runs
    else if is_counted form then counted runs
    else runs

-- the brackets that are open, and the counted tokens in the runs
abbrev pub load : Runs → ℕ
load runs = (length runs - 1) + sum runs

abbrev pub greatest_load : ℕ
greatest_load = 200

-- where the first token begins whose load is too great
unfoldable pub overload : Runs → Tokens → Option ℕ
overload runs [] = None
overload runs (t ∷ ts) = if nat_lt greatest_load (load runs) then Some t.from else overload (passed t.form ts runs) ts

-- of the tokens of a file
abbrev pub first_overload : Tokens → Option ℕ
first_overload ts = overload (0 ∷ []) ts
