-- The table of tokens: which bytes spell which token.
use Rattle.std.specs.Prelude.{◌≡◌, ◌≤◌, ℕ, ◌+◌, ◌-◌, ◌*◌, Bool, true, false, ◌&&◌, ◌||◌, ◌==◌, if◌then◌else◌, nat_le, List, [], ◌∷◌, ◌++◌, drop, Option, find, codes, ◌⊎◌}
use Rattle.std.specs.List.{list_all}
use Rattle.std.specs.Str.{bytes_eq}
use Rattle.dart_syntax.specs.declared.words.Word.{Word}
use Rattle.dart_syntax.specs.declared.words.Word.TheVariants as w
use Rattle.dart_syntax.specs.declared.words.Sign.{Sign}
use Rattle.dart_syntax.specs.declared.words.Sign.TheVariants as s
use Rattle.dart_syntax.specs.declared.words.TheConstants.{WORDS}
use Rattle.dart_syntax.specs.declared.tokens.Form.{Form}
use Rattle.dart_syntax.specs.declared.tokens.Form.TheVariants.{Name, Word as Reserved, Number, Sign as Signed, TextOpen, Piece, Enter, Leave, TextClose}

abbrev pub Bytes : Type 0
Bytes = List ℕ

-- ---- bytes

abbrev pub is_digit : ℕ → Bool
is_digit b = nat_le 48 b && nat_le b 57

-- a to z, A to Z, _ and $
abbrev pub is_start : ℕ → Bool
is_start b = (nat_le 97 b && nat_le b 122) || (nat_le 65 b && nat_le b 90) || b == 95 || b == 36

abbrev pub is_part : ℕ → Bool
is_part b = is_start b || is_digit b

-- 0 to 9, a to f and A to F
abbrev pub is_hex : ℕ → Bool
is_hex b = is_digit b || (nat_le 97 b && nat_le b 102) || (nat_le 65 b && nat_le b 70)

-- blank, tab, CR, LF
abbrev pub is_blank : ℕ → Bool
is_blank b = b == 32 || b == 9 || b == 13 || b == 10

-- the longest front of such bytes, and what follows it
abbrev pub front : (ℕ → Bool) → Bytes → Bytes
front p [] = []
front p (b ∷ bs) = if p b then b ∷ front p bs else []

abbrev pub back : (ℕ → Bool) → Bytes → Bytes
back p [] = []
back p (b ∷ bs) = if p b then back p bs else b ∷ bs

-- ---- reserved words, names and signs

abbrev pub spelling_of_word : Word → Bytes
spelling_of_word w.Assert = codes "assert"
spelling_of_word w.Break = codes "break"
spelling_of_word w.Case = codes "case"
spelling_of_word w.Catch = codes "catch"
spelling_of_word w.Class = codes "class"
spelling_of_word w.Const = codes "const"
spelling_of_word w.Continue = codes "continue"
spelling_of_word w.Default = codes "default"
spelling_of_word w.Do = codes "do"
spelling_of_word w.Else = codes "else"
spelling_of_word w.Enum = codes "enum"
spelling_of_word w.Extends = codes "extends"
spelling_of_word w.False = codes "false"
spelling_of_word w.Final = codes "final"
spelling_of_word w.Finally = codes "finally"
spelling_of_word w.For = codes "for"
spelling_of_word w.If = codes "if"
spelling_of_word w.In = codes "in"
spelling_of_word w.Is = codes "is"
spelling_of_word w.New = codes "new"
spelling_of_word w.Null = codes "null"
spelling_of_word w.Rethrow = codes "rethrow"
spelling_of_word w.Return = codes "return"
spelling_of_word w.Super = codes "super"
spelling_of_word w.Switch = codes "switch"
spelling_of_word w.This = codes "this"
spelling_of_word w.Throw = codes "throw"
spelling_of_word w.True = codes "true"
spelling_of_word w.Try = codes "try"
spelling_of_word w.Var = codes "var"
spelling_of_word w.Void = codes "void"
spelling_of_word w.While = codes "while"
spelling_of_word w.With = codes "with"

abbrev pub spelling_of_sign : Sign → Bytes
spelling_of_sign s.OpenBrace = codes "{"
spelling_of_sign s.CloseBrace = codes "}"
spelling_of_sign s.OpenParen = codes "("
spelling_of_sign s.CloseParen = codes ")"
spelling_of_sign s.OpenBracket = codes "["
spelling_of_sign s.CloseBracket = codes "]"
spelling_of_sign s.Semicolon = codes ";"
spelling_of_sign s.Comma = codes ","
spelling_of_sign s.Dot = codes "."
spelling_of_sign s.Colon = codes ":"
spelling_of_sign s.Question = codes "?"
spelling_of_sign s.At = codes "@"
spelling_of_sign s.Assign = codes "="
spelling_of_sign s.Arrow = codes "=>"
spelling_of_sign s.Equal = codes "=="
spelling_of_sign s.NotEqual = codes "!="
spelling_of_sign s.Less = codes "<"
spelling_of_sign s.Greater = codes ">"
spelling_of_sign s.LessEqual = codes "<="
spelling_of_sign s.GreaterEqual = codes ">="
spelling_of_sign s.Plus = codes "+"
spelling_of_sign s.Minus = codes "-"
spelling_of_sign s.Times = codes "*"
spelling_of_sign s.Modulo = codes "%"
spelling_of_sign s.Divide = codes "~/"
spelling_of_sign s.Not = codes "!"
spelling_of_sign s.And = codes "&&"
spelling_of_sign s.Or = codes "||"
spelling_of_sign s.Increment = codes "++"
spelling_of_sign s.Decrement = codes "--"
spelling_of_sign s.PlusAssign = codes "+="
spelling_of_sign s.MinusAssign = codes "-="
spelling_of_sign s.TimesAssign = codes "*="
spelling_of_sign s.DivideAssign = codes "~/="
spelling_of_sign s.ModuloAssign = codes "%="

-- the word that these bytes spell
abbrev pub word_of : Bytes → Option Word
word_of t = find (λ x. bytes_eq (spelling_of_word x) t) WORDS

abbrev pub is_identifier : Bytes → Bool
is_identifier [] = false
is_identifier (b ∷ bs) = is_start b && list_all is_part bs

-- ---- whole numbers

abbrev pub is_digits : Bytes → Bool
is_digits [] = false
is_digits (b ∷ bs) = is_digit b && list_all is_digit bs

abbrev pub is_x : ℕ → Bool
is_x b = b == 120 || b == 88

-- 0x or 0X and hexadecimal digits
abbrev pub is_hexadecimal : Bytes → Bool
is_hexadecimal [] = false
is_hexadecimal (a ∷ []) = false
is_hexadecimal (a ∷ x ∷ []) = false
is_hexadecimal (a ∷ x ∷ d ∷ digits) = (a == 48 && is_x x) && (is_hex d && list_all is_hex digits)

abbrev pub digit_of : ℕ → ℕ
digit_of b = if is_digit b then b - 48 else if nat_le 97 b then b - 87 else b - 55

-- the number that digits of this base write, behind those of n
abbrev pub value_from : ℕ → ℕ → Bytes → ℕ
value_from base n [] = n
value_from base n (b ∷ bs) = value_from base (base * n + digit_of b) bs

abbrev pub IsDecimal : Bytes → ℕ → Type 0
IsDecimal t n = (is_digits t ≡ true) × (n ≡ value_from 10 0 t)

abbrev pub IsHexadecimal : Bytes → ℕ → Type 0
IsHexadecimal t n = (is_hexadecimal t ≡ true) × (n ≡ value_from 16 0 (drop 2 t))

-- ---- tokens

-- These bytes, all of them, spell a token of this form. The tokens of texts have no spelling of their own.
abbrev pub Spells : Bytes → Form → Type 0
Spells t (Name x) = (x ≡ t) × (is_identifier t ≡ true) × ((word : Word) → spelling_of_word word ≡ t → ⊥)
Spells t (Reserved x) = t ≡ spelling_of_word x
Spells t (Number n) = IsDecimal t n ⊎ IsHexadecimal t n
Spells t (Signed x) = t ≡ spelling_of_sign x
Spells t TextOpen = ⊥
Spells t (Piece us) = ⊥
Spells t Enter = ⊥
Spells t Leave = ⊥
Spells t TextClose = ⊥

-- no more of what follows belongs to it
abbrev pub IsLongest : Bytes → Bytes → Type 0
IsLongest t rest = (more after : Bytes) (form : Form) → rest ≡ more ++ after → Spells (t ++ more) form → more ≡ []

abbrev pub limit : ℕ
limit = 9007199254740991

-- a double goes on so behind its first digits: with a point and a digit, or with an exponent
abbrev pub goes_on_as_double : Bytes → Bool
goes_on_as_double [] = false
goes_on_as_double (b ∷ []) = b == 101 || b == 69
goes_on_as_double (b ∷ c ∷ bs) = (b == 101 || b == 69) || (b == 46 && is_digit c)

-- a number is small enough, and begins no double
abbrev pub IsAllowed : Form → Bytes → Type 0
IsAllowed (Name x) rest = Unit {0}
IsAllowed (Reserved x) rest = Unit {0}
IsAllowed (Number n) rest = (n ≤ limit) × (goes_on_as_double rest ≡ false)
IsAllowed (Signed x) rest = Unit {0}
IsAllowed TextOpen rest = Unit {0}
IsAllowed (Piece us) rest = Unit {0}
IsAllowed Enter rest = Unit {0}
IsAllowed Leave rest = Unit {0}
IsAllowed TextClose rest = Unit {0}
