-- What is taken from the front of tokens.
use Rattle.std.specs.Prelude.{◌≡◌, ℕ, ◌^◌, Bool, true, false, not, ◌&&◌, nat_le, nat_lt, if◌then◌else◌, List, [], ◌∷◌, Option, Some, None, Result, Ok, Err, codes}
use Rattle.std.specs.Str.{bytes_eq}
use Rattle.std.specs.Str.Parse.{digits_value}
use Rattle.std.specs.Fmt.{decimal}
use Rattle.js_tree.specs.Tokens.{Bytes, Form, Run, Quoted, Sign, Tokens}
use Rattle.js_tree.specs.Grammar.{Names, is_name, is_among, greatest}
use Rattle.js_tree.specs.declared.words.JsMember.{JsMember}
use Rattle.js_tree.specs.declared.words.JsMember.TheVariants as m
use Rattle.js_tree.specs.declared.words.JsOperator.{JsOperator}
use Rattle.js_tree.specs.declared.words.JsOperator.TheVariants as o
use Rattle.js_reader.specs.declared.fault.JsFault.{JsFault}
use Rattle.js_reader.specs.declared.fault.JsFault.TheVariants.{NotInProfile, Memory}

-- what is read, and the tokens that follow; or the place of the first token that can't be taken on
abbrev pub Found : Type 0 → Type 0
Found A = Result (A × Tokens) ℕ

abbrev pub Parser : Type 0 → Type 0
Parser A = Tokens → Found A

infixl 10 ◌>>=◌
abbrev pub ◌>>=◌ : {A B : Type 0} → Result A ℕ → (A → Result B ℕ) → Result B ℕ
(Ok x) >>= f = f x
(Err at) >>= f = Err at

-- What a function that parses ensures, seen by view: the parser's answer, unless memory ran out.
abbrev pub Fails : {Y : Type 0} → JsFault → Result Y ℕ → Type 0
Fails Memory found = Unit {0}
Fails (NotInProfile at) found = found ≡ Err at

abbrev pub Gives : {X Y : Type 0} → (X → Y) → Result X JsFault → Result Y ℕ → Type 0
Gives view (Ok x) found = found ≡ Ok (view x)
Gives view (Err fault) found = Fails fault found

-- ---- the next token

-- where it begins, in a file of this size
abbrev pub place : ℕ → Tokens → ℕ
place size [] = size
place size (t ∷ ts) = t.place.from

-- what is answered where it can't be taken on
abbrev pub refused : ℕ → Tokens → JsFault
refused size ts = NotInProfile (place size ts)

abbrev pub is_end : Tokens → Bool
is_end [] = true
is_end (t ∷ ts) = false

-- whether a line ends before it
abbrev pub on_new_line : Tokens → Bool
on_new_line [] = false
on_new_line (t ∷ ts) = t.place.on_new_line

abbrev pub sign_by : Form → Bytes
sign_by (Sign text) = text
sign_by _ = []

abbrev pub word_by : Form → Bytes
word_by (Run text) = text
word_by _ = []

abbrev pub string_by : Form → Option (List ℕ)
string_by (Quoted us) = Some us
string_by _ = None

-- its bytes, if it is a sign
abbrev pub sign_of : Tokens → Bytes
sign_of [] = []
sign_of (t ∷ ts) = sign_by t.form

-- its bytes, if it is a run
abbrev pub word_of : Tokens → Bytes
word_of [] = []
word_of (t ∷ ts) = word_by t.form

-- its units, if it is a string
abbrev pub string_of : Tokens → Option (List ℕ)
string_of [] = None
string_of (t ∷ ts) = string_by t.form

abbrev pub behind : Tokens → Tokens
behind [] = []
behind (t ∷ ts) = ts

abbrev pub is_some_text : Bytes → Bool
is_some_text [] = false
is_some_text (b ∷ bs) = true

-- what follows the sign at the front, if there is one
unfoldable pub after_sign : Tokens → Tokens
after_sign ts = if is_some_text (sign_of ts) then behind ts else ts

-- what follows the run at the front, if there is one
unfoldable pub after_word : Tokens → Tokens
after_word ts = if is_some_text (word_of ts) then behind ts else ts

abbrev pub sign_is : Bytes → Tokens → Bool
sign_is text ts = bytes_eq (sign_of ts) text

abbrev pub word_is : Bytes → Tokens → Bool
word_is text ts = bytes_eq (word_of ts) text

-- ---- numbers, members and operators

-- the number below 2^64 whose decimal digits these are, without a leading zero
unfoldable pub whole_of : Bytes → Option ℕ
whole_of text = if nat_lt (digits_value 10 text) (2 ^ 64) && bytes_eq text (decimal (digits_value 10 text)) then Some (digits_value 10 text) else None

abbrev pub limited : Option ℕ → Option ℕ
limited None = None
limited (Some n) = if nat_le n greatest then Some n else None

abbrev pub number_of : Bytes → Option ℕ
number_of text = limited (whole_of text)

abbrev pub member_of : Bytes → Option JsMember
member_of x =
    if bytes_eq x (codes "length") then Some m.Length
    else (if bytes_eq x (codes "size") then Some m.Size
    else (if bytes_eq x (codes "push") then Some m.Push
    else (if bytes_eq x (codes "pop") then Some m.Pop
    else (if bytes_eq x (codes "charCodeAt") then Some m.CharCodeAt
    else (if bytes_eq x (codes "substring") then Some m.Substring
    else (if bytes_eq x (codes "get") then Some m.Get
    else (if bytes_eq x (codes "set") then Some m.Set
    else (if bytes_eq x (codes "has") then Some m.Has
    else (if bytes_eq x (codes "delete") then Some m.Delete
    else (if bytes_eq x (codes "keys") then Some m.Keys
    else (if bytes_eq x (codes "print") then Some m.Print
    else (if bytes_eq x (codes "load") then Some m.Load
    else None))))))))))))

abbrev pub operator_of : Bytes → Option JsOperator
operator_of x =
    if bytes_eq x (codes "+") then Some o.Plus
    else (if bytes_eq x (codes "-") then Some o.Minus
    else (if bytes_eq x (codes "*") then Some o.Times
    else (if bytes_eq x (codes "/") then Some o.Divide
    else (if bytes_eq x (codes "%") then Some o.Remainder
    else (if bytes_eq x (codes "===") then Some o.Equal
    else (if bytes_eq x (codes "<") then Some o.Less
    else (if bytes_eq x (codes ">") then Some o.Greater
    else (if bytes_eq x (codes "<=") then Some o.LessEqual
    else (if bytes_eq x (codes ">=") then Some o.GreaterEqual
    else None)))))))))

-- ---- the next token, taken in a file of this size

-- this sign
unfoldable pub expect : ℕ → Bytes → Tokens → Result Tokens ℕ
expect size text ts = if sign_is text ts then Ok (after_sign ts) else Err (place size ts)

-- this word
unfoldable pub expect_word : ℕ → Bytes → Tokens → Result Tokens ℕ
expect_word size text ts = if word_is text ts then Ok (after_word ts) else Err (place size ts)

-- nothing, but on the line of the token before
unfoldable pub on_line : ℕ → Tokens → Result Tokens ℕ
on_line size ts = if on_new_line ts then Err (place size ts) else Ok ts

unfoldable pub name_at : ℕ → Parser Bytes
name_at size ts = if is_name (word_of ts) then Ok (word_of ts, after_word ts) else Err (place size ts)

-- a name that is none of these
unfoldable pub fresh_name : ℕ → Names → Parser Bytes
fresh_name size names ts = if is_name (word_of ts) && not (is_among names (word_of ts)) then Ok (word_of ts, after_word ts) else Err (place size ts)

abbrev pub found_by : {A : Type 0} → ℕ → Option A → Tokens → Tokens → Found A
found_by size None ts rest = Err (place size ts)
found_by size (Some x) ts rest = Ok (x, rest)

unfoldable pub number_at : ℕ → Parser ℕ
number_at size ts = found_by size (number_of (word_of ts)) ts (after_word ts)

unfoldable pub member_at : ℕ → Parser JsMember
member_at size ts = found_by size (member_of (word_of ts)) ts (after_word ts)

unfoldable pub string_at : ℕ → Parser (List ℕ)
string_at size ts = found_by size (string_of ts) ts (behind ts)

-- the names with this one, if it is fresh
abbrev pub added : Bool → Bytes → Names → Names
added true x names = x ∷ names
added false x names = names
