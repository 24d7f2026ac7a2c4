-- The tokens of a file, from its front.
use Rattle.std.specs.Prelude.{ℕ, zero, suc, ◌+◌, ◌-◌, ◌*◌, Bool, false, ◌||◌, ◌&&◌, ◌==◌, if◌then◌else◌, List, [], ◌∷◌, ◌++◌, length, take, drop, Option, Some, None}
use Rattle.js_tree.specs.Tokens.{Bytes, is_part, ends_line, is_blank, is_plain, is_hex, hex_value, Form, Run, Quoted, Sign, Unreadable, Tokens}

-- the longest front of such bytes, and what follows it
abbrev pub front : (ℕ → Bool) → Bytes → Bytes
front p [] = []
front p (b ∷ bs) = if p b then b ∷ front p bs else []

abbrev pub back : (ℕ → Bool) → Bytes → Bytes
back p [] = []
back p (b ∷ bs) = if p b then back p bs else b ∷ bs

-- whether a line ended before, or ends in the blanks at the front
abbrev pub line_ends : Bool → Bytes → Bool
line_ends line [] = line
line_ends line (b ∷ bs) = if is_blank b then line_ends (line || ends_line b) bs else line

-- ---- signs

abbrev pub begins : ℕ → Bytes → Bool
begins wanted [] = false
begins wanted (b ∷ bs) = b == wanted

abbrev pub begins_twice : ℕ → Bytes → Bool
begins_twice wanted [] = false
begins_twice wanted (b ∷ bs) = b == wanted && begins wanted bs

-- + - * / % ( ) [ ] { } ; , . :
abbrev pub is_single : ℕ → Bool
is_single b =
    b == 40 || b == 41 || b == 42 || b == 43 || b == 44 || b == 45 || b == 46 || b == 47 || b == 37 || b == 58 || b == 59 || b == 91 || b == 93 || b == 123 || b == 125

-- how long the sign is that begins with this byte, before those; 0 where none does
abbrev pub length_from : ℕ → Bytes → ℕ
length_from b bs =
    if b == 61 then (if begins_twice 61 bs then 3 else 1)
    else (if b == 60 || b == 62 then (if begins 61 bs then 2 else 1) else (if is_single b then 1 else 0))

unfoldable pub sign_length : Bytes → ℕ
sign_length [] = 0
sign_length (b ∷ bs) = if is_part b || b == 34 then 0 else length_from b bs

-- ---- strings

abbrev pub unit_of : ℕ → ℕ → ℕ → ℕ → ℕ
unit_of a b c d = 4096 * hex_value a + 256 * hex_value b + 16 * hex_value c + hex_value d

abbrev pub hexadecimal : Bytes → Option (ℕ × Bytes)
hexadecimal (a ∷ b ∷ c ∷ d ∷ bs) = if is_hex a && is_hex b && is_hex c && is_hex d then Some (unit_of a b c d, bs) else None
hexadecimal _ = None

-- the unit that is escaped behind a backslash
unfoldable pub escaped : Bytes → Option (ℕ × Bytes)
escaped [] = None
escaped (b ∷ bs) = if b == 34 || b == 92 then Some (b, bs) else (if b == 117 then hexadecimal bs else None)

-- one unit of a string
unfoldable pub unit_at : Bytes → Option (ℕ × Bytes)
unit_at [] = None
unit_at (b ∷ bs) = if is_plain b then Some (b, bs) else (if b == 92 then escaped bs else None)

abbrev pub and_then : Option (ℕ × Bytes) → (ℕ → Bytes → Option (List ℕ × Bytes)) → Option (List ℕ × Bytes)
and_then None f = None
and_then (Some x) f = f x.0 x.1

-- The units of a string behind its first quote, and what follows its last one. The number bounds the units.
unfoldable pub units_from : ℕ → List ℕ → Bytes → Option (List ℕ × Bytes)
units_from zero found bs = None
units_from (suc n) found bs = if begins 34 bs then Some (found, drop 1 bs) else and_then (unit_at bs) (λ u rest. units_from n (found ++ u ∷ []) rest)

-- the units of the string that the bytes begin with, and what follows it
unfoldable pub quoted : Bytes → Option (List ℕ × Bytes)
quoted bs = if begins 34 bs then units_from (length (drop 1 bs)) [] (drop 1 bs) else None

-- ---- tokens

abbrev pub string_form : Option (List ℕ × Bytes) → Form × Bytes
string_form None = (Unreadable, [])
string_form (Some x) = (Quoted x.0, x.1)

abbrev pub sign_form : ℕ → Bytes → Form × Bytes
sign_form zero bs = (Unreadable, [])
sign_form (suc n) bs = (Sign (take (suc n) bs), drop (suc n) bs)

-- the form of the token that the bytes begin with, and what follows it
unfoldable pub form_at : Bytes → Form × Bytes
form_at [] = (Unreadable, [])
form_at (b ∷ bs) =
    if is_part b then (Run (front is_part (b ∷ bs)), back is_part (b ∷ bs))
    else (if b == 34 then string_form (units_from (length bs) [] bs) else sign_form (sign_length (b ∷ bs)) (b ∷ bs))

-- the tokens of bytes that no blank begins
abbrev pub first : (Bytes → Tokens) → ℕ → Bool → Bytes → Tokens
first more size line [] = []
first more size line (b ∷ bs) =
    record { form = (form_at (b ∷ bs)).0; place = record { from = size - length (b ∷ bs); on_new_line = line } } ∷ more (form_at (b ∷ bs)).1

-- as many tokens as the number at most
unfoldable pub tokens_from : ℕ → ℕ → Bytes → Tokens
tokens_from zero size bs = []
tokens_from (suc n) size bs = first (λ rest. tokens_from n size rest) size (line_ends false bs) (back is_blank bs)

-- the tokens of the last bytes of a file of this size, behind a token or at its start
unfoldable pub tokens_of : ℕ → Bytes → Tokens
tokens_of size bs = tokens_from (length bs) size bs
