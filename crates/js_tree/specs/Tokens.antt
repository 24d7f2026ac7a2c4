-- The tokens of a file, whatever they are: what is no token of the grammar is one token too, so that the place of a
-- fault can be told.
use Rattle.std.specs.Prelude.{◌≡◌, ◌≤◌, ℕ, ◌+◌, ◌-◌, ◌*◌, Bool, true, false, not, ◌||◌, ◌&&◌, ◌==◌, nat_le, if◌then◌else◌, List, [], ◌∷◌, ◌++◌, length, codes}
use Rattle.std.specs.List.{list_all, list_any}
use Rattle.std.specs.Str.{bytes_eq}

abbrev pub Bytes : Type 0
Bytes = List ℕ

-- ---- bytes

abbrev pub is_digit : ℕ → Bool
is_digit b = nat_le 48 b && nat_le b 57

-- letters, digits, _ and $
abbrev pub is_part : ℕ → Bool
is_part b = (nat_le 97 b && nat_le b 122) || (nat_le 65 b && nat_le b 90) || is_digit b || b == 95 || b == 36

-- CR and LF
abbrev pub ends_line : ℕ → Bool
ends_line b = b == 13 || b == 10

-- blank, tab, CR and LF
abbrev pub is_blank : ℕ → Bool
is_blank b = b == 32 || b == 9 || ends_line b

-- ---- signs

abbrev pub signs : List Bytes
signs =
    codes "===" ∷ codes "<=" ∷ codes ">=" ∷
    codes "{" ∷ codes "}" ∷ codes "(" ∷ codes ")" ∷ codes "[" ∷ codes "]" ∷ codes ";" ∷ codes "," ∷ codes "." ∷ codes ":" ∷ codes "=" ∷
    codes "+" ∷ codes "-" ∷ codes "*" ∷ codes "/" ∷ codes "%" ∷ codes "<" ∷ codes ">" ∷ []

abbrev pub is_sign : Bytes → Bool
is_sign s = list_any (bytes_eq s) signs

-- the bytes begin with this sign and with no longer one
abbrev pub BeginsWith : Bytes → Bytes → Bytes → Type 0
BeginsWith bs s rest = (bs ≡ s ++ rest) × (is_sign s ≡ true) × ((x after : Bytes) → bs ≡ x ++ after → is_sign x ≡ true → length x ≤ length s)

-- ---- strings

-- what stands for itself in a string: 20 to 7E, but for " and \
abbrev pub is_plain : ℕ → Bool
is_plain b = nat_le 32 b && nat_le b 126 && not (b == 34) && not (b == 92)

-- 0 to 9 and a to f
abbrev pub is_hex : ℕ → Bool
is_hex b = is_digit b || (nat_le 97 b && nat_le b 102)

abbrev pub hex_value : ℕ → ℕ
hex_value b = if is_digit b then b - 48 else b - 87

-- the units that the bytes spell, up to and with the quote that closes the string
pub data IsQuoted : Bytes → List ℕ → Bytes → Type 0 where
  close : {rest : Bytes} → IsQuoted (34 ∷ rest) [] rest
  plain : {b : ℕ} {bs rest : Bytes} {us : List ℕ} → is_plain b ≡ true → IsQuoted bs us rest → IsQuoted (b ∷ bs) (b ∷ us) rest
  escape : {b : ℕ} {bs rest : Bytes} {us : List ℕ} → (b == 34 || b == 92) ≡ true → IsQuoted bs us rest → IsQuoted (92 ∷ b ∷ bs) (b ∷ us) rest
  unicode : {a b c d : ℕ} {bs rest : Bytes} {us : List ℕ} → (is_hex a && is_hex b && is_hex c && is_hex d) ≡ true → IsQuoted bs us rest
      → IsQuoted (92 ∷ 117 ∷ a ∷ b ∷ c ∷ d ∷ bs) ((4096 * hex_value a + 256 * hex_value b + 16 * hex_value c + hex_value d) ∷ us) rest

-- ---- tokens

pub data Form : Type 0 where
  -- a whole run of letters, digits, _ and $
  Run : (text : Bytes) → Form
  -- a string with these units
  Quoted : (units : List ℕ) → Form
  Sign : (text : Bytes) → Form
  -- no token can be read from here on
  Unreadable : Form

-- where a token begins, and whether a line ends between it and the token before it
pub record Place : Type 0 where
  pub from : ℕ
  pub on_new_line : Bool

pub record Token : Type 0 where
  pub form : Form
  pub place : Place

abbrev pub Tokens : Type 0
Tokens = List Token

-- the next byte, if any, is no part of a run
abbrev pub EndsRun : Bytes → Type 0
EndsRun [] = Unit {0}
EndsRun (b ∷ bs) = is_part b ≡ false

abbrev pub is_run : Bytes → Bool
is_run [] = false
is_run (b ∷ bs) = list_all is_part (b ∷ bs)

-- the bytes begin with a token of this form, and this follows it
pub data IsToken : Bytes → Form → Bytes → Type 0 where
  run : {rest : Bytes} (text : Bytes) → is_run text ≡ true → EndsRun rest → IsToken (text ++ rest) (Run text) rest
  quoted : {bs rest : Bytes} {us : List ℕ} → IsQuoted bs us rest → IsToken (34 ∷ bs) (Quoted us) rest
  sign' : {bs rest : Bytes} (text : Bytes) → BeginsWith bs text rest → IsToken bs (Sign text) rest
  unreadable : {b : ℕ} {bs : Bytes} → is_blank b ≡ false → is_part b ≡ false → ((us : List ℕ) (rest : Bytes) → b ≡ 34 → IsQuoted bs us rest → ⊥)
      → ((text rest : Bytes) → BeginsWith (b ∷ bs) text rest → ⊥) → IsToken (b ∷ bs) Unreadable []

-- The last bytes of a file of this size are these tokens, with gaps of blanks between; `line` says whether a line ended
-- since the last token.
pub data AreTokens (size : ℕ) : Bool → Bytes → Tokens → Type 0 where
  end : {line : Bool} → AreTokens size line [] []
  blank : {line : Bool} {b : ℕ} {bs : Bytes} {ts : Tokens} → is_blank b ≡ true → AreTokens size (line || ends_line b) bs ts → AreTokens size line (b ∷ bs) ts
  token' : {line : Bool} {bs rest : Bytes} {form : Form} {ts : Tokens} → IsToken bs form rest → AreTokens size false rest ts
      → AreTokens size line bs (record { form = form; place = record { from = size - length bs; on_new_line = line } } ∷ ts)

abbrev pub TokensOf : Bytes → Tokens → Type 0
TokensOf bytes ts = AreTokens (length bytes) false bytes ts
