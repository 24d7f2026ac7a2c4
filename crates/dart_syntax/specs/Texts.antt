-- Texts: how they begin, their characters and escapes, and what an interpolation names.
use Rattle.std.specs.Prelude.{◌≡◌, ℕ, Bool, true, false, not, ◌&&◌, ◌||◌, ◌==◌, if◌then◌else◌, nat_le, List, [], ◌∷◌, ◌++◌, length, take, drop, Option, Some, None}
use Rattle.std.specs.List.{list_all}
use Rattle.std.specs.Char.Escape.{encode_utf16}
use Rattle.code_units.specs.Text.{units_of}
use Rattle.dart_syntax.specs.declared.words.Word.{Word}
use Rattle.dart_syntax.specs.declared.words.Word.TheVariants as w
use Rattle.dart_syntax.specs.declared.tokens.Form.{Form}
use Rattle.dart_syntax.specs.declared.tokens.Form.TheVariants.{Name, Word as Reserved}
use Rattle.dart_syntax.specs.declared.levels.Level.{Level}
use Rattle.dart_syntax.specs.declared.levels.Level.TheVariants.{Text, Hole, Brace}
use Rattle.dart_syntax.specs.Table.{Bytes, is_digit, is_part, is_hex, front, back, value_from}
use Rattle.dart_syntax.specs.Gaps.{ends_line}

-- ---- how a text begins

abbrev pub quote_of : Bool → ℕ
quote_of true = 34
quote_of false = 39

abbrev pub quoted : Bool → Bytes → Option (Level × Bytes)
quoted raw [] = None
quoted raw (b ∷ bs) = if b == 34 then Some (Text true raw, bs) else if b == 39 then Some (Text false raw, bs) else None

-- the text that begins here, and what follows its quote
abbrev pub opening : Bytes → Option (Level × Bytes)
opening [] = None
opening (b ∷ bs) = if b == 114 then quoted true bs else quoted false (b ∷ bs)

abbrev pub begins_twice : ℕ → Bytes → Bool
begins_twice quote [] = false
begins_twice quote (a ∷ []) = false
begins_twice quote (a ∷ b ∷ bs) = a == quote && b == quote

-- behind its quote, the same quote stands twice more
abbrev pub is_tripled : Level → Bytes → Bool
is_tripled (Text q raw) bs = begins_twice (quote_of q) bs
is_tripled Hole bs = false
is_tripled Brace bs = false

-- ---- escapes, each as its units and what follows it

-- so many hexadecimal digits are the number of one unit
abbrev pub unit_escape : ℕ → Bytes → Option (List ℕ × Bytes)
unit_escape k bs = if nat_le k (length bs) && list_all is_hex (take k bs) then Some (value_from 16 0 (take k bs) ∷ [], drop k bs) else None

-- one to six digits whose number is at most 10FFFF
abbrev pub is_code_point : Bytes → Bool
is_code_point digits = nat_le 1 (length digits) && nat_le (length digits) 6 && nat_le (value_from 16 0 digits) 0x10_FFFF

abbrev pub braced_escape : Bytes → Bytes → Option (List ℕ × Bytes)
braced_escape digits [] = None
braced_escape digits (b ∷ bs) = if b == 125 && is_code_point digits then Some (encode_utf16 (value_from 16 0 digits), bs) else None

-- behind `\u`: four digits, or digits in braces
abbrev pub unicode_escape : Bytes → Option (List ℕ × Bytes)
unicode_escape [] = None
unicode_escape (b ∷ bs) = if b == 123 then braced_escape (front is_hex bs) (back is_hex bs) else unit_escape 4 (b ∷ bs)

-- n, r, f, b, t and v name a control character, and each other one is itself
abbrev pub control_of : ℕ → ℕ
control_of b = if b == 110 then 10 else if b == 114 then 13 else if b == 102 then 12 else if b == 98 then 8 else if b == 116 then 9 else if b == 118 then 11 else b

-- A character that isn't ASCII is itself behind the backslash: it stays where it stands.
abbrev pub escape_at : ℕ → Bytes → Option (List ℕ × Bytes)
escape_at b bs = if b == 120 then unit_escape 2 bs else if b == 117 then unicode_escape bs else if ends_line b then None else if nat_le 128 b then Some ([], b ∷ bs) else Some (control_of b ∷ [], bs)

-- the escape that stands behind a backslash
unfoldable pub escape : Bytes → Option (List ℕ × Bytes)
escape [] = None
escape (b ∷ bs) = escape_at b bs

-- `\x` or `\u`, which may be bad
abbrev pub is_numbered : Bytes → Bool
is_numbered [] = false
is_numbered (b ∷ bs) = b == 120 || b == 117

-- ---- characters

-- a byte of a character that stands for itself in such a text
abbrev pub is_own : Bool → Bool → ℕ → Bool
is_own q raw b = not (ends_line b) && not (b == quote_of q) && (raw || (not (b == 92) && not (b == 36)))

-- such a byte stands here
abbrev pub begins : (ℕ → Bool) → Bytes → Bool
begins p [] = false
begins p (b ∷ bs) = p b

-- Some of a text, its units, and what follows it. The longest stretch of characters that stand for themselves has
-- the units that its bytes spell as UTF-8.
pub data IsRun (q raw : Bool) : Bytes → List ℕ → Bytes → Type 0 where
  none : {bs : Bytes} → IsRun q raw bs [] bs
  own : {b : ℕ} (t : Bytes) {rest after : Bytes} {us : List ℕ} → list_all (is_own q raw) (b ∷ t) ≡ true → begins (is_own q raw) rest ≡ false
      → IsRun q raw rest us after → IsRun q raw (b ∷ (t ++ rest)) (units_of (b ∷ t) ++ us) after
  escaped : {bs more after : Bytes} {vs us : List ℕ} → raw ≡ false → escape bs ≡ Some (vs, more)
      → IsRun q raw more us after → IsRun q raw (92 ∷ bs) (vs ++ us) after

-- ---- what a `$` names

abbrev pub is_inner : ℕ → Bool
is_inner b = is_part b && not (b == 36)

abbrev pub is_named : Bytes → Bool
is_named [] = false
is_named (b ∷ t) = not (is_digit b)

abbrev pub this_alone : Word → Option Form
this_alone w.This = Some (Reserved w.This)
this_alone _ = None

-- the form of the run of letters, digits and `_` behind a `$`, given the reserved word that it spells
abbrev pub form_behind : Bytes → Option Word → Option Form
form_behind t None = if is_named t then Some (Name t) else None
form_behind t (Some word) = this_alone word
