-- The tokens of a file. What is open stands on a stack, the innermost first; outside of texts it is empty.
-- n is the file's length, so that a place is n less what is left.
use Rattle.std.specs.Prelude.{◌≡◌, ◌≤◌, ℕ, ◌-◌, Bool, true, false, not, ◌&&◌, ◌||◌, ◌==◌, if◌then◌else◌, List, [], ◌∷◌, ◌++◌, length, take, Option, Some, None, IsUtf8}
use Rattle.dart_syntax.specs.declared.words.Sign.TheVariants as s
use Rattle.dart_syntax.specs.declared.tokens.Form.{Form}
use Rattle.dart_syntax.specs.declared.tokens.Form.TheVariants.{Sign as Signed, TextOpen, Piece, Enter, Leave, TextClose}
use Rattle.dart_syntax.specs.declared.tokens.Token.{Token}
use Rattle.dart_syntax.specs.declared.levels.Level.{Level}
use Rattle.dart_syntax.specs.declared.levels.Level.TheVariants.{Text, Hole, Brace}
use Rattle.dart_syntax.specs.Table.{Bytes, front, back, word_of, Spells, IsLongest, IsAllowed}
use Rattle.dart_syntax.specs.Gaps.{ends_line, IsGap}
use Rattle.dart_syntax.specs.Texts.{quote_of, opening, is_tripled, IsRun, is_inner, form_behind}

abbrev pub Stack : Type 0
Stack = List Level

-- the token that takes what stands before `rest`
abbrev pub token : ℕ → Form → Bytes → Bytes → Token
token n form bs rest = record { form = form; from = n - length bs; to = n - length rest }

-- ---- what is open

abbrev pub in_text : Stack → Bool
in_text [] = false
in_text (level ∷ st) = true

-- tokens and gaps stand here, and no characters of a text
abbrev pub in_code : Stack → Bool
in_code [] = true
in_code (Text q raw ∷ st) = false
in_code (Hole ∷ st) = true
in_code (Brace ∷ st) = true

-- within a text a brace is counted, and the `}` of an interpolation leaves it
abbrev pub opened : Stack → Stack
opened [] = []
opened (level ∷ st) = Brace ∷ level ∷ st

abbrev pub closed : Stack → Form × Stack
closed [] = (Signed s.CloseBrace, [])
closed (Text q raw ∷ st) = (Signed s.CloseBrace, Text q raw ∷ st)
closed (Hole ∷ st) = (Leave, st)
closed (Brace ∷ st) = (Signed s.CloseBrace, st)

-- the form of a token in this place, and what is open behind it
abbrev pub turned : Form → Stack → Form × Stack
turned (Signed s.OpenBrace) st = (Signed s.OpenBrace, opened st)
turned (Signed s.CloseBrace) st = closed st
turned form st = (form, st)

-- within a text a gap ends no line
abbrev pub taken : Bytes → Bytes → Bytes
taken bs rest = take (length bs - length rest) bs

abbrev pub has_line_end : Bytes → Bool
has_line_end [] = false
has_line_end (b ∷ bs) = ends_line b || has_line_end bs

abbrev pub keeps_line : Stack → Bytes → Bytes → Bool
keeps_line st bs rest = not (in_text st && has_line_end (taken bs rest))

-- ---- what ends a piece of a text

pub record End : Type 0 where
  pub tokens : List Token
  pub stack : Stack
  pub rest : Bytes

-- `$name` and `$this` enter, have that one token, and leave with no byte
abbrev pub named : ℕ → Bytes → Stack → Option Form → Option End
named n bs st None = None
named n bs st (Some form) = Some (record {
  tokens = token n Enter (36 ∷ bs) bs ∷ token n form bs (back is_inner bs) ∷ token n Leave (back is_inner bs) (back is_inner bs) ∷ [];
  stack = st;
  rest = back is_inner bs;
})

-- what a `$` with this behind it begins
abbrev pub entered : ℕ → Bytes → Stack → Option End
entered n [] st = None
entered n (b ∷ bs) st =
    if b == 123 then Some (record { tokens = token n Enter (36 ∷ b ∷ bs) bs ∷ []; stack = Hole ∷ st; rest = bs })
    else named n (b ∷ bs) st (form_behind (front is_inner (b ∷ bs)) (word_of (front is_inner (b ∷ bs))))

-- the text's quote, or an interpolation
pub data IsEnd (n : ℕ) (q raw : Bool) (st : Stack) : Bytes → End → Type 0 where
  quote : {rest : Bytes} → IsEnd n q raw st (quote_of q ∷ rest) (record { tokens = token n TextClose (quote_of q ∷ rest) rest ∷ []; stack = st; rest = rest })
  enter : {bs : Bytes} {e : End} → raw ≡ false → entered n bs (Text q raw ∷ st) ≡ Some e → IsEnd n q raw st (36 ∷ bs) e

-- ---- files

-- one gap, token, or part of a text: its tokens, what is open behind it, and what follows
pub data IsItem (n : ℕ) : Stack → Bytes → List Token → Stack → Bytes → Type 0 where
  gap : {st : Stack} {bs rest : Bytes} → in_code st ≡ true → IsGap bs rest → keeps_line st bs rest ≡ true → IsItem n st bs [] st rest
  token' : {st : Stack} (t : Bytes) {rest : Bytes} (form : Form) → in_code st ≡ true → opening (t ++ rest) ≡ None → Spells t form → IsLongest t rest → IsAllowed form rest
      → IsItem n st (t ++ rest) (token n (turned form st).0 (t ++ rest) rest ∷ []) (turned form st).1 rest
  open' : {st : Stack} {bs rest : Bytes} {level : Level} → in_code st ≡ true → opening bs ≡ Some (level, rest) → is_tripled level rest ≡ false
      → IsItem n st bs (token n TextOpen bs rest ∷ []) (level ∷ st) rest
  part : {q raw : Bool} {st : Stack} {bs mid : Bytes} {us : List ℕ} {e : End} → IsRun q raw bs us mid → IsEnd n q raw st mid e
      → IsItem n (Text q raw ∷ st) bs (token n (Piece us) bs mid ∷ e.tokens) e.stack e.rest

-- items, one after another, to the end, where no text is open
pub data IsFile (n : ℕ) : Stack → Bytes → List Token → Type 0 where
  end : {st : Stack} → in_text st ≡ false → IsFile n st [] []
  item : {st next : Stack} {bs rest : Bytes} {ts more : List Token} → IsItem n st bs ts next rest → IsFile n next rest more → IsFile n st bs (ts ++ more)

-- the tokens of a file of these bytes, in which no rule on tokens is broken
abbrev pub IsTokens : Bytes → List Token → Type 0
IsTokens bytes ts = IsUtf8 bytes × IsFile (length bytes) [] bytes ts

-- tokens stand one behind another, from the place `low` on and up to the place n
abbrev pub Ascend : ℕ → ℕ → List Token → Type 0
Ascend n low [] = low ≤ n
Ascend n low (t ∷ ts) = (low ≤ t.from) × (t.from ≤ t.to) × Ascend n t.to ts
