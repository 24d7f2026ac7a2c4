-- Reading from the left, a step at a time. What is read is what `Tokens` and `Faults` derive; the proofs say so.
use Rattle.std.specs.Prelude.{ℕ, zero, suc, ◌+◌, ◌-◌, ◌*◌, min, Bool, true, false, not, ◌&&◌, ◌||◌, if◌then◌else◌, ◌==◌, nat_le, nat_eq, find, List, [], ◌∷◌, ◌++◌, length, drop, Option, Some, None, Result, Ok, Err}
use Rattle.std.specs.List.{starts_with}
use Rattle.code_units.specs.Text.{units_of}
use Rattle.dart_syntax.specs.declared.words.TheConstants.{SIGNS}
use Rattle.dart_syntax.specs.declared.words.Word.{Word}
use Rattle.dart_syntax.specs.declared.words.Sign.{Sign}
use Rattle.dart_syntax.specs.declared.tokens.Form.{Form}
use Rattle.dart_syntax.specs.declared.tokens.Form.TheVariants.{Name, Word as Reserved, Number, Sign as Signed, TextOpen, Piece, TextClose}
use Rattle.dart_syntax.specs.declared.tokens.Token.{Token}
use Rattle.dart_syntax.specs.declared.levels.Level.{Level}
use Rattle.dart_syntax.specs.declared.levels.Level.TheVariants.{Text, Hole, Brace}
use Rattle.dart_syntax.specs.declared.rules.Rule.{Rule}
use Rattle.dart_syntax.specs.declared.rules.Rule.TheVariants as r
use Rattle.dart_syntax.specs.Table.{Bytes, spelling_of_sign, is_digit, is_start, is_part, is_hex, is_blank, is_x, digit_of, front, back, word_of, limit, goes_on_as_double}
use Rattle.dart_syntax.specs.Gaps.{in_line, opens, closes}
use Rattle.dart_syntax.specs.Texts.{quote_of, opening, is_tripled, escape, is_numbered, is_own}
use Rattle.dart_syntax.specs.Tokens.{Stack, token, in_text, turned, keeps_line, End, entered}
use Rattle.dart_syntax.specs.Faults.{rest_of}

-- ---- one gap or token of code

-- a gap, a token's form, or a broken rule, and what is left behind it
pub data Step : Type 0 where
  Gap : Bytes → Step
  Found : Form → Bytes → Step
  Broken : Rule → Bytes → Step

abbrev pub worded : Option Word → Bytes → Bytes → Step
worded (Some word) t rest = Found (Reserved word) rest
worded None t rest = Found (Name t) rest

-- the number, cut at the first that is too large
abbrev pub capped_from : ℕ → ℕ → Bytes → ℕ
capped_from base n [] = n
capped_from base n (b ∷ bs) = capped_from base (min (base * n + digit_of b) (limit + 1)) bs

abbrev pub numbered : ℕ → Bytes → Step
numbered v rest = if nat_le v limit then if goes_on_as_double rest then Broken r.S7 rest else Found (Number v) rest else Broken r.S6 rest

-- a hexadecimal number begins here
abbrev pub begins_hex : Bytes → Bool
begins_hex [] = false
begins_hex (a ∷ []) = false
begins_hex (a ∷ x ∷ []) = false
begins_hex (a ∷ x ∷ d ∷ bs) = (a == 48 && is_x x) && is_hex d

abbrev pub commented : Option Bytes → Step
commented (Some rest) = Gap rest
commented None = Broken r.S4 []

-- the longest sign that these bytes begin with
abbrev pub sign_of : Bytes → Option Sign
sign_of bytes = find (λ x. starts_with nat_eq bytes (spelling_of_sign x)) SIGNS

abbrev pub signed : Option Sign → Bytes → Step
signed (Some x) bs = Found (Signed x) (drop (length (spelling_of_sign x)) bs)
signed None bs = Broken r.S2 (rest_of bs)

unfoldable pub inside : ℕ → Bytes → Option Bytes
inside d [] = None
inside d (b ∷ []) = None
inside zero (b ∷ c ∷ bs) = if closes b c then Some bs else if opens b c then inside 1 bs else inside 0 (c ∷ bs)
inside (suc d) (b ∷ c ∷ bs) = if closes b c then inside d bs else if opens b c then inside (suc (suc d)) bs else inside (suc d) (c ∷ bs)

abbrev pub next_is : ℕ → Bytes → Bool
next_is c [] = false
next_is c (b ∷ bs) = b == c

unfoldable pub word_step : Bytes → Step
word_step bs = worded (word_of (front is_part bs)) (front is_part bs) (back is_part bs)

unfoldable pub decimal_step : Bytes → Step
decimal_step bs = numbered (capped_from 10 0 (front is_digit bs)) (back is_digit bs)

unfoldable pub hexadecimal_step : Bytes → Step
hexadecimal_step bs = numbered (capped_from 16 0 (front is_hex (drop 2 bs))) (back is_hex (drop 2 bs))

unfoldable pub number_step : Bytes → Step
number_step bs = if begins_hex bs then hexadecimal_step bs else decimal_step bs

unfoldable pub line_step : Bytes → Step
line_step bs = Gap (back in_line (rest_of bs))

unfoldable pub comment_step : Bytes → Step
comment_step bs = commented (inside 0 (rest_of bs))

unfoldable pub sign_step : Bytes → Step
sign_step bs = signed (sign_of bs) bs

abbrev pub step_at : ℕ → Bytes → Step
step_at b bs =
    if is_blank b then Gap bs
    else if is_start b then word_step (b ∷ bs)
    else if is_digit b then number_step (b ∷ bs)
    else if b == 47 && next_is 47 bs then line_step bs
    else if b == 47 && next_is 42 bs then comment_step bs
    else sign_step (b ∷ bs)

unfoldable pub step : Bytes → Step
step [] = Broken r.S2 []
step (b ∷ bs) = step_at b bs

-- ---- one item

-- an item's tokens, what is open behind it, and what follows; or a broken rule, its place, and what is left behind it
pub data Read : Type 0 where
  Took : List Token → Stack → Bytes → Read
  Bad : Rule → Bytes → Bytes → Read

abbrev pub with_units : List ℕ → List ℕ × Bytes → List ℕ × Bytes
with_units us x = (us ++ x.0, x.1)

abbrev pub past_escape : (Bytes → List ℕ × Bytes) → Bytes → Option (List ℕ × Bytes) → List ℕ × Bytes
past_escape more bs None = ([], 92 ∷ bs)
past_escape more bs (Some e) = with_units e.0 (more e.1)

-- the units of a text as far as they go, and what follows them
unfoldable pub run : ℕ → Bool → Bool → Bytes → List ℕ × Bytes
run k q raw [] = ([], [])
run zero q raw (b ∷ bs) = ([], b ∷ bs)
run (suc k) q raw (b ∷ bs) =
    if is_own q raw b then with_units (units_of (b ∷ front (is_own q raw) bs)) (run k q raw (back (is_own q raw) bs))
    else if not raw && b == 92 then past_escape (λ more. run k q raw more) bs (escape bs)
    else ([], b ∷ bs)

-- a text goes on here with a character or an escape
abbrev pub is_escape : Option (List ℕ × Bytes) → Bool
is_escape None = false
is_escape (Some e) = true

abbrev pub goes_on : Bool → Bool → Bytes → Bool
goes_on q raw [] = false
goes_on q raw (b ∷ bs) = is_own q raw b || (not raw && b == 92 && is_escape (escape bs))

abbrev pub ended_by : Token → Bytes → Bytes → Option End → Read
ended_by piece left more None = Bad r.S5 left more
ended_by piece left more (Some e) = Took (piece ∷ e.tokens) e.stack e.rest

abbrev pub ended : ℕ → Bool → Bool → Stack → Bytes → List ℕ → Bytes → Read
ended n q raw st bs us [] = Bad r.S3 [] []
ended n q raw st bs us (b ∷ more) =
    if b == quote_of q then Took (token n (Piece us) bs (b ∷ more) ∷ token n TextClose (b ∷ more) more ∷ []) st more
    else if not raw && b == 36 then ended_by (token n (Piece us) bs (b ∷ more)) (b ∷ more) more (entered n more (Text q raw ∷ st))
    else if not raw && b == 92 && is_numbered more then Bad r.S5 (b ∷ more) more
    else Bad r.S3 (b ∷ more) []

unfoldable pub part_step : ℕ → Bool → Bool → Stack → Bytes → Read
part_step n q raw st bs = ended n q raw st bs (run (length bs) q raw bs).0 (run (length bs) q raw bs).1

abbrev pub coded : ℕ → Stack → Bytes → Step → Read
coded n st bs (Gap rest) = if keeps_line st bs rest then Took [] st rest else Bad r.S3 bs []
coded n st bs (Found form rest) = Took (token n (turned form st).0 bs rest ∷ []) (turned form st).1 rest
coded n st bs (Broken x after) = Bad x bs after

abbrev pub begun : ℕ → Stack → Bytes → Option (Level × Bytes) → Read
begun n st bs (Some o) = if is_tripled o.0 o.1 then Bad r.S7 bs (rest_of (rest_of o.1)) else Took (token n TextOpen bs o.1 ∷ []) (o.0 ∷ st) o.1
begun n st bs None = coded n st bs (step bs)

unfoldable pub code_step : ℕ → Stack → Bytes → Read
code_step n st bs = begun n st bs (opening bs)

abbrev pub read : ℕ → Stack → Bytes → Read
read n [] bs = code_step n [] bs
read n (Text q raw ∷ st) bs = part_step n q raw st bs
read n (Hole ∷ st) bs = code_step n (Hole ∷ st) bs
read n (Brace ∷ st) bs = code_step n (Brace ∷ st) bs

-- ---- whether all that is open is closed on this line

abbrev pub is_late : Rule → Bool
is_late r.S3 = true
is_late r.S4 = true
is_late _ = false

abbrev pub skimmed : (Stack → Bytes → Bool) → Stack → Read → Bool
skimmed more st (Took ts next rest) = more next rest
skimmed more st (Bad x left after) = if is_late x then false else more st after

unfoldable pub skim : ℕ → ℕ → Stack → Bytes → Bool
skim n k st [] = not (in_text st)
skim n zero st (b ∷ bs) = not (in_text st)
skim n (suc k) st (b ∷ bs) = if in_text st then skimmed (λ s x. skim n k s x) st (read n st (b ∷ bs)) else true

-- ---- whole files

abbrev pub Scanned : Type 0
Scanned = Result (List Token) (ℕ × Rule)

abbrev pub with_front : List Token → Scanned → Scanned
with_front found (Ok ts) = Ok (found ++ ts)
with_front found (Err e) = Err e

abbrev pub went : ℕ → Stack → (Stack → Bytes → Scanned) → Read → Scanned
went n st more (Took ts next rest) = if in_text st || skim n (length rest) next rest then with_front ts (more next rest) else Err (n - suc (length rest), r.S3)
went n st more (Bad x left after) = Err (n - length left, x)

unfoldable pub scan_from : ℕ → ℕ → Stack → Bytes → Scanned
scan_from n k st [] = Ok []
scan_from n zero st (b ∷ bs) = Ok []
scan_from n (suc k) st (b ∷ bs) = went n st (λ s x. scan_from n k s x) (read n st (b ∷ bs))

unfoldable pub scan : Bytes → Scanned
scan bs = scan_from (length bs) (length bs) [] bs
