-- What the functions of the scanner answer, in the terms of the reader of a file.
use Rattle.std.specs.Prelude.{◌≡◌, ◌≤◌, ℕ, suc, ◌-◌, ◌||◌, if◌then◌else◌, nat_le, length, Bool, false, List, [], ◌∷◌, Option, Some, None, Result, Ok, Err}
use denote.Ref.{Bor}
use Rattle.dart_syntax.specs.declared.tokens.Token.{Token}
use Rattle.dart_syntax.specs.declared.levels.Level.{Level}
use Rattle.dart_syntax.specs.declared.rules.Rule.TheVariants as rule
use Rattle.dart_syntax.specs.Table.{Bytes}
use Rattle.dart_syntax.specs.Tokens.{Stack}
use Rattle.dart_syntax.specs.Faults.{IsFirstBroken}
use Rattle.dart_syntax.specs.Reader as reader
use Rattle.dart_syntax.specs.Reader.{Scanned}
use Rattle.dart_tokens.specs.declared.escapes.Escaped.{Escaped}
use Rattle.dart_tokens.specs.declared.escapes.Escaped.TheVariants.{Nothing, Unit as One, Pair}
use Rattle.dart_tokens.specs.declared.steps.Step.{Step}
use Rattle.dart_tokens.specs.declared.steps.Step.TheVariants as step
use Rattle.dart_tokens.specs.declared.items.Read.{Read}
use Rattle.dart_tokens.specs.declared.items.Read.TheVariants as made
use Rattle.dart_tokens.specs.declared.scanner.ScanError.{ScanError}
use Rattle.dart_tokens.specs.declared.scanner.ScanError.TheVariants.{Fault, Memory}

abbrev pub ShowsRest : Option (Bor Bytes) → Option Bytes → Type 0
ShowsRest None found = found ≡ None
ShowsRest (Some rest) found = found ≡ Some rest.now

abbrev pub ShowsLevel : Option (Level × Bor Bytes) → Option (Level × Bytes) → Type 0
ShowsLevel None found = found ≡ None
ShowsLevel (Some x) found = found ≡ Some (x.0, x.1.now)

abbrev pub units_in : Escaped → List ℕ
units_in Nothing = []
units_in (One u) = u ∷ []
units_in (Pair u v) = u ∷ v ∷ []

abbrev pub ShowsUnits : Option (Escaped × Bor Bytes) → Option (List ℕ × Bytes) → Type 0
ShowsUnits None found = found ≡ None
ShowsUnits (Some x) found = found ≡ Some (units_in x.0, x.1.now)

-- a number that some bytes of a character have made, while so many are still to come
pub record IsPartial (left code : ℕ) : Type 0 where
  pub few : left ≤ 3
  pub whole : code ≤ 4460607
  pub one : 1 ≤ left → code ≤ 69695
  pub two : 2 ≤ left → code ≤ 1087
  pub three : 3 ≤ left → code ≤ 15

abbrev pub step_shown : Step → reader.Step
step_shown (step.Gap rest) = reader.Gap rest.now
step_shown (step.Found form rest) = reader.Found form rest.now
step_shown (step.Broken x after) = reader.Broken x after.now

-- what was read, with this open behind it
abbrev pub read_shown : Stack → Read → reader.Read
read_shown st (made.Took ts rest) = reader.Took ts.items st rest.now
read_shown st (made.Bad x left after) = reader.Bad x left.now after.now

-- where a rule is broken, what is open stays
abbrev pub StaysOnBad : Stack → Stack → Read → Type 0
StaysOnBad old new (made.Took ts rest) = Unit {0}
StaysOnBad old new (made.Bad x left after) = new ≡ old

abbrev pub tail_of : Stack → Stack
tail_of [] = []
tail_of (level ∷ st) = st

-- the same fault, unless memory was wanting
abbrev pub Fails : ScanError → Scanned → Type 0
Fails Memory scanned = Unit {0}
Fails (Fault at x) scanned = scanned ≡ Err (at, x)

-- of two broken rules the first, S1 being broken at a place that may be none
abbrev pub first_of : ScanError → Option ℕ → ScanError
first_of Memory bad = Memory
first_of (Fault at x) None = Fault at x
first_of (Fault at x) (Some bad) = if nat_le bad at then Fault bad rule.S1 else Fault at x

-- What is scanned behind an item of these tokens: the rest, unless it opens a text that isn't closed on its line.
abbrev pub after_item : ℕ → Bool → (Stack → Bytes → Scanned) → List Token → Stack → Bytes → Scanned
after_item n inside more ts next rest = if inside || reader.skim n (length rest) next rest then reader.with_front ts (more next rest) else Err (n - suc (length rest), rule.S3)

-- A turn of the scanner, which has found some tokens before it, goes on with what follows; or it ends.
abbrev pub GoesOn : Result (Bor Bytes) ScanError → List Token → List Token → Stack → ((Stack → Bytes → Scanned) → Scanned) → Type 0
GoesOn (Ok rest) old new st wanted = (more : Stack → Bytes → Scanned) → reader.with_front old (wanted more) ≡ reader.with_front new (more st rest.now)
GoesOn (Err e) old new st wanted = (more : Stack → Bytes → Scanned) → Fails e (wanted more)

-- A turn of looking for the end of what is open goes on with what follows; or there is no end.
abbrev pub looks_on : Option (Bor Bytes) → Stack → (Stack → Bytes → Bool) → Bool
looks_on None st more = false
looks_on (Some rest) st more = more st rest.now

-- Why a file has no tokens: either this rule is the first that it breaks, there, or memory was wanting, which no bytes
-- rule out.
abbrev pub Refuses : Bytes → ScanError → Type 0
Refuses bytes (Fault at x) = IsFirstBroken bytes at x
Refuses bytes Memory = Unit {0}
