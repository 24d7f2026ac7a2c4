-- What holds of the tokens of a file and of the first rule that it breaks.
use Rattle.std.specs.Prelude.{◌≡◌, ℕ, List, length, ◌⊎◌}
use Rattle.dart_syntax.specs.declared.tokens.Token.{Token}
use Rattle.dart_syntax.specs.declared.rules.Rule.{Rule}
use Rattle.dart_syntax.specs.Table.{Bytes}
use Rattle.dart_syntax.specs.Tokens.{IsTokens, Ascend}
use Rattle.dart_syntax.specs.Faults.{IsFirstBroken}

-- a file has at most one list of tokens
abbrev pub TokensAreOne : Type 0
TokensAreOne = (bytes : Bytes) (ts us : List Token) → IsTokens bytes ts → IsTokens bytes us → ts ≡ us

-- at most one rule is the first broken one, at one place
abbrev pub FirstBrokenIsOne : Type 0
FirstBrokenIsOne = (bytes : Bytes) (at other : ℕ) (r x : Rule) → IsFirstBroken bytes at r → IsFirstBroken bytes other x → (at ≡ other) × (r ≡ x)

-- a file that has tokens breaks no rule on tokens
abbrev pub TokensBreakNone : Type 0
TokensBreakNone = (bytes : Bytes) (ts : List Token) (at : ℕ) (r : Rule) → IsTokens bytes ts → IsFirstBroken bytes at r → ⊥

-- a file has tokens, or breaks a rule on tokens
abbrev pub TokensOrBroken : Type 0
TokensOrBroken = (bytes : Bytes) → ((ts : List Token) × IsTokens bytes ts) ⊎ ((at : ℕ) × (r : Rule) × IsFirstBroken bytes at r)

-- tokens stand one behind another within the file
abbrev pub TokensAscend : Type 0
TokensAscend = (bytes : Bytes) (ts : List Token) → IsTokens bytes ts → Ascend (length bytes) 0 ts
