-- The first rule on tokens that a file breaks: at the earliest place, and of those there the one of the lowest number.
use Rattle.std.specs.Prelude.{◌≡◌, ◌≤◌, ℕ, suc, ◌-◌, ◌<◌, Bool, true, false, List, [], ◌∷◌, ◌++◌, length, Some, None}
use Rattle.std.specs.Str.{IsValidUpTo}
use Rattle.dart_syntax.specs.declared.tokens.Form.{Form}
use Rattle.dart_syntax.specs.declared.tokens.Form.TheVariants.{Number}
use Rattle.dart_syntax.specs.declared.tokens.Token.{Token}
use Rattle.dart_syntax.specs.declared.levels.Level.{Level}
use Rattle.dart_syntax.specs.declared.levels.Level.TheVariants.{Text}
use Rattle.dart_syntax.specs.declared.rules.Rule.{Rule}
use Rattle.dart_syntax.specs.declared.rules.Rule.TheVariants.{S1, S2, S3, S4, S5, S6, S7}
use Rattle.dart_syntax.specs.Table.{Bytes, Spells, IsLongest, limit, goes_on_as_double}
use Rattle.dart_syntax.specs.Gaps.{IsInside, IsGap}
use Rattle.dart_syntax.specs.Texts.{opening, is_tripled, escape, is_numbered, IsRun}
use Rattle.dart_syntax.specs.Tokens.{Stack, in_text, in_code, entered, IsItem}

-- neither a gap nor a token begins here
pub record IsUnknown (bs : Bytes) : Type 0 where
  pub some : 0 < length bs
  pub no_gap : (rest : Bytes) → IsGap bs rest → ⊥
  pub no_comment : (more : Bytes) → bs ≡ 47 ∷ 42 ∷ more → ⊥
  pub no_token : (t rest : Bytes) (form : Form) → bs ≡ t ++ rest → Spells t form → ⊥

abbrev pub rest_of : Bytes → Bytes
rest_of [] = []
rest_of (b ∷ bs) = bs

-- Within the next item a rule is broken: where the second bytes begin. The third are what is left when what breaks
-- it is passed over.
pub data IsBroken (n : ℕ) : Stack → Bytes → Bytes → Rule → Bytes → Type 0 where
  unknown : {st : Stack} {bs : Bytes} → in_code st ≡ true → opening bs ≡ None → IsUnknown bs → IsBroken n st bs bs S2 (rest_of bs)
  large : {st : Stack} (t : Bytes) {rest : Bytes} {v : ℕ} → in_code st ≡ true → Spells t (Number v) → IsLongest t rest → limit < v
      → IsBroken n st (t ++ rest) (t ++ rest) S6 rest
  double : {st : Stack} (t : Bytes) {rest : Bytes} {v : ℕ} → in_code st ≡ true → Spells t (Number v) → IsLongest t rest → v ≤ limit → goes_on_as_double rest ≡ true
      → IsBroken n st (t ++ rest) (t ++ rest) S7 rest
  tripled : {st : Stack} {bs rest : Bytes} {level : Level} → in_code st ≡ true → opening bs ≡ Some (level, rest) → is_tripled level rest ≡ true
      → IsBroken n st bs bs S7 (rest_of (rest_of rest))
  bad_escape : {q : Bool} {st : Stack} {bs more : Bytes} {us : List ℕ} → IsRun q false bs us (92 ∷ more) → is_numbered more ≡ true → escape more ≡ None
      → IsBroken n (Text q false ∷ st) bs (92 ∷ more) S5 more
  bad_enter : {q : Bool} {st : Stack} {bs more : Bytes} {us : List ℕ} → IsRun q false bs us (36 ∷ more) → entered n more (Text q false ∷ st) ≡ None
      → IsBroken n (Text q false ∷ st) bs (36 ∷ more) S5 more

-- the texts that are open here are closed on their line, what breaks a rule being passed over
pub data IsClosed (n : ℕ) : Stack → Bytes → Type 0 where
  none_open : {st : Stack} {bs : Bytes} → in_text st ≡ false → IsClosed n st bs
  past_item : {st next : Stack} {bs rest : Bytes} {ts : List Token} → in_text st ≡ true → IsItem n st bs ts next rest → IsClosed n next rest → IsClosed n st bs
  past_broken : {st : Stack} {bs left after : Bytes} {r : Rule} → in_text st ≡ true → IsBroken n st bs left r after → IsClosed n st after → IsClosed n st bs

-- The first broken rule of S2 to S7, behind items in which none is broken. A text that isn't closed on its line breaks
-- S3 at its quote, which comes before all that stands in it; so each text that an item opens is closed.
pub data IsFault (n : ℕ) : Stack → Bytes → ℕ → Rule → Type 0 where
  past : {st next : Stack} {bs rest : Bytes} {ts : List Token} {at : ℕ} {r : Rule} → IsItem n st bs ts next rest → IsClosed n next rest → IsFault n next rest at r → IsFault n st bs at r
  broken : {st : Stack} {bs left after : Bytes} {r : Rule} → IsBroken n st bs left r after → IsFault n st bs (n - length left) r
  unclosed_text : {st : Stack} {bs rest : Bytes} {level : Level} → in_text st ≡ false → opening bs ≡ Some (level, rest) → is_tripled level rest ≡ false → (IsClosed n (level ∷ st) rest → ⊥)
      → IsFault n st bs (n - suc (length rest)) S3
  unclosed_comment : {st : Stack} {bs : Bytes} → in_text st ≡ false → ((rest : Bytes) → IsInside 0 bs rest → ⊥) → IsFault n st (47 ∷ 42 ∷ bs) (n - length (47 ∷ 42 ∷ bs)) S4

-- The first broken rule of all. A byte that isn't UTF-8 breaks S1, which is the first where none of the others comes
-- before it; in a text or a comment it is passed over as a character would be.
pub data IsFirstBroken (bytes : Bytes) : ℕ → Rule → Type 0 where
  not_utf8 : {at : ℕ} → IsValidUpTo bytes at → ((other : ℕ) (r : Rule) → IsFault (length bytes) [] bytes other r → at ≤ other) → IsFirstBroken bytes at S1
  before : {at : ℕ} {r : Rule} → IsFault (length bytes) [] bytes at r → ((bad : ℕ) → IsValidUpTo bytes bad → at < bad) → IsFirstBroken bytes at r
