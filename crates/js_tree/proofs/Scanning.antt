-- A word, a sign, a string or a blank, and then what follows.
use Rattle.std.proofs.Common.{◌≡◌, ℕ, ◌+◌, ◌-◌, ◌*◌, ◌/◌, ◌%◌, ◌<◌, ◌≤◌, Bool, true, false, not, ◌||◌, ◌&&◌, List, [], ◌∷◌, ◌++◌, length, map, refl, sym, ◌∙◌, subst, append_assoc, arith}
use Rattle.std.specs.Prelude.{◌==◌, nat_le, nat_lt, if◌then◌else◌, codes}
use Rattle.std.specs.List.{list_all, list_any}
use Rattle.std.specs.Str.{bytes_eq}
use Rattle.std.specs.Fmt.{decimal}
use Rattle.std.proofs.lemmas.Bool.{eq-eqb, eqb-true, leb-true, le-leb, ltb-true, and_from, and_parts, or_left, or_right}
use Rattle.std.proofs.lemmas.Bool.Decides.{nat_tests}
use Rattle.std.proofs.lemmas.Slice.Eq.{bytes_eq-Decides}
use Rattle.std.proofs.lemmas.Fmt.{decimal_by_steps}
use Rattle.std.proofs.lemmas.List.Folds.{list_all-append}
use Rattle.js_tree.specs.declared.words.JsMember.{JsMember}
use Rattle.js_tree.specs.declared.words.JsMember.TheVariants as m
use Rattle.js_tree.specs.declared.words.JsOperator.{JsOperator}
use Rattle.js_tree.specs.declared.words.JsOperator.TheVariants as o
use Rattle.js_tree.specs.Words.{member_text, operator_text}
use Rattle.js_tree.specs.Tokens.{Bytes, is_digit, is_part, is_plain, is_hex, hex_value, signs, is_sign, IsQuoted, close, plain, escape, unicode, Quoted, Place, Tokens, EndsRun, is_run, IsToken, run, quoted, sign', AreTokens, blank, token'}
use Rattle.js_tree.specs.Grammar.{word, quoted as string_token, sign, next_is, is_name, greatest}
use Rattle.js_tree.specs.Spelling.{are_units}
use Rattle.js_tree.specs.Text.{joined, hex_digit, unicode_escape, unit_text, string_text}

abbrev pub here : ℕ → Bool → Bytes → Place
here size line bytes = record { from = size - length bytes; on_new_line = line }

-- ---- signs

abbrev begins : Bytes → Bytes → Bool
begins [] bytes = true
begins (b ∷ x) [] = false
begins (b ∷ x) (c ∷ bytes) = (b == c) && begins x bytes

begins_append : (x after : Bytes) → begins x (x ++ after) ≡ true
begins_append [] after = refl
begins_append (b ∷ x) after = and_from (b == b) (begins x (x ++ after)) (eq-eqb b b refl) (begins_append x after)

-- of these, the ones that the bytes begin with are no longer than this
abbrev pub none_longer : Bytes → ℕ → List Bytes → Bool
none_longer bytes n [] = true
none_longer bytes n (x ∷ xs) = (not (begins x bytes) || nat_le (length x) n) && none_longer bytes n xs

begun : (t u : Bool) → (not t || u) ≡ true → t ≡ true → u ≡ true
begun true u e is = e
begun false u e is = cc

none_longer_is : (bytes : Bytes) (n : ℕ) (xs : List Bytes) → none_longer bytes n xs ≡ true → (x after : Bytes) → bytes ≡ x ++ after → list_any (bytes_eq x) xs ≡ true → length x ≤ n
none_longer_is bytes n [] all x after e is = cc
none_longer_is bytes n (y ∷ xs) all x after e is = found (bytes_eq x y) refl is (λ later. none_longer_is bytes n xs parts.1 x after e later)
  where
    parts : ((not (begins y bytes) || nat_le (length y) n) ≡ true) × (none_longer bytes n xs ≡ true)
    parts = and_parts (not (begins y bytes) || nat_le (length y) n) (none_longer bytes n xs) all

    found : (t : Bool) → bytes_eq x y ≡ t → (t || list_any (bytes_eq x) xs) ≡ true → (list_any (bytes_eq x) xs ≡ true → length x ≤ n) → length x ≤ n
    found true same is later =
        let xy : x ≡ y = (bytes_eq-Decides x y).0 same in
        let front : begins x bytes ≡ true = subst (λ bs. begins x bs ≡ true) (sym e) (begins_append x after) in
        leb-true (length x) n (subst (λ z. nat_le (length z) n ≡ true) (sym xy) (begun (begins y bytes) (nat_le (length y) n) parts.0 (subst (λ z. begins z bytes ≡ true) xy front)))
    found false other is later = later is

module _ {size : ℕ} {line : Bool} {rest : Bytes} {more : Tokens} where
  pub sign_then : (s : Bytes) → is_sign s ≡ true → none_longer (s ++ rest) (length s) signs ≡ true → AreTokens size false rest more
      → AreTokens size line (s ++ rest) (sign s (here size line (s ++ rest)) ∷ more)
  sign_then s is longest scanned = token' (sign' s (refl, is, none_longer_is (s ++ rest) (length s) signs longest)) scanned

  pub word_then : (x : Bytes) → is_run x ≡ true → EndsRun rest → AreTokens size false rest more
      → AreTokens size line (x ++ rest) (word x (here size line (x ++ rest)) ∷ more)
  word_then x is ends scanned = token' (run x is ends) scanned

pub space : {size : ℕ} {bytes : Bytes} {ts : Tokens} → AreTokens size false bytes ts → AreTokens size false (32 ∷ bytes) ts
space scanned = blank refl scanned

pub line_end : {size : ℕ} {bytes : Bytes} {ts : Tokens} → AreTokens size true bytes ts → AreTokens size false (10 ∷ bytes) ts
line_end scanned = blank refl scanned

-- what follows a primary expression: no part of a run, and no arguments
pub record Follows (size : ℕ) (rest : Bytes) (more : Tokens) : Type 0 where
  pub ends : EndsRun rest
  pub no_call : next_is (codes "(") more ≡ false
  pub scanned : AreTokens size false rest more

-- a sign that may follow
pub record Closes (s : Bytes) : Type 0 where
  pub is : is_sign s ≡ true
  pub longest : (rest : Bytes) → none_longer (s ++ rest) (length s) signs ≡ true
  pub ends : (rest : Bytes) → EndsRun (s ++ rest)
  pub no_call : bytes_eq (codes "(") s ≡ false

pub closed : {size : ℕ} {rest : Bytes} {more : Tokens} (s : Bytes) → Closes s → AreTokens size false rest more → Follows size (s ++ rest) (sign s (here size false (s ++ rest)) ∷ more)
closed {rest = rest} s c scanned = record { ends = c.ends rest; no_call = c.no_call; scanned = sign_then s c.is (c.longest rest) scanned }

pub semicolon : Closes (codes ";")
semicolon = record { is = refl; longest = λ rest. refl; ends = λ rest. refl; no_call = refl }

pub comma : Closes (codes ",")
comma = record { is = refl; longest = λ rest. refl; ends = λ rest. refl; no_call = refl }

pub parenthesis : Closes (codes ")")
parenthesis = record { is = refl; longest = λ rest. refl; ends = λ rest. refl; no_call = refl }

pub bracket : Closes (codes "]")
bracket = record { is = refl; longest = λ rest. refl; ends = λ rest. refl; no_call = refl }

pub open_bracket : Closes (codes "[")
open_bracket = record { is = refl; longest = λ rest. refl; ends = λ rest. refl; no_call = refl }

pub brace : Closes (codes "}")
brace = record { is = refl; longest = λ rest. refl; ends = λ rest. refl; no_call = refl }

-- ---- words of the grammar, names and numbers

pub member_is_run : (m : JsMember) → is_run (member_text m) ≡ true
member_is_run m.Length = refl
member_is_run m.Size = refl
member_is_run m.Push = refl
member_is_run m.Pop = refl
member_is_run m.CharCodeAt = refl
member_is_run m.Substring = refl
member_is_run m.Get = refl
member_is_run m.Set = refl
member_is_run m.Has = refl
member_is_run m.Delete = refl
member_is_run m.Keys = refl
member_is_run m.Print = refl
member_is_run m.Load = refl

pub operator_is_sign : (o : JsOperator) → is_sign (operator_text o) ≡ true
operator_is_sign o.Plus = refl
operator_is_sign o.Minus = refl
operator_is_sign o.Times = refl
operator_is_sign o.Divide = refl
operator_is_sign o.Remainder = refl
operator_is_sign o.Equal = refl
operator_is_sign o.Less = refl
operator_is_sign o.Greater = refl
operator_is_sign o.LessEqual = refl
operator_is_sign o.GreaterEqual = refl

-- an operator that a blank follows is the longest sign
pub operator_is_longest : (o : JsOperator) (rest : Bytes) → none_longer (operator_text o ++ 32 ∷ rest) (length (operator_text o)) signs ≡ true
operator_is_longest o.Plus rest = refl
operator_is_longest o.Minus rest = refl
operator_is_longest o.Times rest = refl
operator_is_longest o.Divide rest = refl
operator_is_longest o.Remainder rest = refl
operator_is_longest o.Equal rest = refl
operator_is_longest o.Less rest = refl
operator_is_longest o.Greater rest = refl
operator_is_longest o.LessEqual rest = refl
operator_is_longest o.GreaterEqual rest = refl

pub operator_no_call : (o : JsOperator) → bytes_eq (codes "(") (operator_text o) ≡ false
operator_no_call o.Plus = refl
operator_no_call o.Minus = refl
operator_no_call o.Times = refl
operator_no_call o.Divide = refl
operator_no_call o.Remainder = refl
operator_no_call o.Equal = refl
operator_no_call o.Less = refl
operator_no_call o.Greater = refl
operator_no_call o.LessEqual = refl
operator_no_call o.GreaterEqual = refl

pub name_is_run : (x : Bytes) → is_name x ≡ true → is_run x ≡ true
name_is_run [] is = cc
name_is_run (b ∷ x) is = (and_parts (list_all is_part (b ∷ x)) (list_any (λ c. c == 36) (b ∷ x)) (and_parts (not (is_digit b)) (list_all is_part (b ∷ x) && list_any (λ c. c == 36) (b ∷ x)) is).1).0

digit_is_part : (d : ℕ) → d < 10 → is_part (48 + d) ≡ true
digit_is_part d small = or_left _ _ (or_left _ _ (or_right _ _ (and_from _ _ (le-leb 48 (48 + d) (omega arith)) (le-leb (48 + d) 57 (omega arith)))))

run_from : (bytes more : Bytes) → is_run bytes ≡ true → list_all is_part more ≡ true → is_run (bytes ++ more) ≡ true
run_from [] more is all = cc
run_from (b ∷ bytes) more is all = list_all-append is_part (b ∷ bytes) more ∙ and_from _ _ is all

pub number_is_run : (n : ℕ) → n ≤ greatest → is_run (decimal n) ≡ true
number_is_run n small = decimal_by_steps (λ k ds. is_run ds ≡ true)
    (λ k low. and_from _ _ (digit_is_part k low) refl)
    (λ k ds high is. run_from ds ((48 + k % 10) ∷ []) is (and_from _ _ (digit_is_part (k % 10) (omega arith)) refl))
    n (omega arith)

-- ---- strings

hex_digit_is : (d : ℕ) → d < 16 → (is_hex (hex_digit d) ≡ true) × (hex_value (hex_digit d) ≡ d)
hex_digit_is d small = by (nat_lt d 10) refl
  where
    by : (t : Bool) → nat_lt d 10 ≡ t → (is_hex (if t then 48 + d else 87 + d) ≡ true) × (hex_value (if t then 48 + d else 87 + d) ≡ d)
    by true low = grind (arith, nat_tests)
    by false high = grind (arith, nat_tests)

-- a number below 65536 by its four hexadecimal digits
hex_digits_are : (u : ℕ) → u < 65536 → 4096 * (u / 4096 % 16) + 256 * (u / 256 % 16) + 16 * (u / 16 % 16) + u % 16 ≡ u
hex_digits_are u small = omega arith

module _ {bytes rest : Bytes} {us : List ℕ} (u : ℕ) (small : u < 65536) (behind : IsQuoted bytes us rest) where
  escaped : IsQuoted (unicode_escape u ++ bytes) (u ∷ us) rest
  escaped =
      let a = hex_digit_is (u / 4096 % 16) (omega arith) in
      let b = hex_digit_is (u / 256 % 16) (omega arith) in
      let c = hex_digit_is (u / 16 % 16) (omega arith) in
      let d = hex_digit_is (u % 16) (omega arith) in
      let value : 4096 * hex_value (hex_digit (u / 4096 % 16)) + 256 * hex_value (hex_digit (u / 256 % 16)) + 16 * hex_value (hex_digit (u / 16 % 16)) + hex_value (hex_digit (u % 16)) ≡ u =
      omega (arith, a.1, b.1, c.1, d.1, hex_digits_are u small) in
      subst (λ v. IsQuoted (unicode_escape u ++ bytes) (v ∷ us) rest) value (unicode (and_from _ _ (and_from _ _ (and_from _ _ a.0 b.0) c.0) d.0) behind)

  unit_by : (p q r : Bool) → is_plain u ≡ p → (u == 34) ≡ q → (u == 92) ≡ r
      → IsQuoted ((if p then u ∷ [] else if q then codes "\\\"" else if r then codes "\\\\" else unicode_escape u) ++ bytes) (u ∷ us) rest
  unit_by true q r is quote backslash = plain is behind
  unit_by false true r is quote backslash = subst (λ v. IsQuoted (codes "\\\"" ++ bytes) (v ∷ us) rest) (sym (eqb-true u 34 quote)) (escape refl behind)
  unit_by false false true is quote backslash = subst (λ v. IsQuoted (codes "\\\\" ++ bytes) (v ∷ us) rest) (sym (eqb-true u 92 backslash)) (escape refl behind)
  unit_by false false false is quote backslash = escaped

units_quoted : (us : List ℕ) (rest : Bytes) → are_units us ≡ true → IsQuoted (joined (map unit_text us) ++ 34 ∷ rest) us rest
units_quoted [] rest all = close
units_quoted (u ∷ us) rest all =
    let parts : (nat_lt u 65536 ≡ true) × (are_units us ≡ true) = and_parts (nat_lt u 65536) (are_units us) all in
    subst (λ bs. IsQuoted bs (u ∷ us) rest) (sym (append_assoc (unit_text u) (joined (map unit_text us)) (34 ∷ rest)))
    (unit_by u (ltb-true u 65536 parts.0) (units_quoted us rest parts.1) (is_plain u) (u == 34) (u == 92) refl refl refl)

pub string_then : {size : ℕ} {line : Bool} {rest : Bytes} {more : Tokens} (us : List ℕ) → are_units us ≡ true → AreTokens size false rest more
    → AreTokens size line (string_text us ++ rest) (string_token us (here size line (string_text us ++ rest)) ∷ more)
string_then {rest = rest} us all scanned = token' (subst (λ bs. IsToken (34 ∷ bs) (Quoted us) rest) (sym (append_assoc (joined (map unit_text us)) (codes "\"") rest)) (quoted (units_quoted us rest all))) scanned
