-- The laws: a file has tokens or a first broken rule, not both, and one.
use Rattle.std.proofs.Common.{◌≡◌, ℕ, zero, suc, ◌-◌, ◌<◌, ◌≤◌, false, List, [], length, take, Ok, Err, refl, sym, ap, ◌∙◌, subst, ◌⊎◌, inl, inr, arith}
use Rattle.std.specs.Str.{IsUtf8, IsValidUpTo, is_utf8}
use Rattle.std.proofs.lemmas.Str.{IsUtf8-nil, IsUtf8-from_is_utf8, is_utf8-from_IsUtf8}
use Rattle.std.proofs.lemmas.List.{take_all}
use Rattle.std.proofs.lemmas.Bool.{cases_lt}
use Rattle.dart_syntax.specs.declared.tokens.Token.{Token}
use Rattle.dart_syntax.specs.declared.rules.Rule.{Rule}
use Rattle.dart_syntax.specs.declared.rules.Rule.TheVariants as r
use Rattle.dart_syntax.specs.Table.{Bytes}
use Rattle.dart_syntax.specs.Tokens.{IsFile, IsTokens, Ascend}
use Rattle.dart_syntax.specs.Faults as faults
use Rattle.dart_syntax.specs.Faults.{IsFault, IsFirstBroken}
use Rattle.dart_syntax.specs.Reader.{Scanned, scan_from, scan}
use Rattle.dart_syntax.specs.TokenLaws.{TokensAreOne, FirstBrokenIsOne, TokensBreakNone, TokensOrBroken, TokensAscend}
use Rattle.dart_syntax.proofs.Fronts.{tells, clash}
use Rattle.dart_syntax.proofs.Whole.{file_complete, fault_complete, Says, scan_says}
use Rattle.dart_syntax.proofs.Spans.{file_ascends}

-- ---- what scanning answers

scan_is : (bs : Bytes) → scan bs ≡ scan_from (length bs) (length bs) [] bs
unfolding scan
scan_is bs = refl

pub says : (bs : Bytes) → Says (length bs) [] bs (scan bs)
says bs = subst (Says (length bs) [] bs) (sym (scan_is bs)) (scan_says (length bs) (length bs) [] bs (omega arith) (faults.none_open refl))

pub file_scanned : (bs : Bytes) (ts : List Token) → IsFile (length bs) [] bs ts → scan bs ≡ Ok ts
file_scanned bs ts d = scan_is bs ∙ file_complete d (length bs) (omega arith)

pub fault_scanned : (bs : Bytes) (at : ℕ) (x : Rule) → IsFault (length bs) [] bs at x → scan bs ≡ Err (at, x)
fault_scanned bs at x d = scan_is bs ∙ fault_complete d (length bs) (omega arith)

abbrev tokens_of : Scanned → List Token
tokens_of (Ok ts) = ts
tokens_of (Err e) = []

abbrev place_of : Scanned → ℕ
place_of (Ok ts) = 0
place_of (Err e) = e.0

abbrev rule_of : Scanned → Rule
rule_of (Ok ts) = r.S1
rule_of (Err e) = e.1

not_both : (bs : Bytes) (ts : List Token) (at : ℕ) (x : Rule) → scan bs ≡ Ok ts → scan bs ≡ Err (at, x) → ⊥
not_both bs ts at x e f = cc

same_fault : (bs : Bytes) (at other : ℕ) (x y : Rule) → IsFault (length bs) [] bs at x → IsFault (length bs) [] bs other y → (at ≡ other) × (x ≡ y)
same_fault bs at other x y d e = let same = sym (fault_scanned bs at x d) ∙ fault_scanned bs other y e in (ap place_of same, ap rule_of same)

-- ---- UTF-8

pub all_valid : (bs : Bytes) (bad : ℕ) → IsUtf8 bs → IsValidUpTo bs bad → ⊥
all_valid bs bad u v = v.longest (length bs) v.short (subst IsUtf8 (sym (take_all (length bs) bs (omega arith))) u)

one_valid : (bs : Bytes) (a b : ℕ) → IsValidUpTo bs a → IsValidUpTo bs b → a ≤ b
one_valid bs a b v w = elim (cases_lt b a) [
  | inl l ↦ absurd (w.longest a l v.front)
  | inr l ↦ l
]

search_valid : (bs : Bytes) (m : ℕ) → m ≤ length bs → ((k : ℕ) → m ≤ k → ¬ (IsUtf8 (take k bs))) → (n : ℕ) × IsValidUpTo bs n
search_valid bs zero l none = absurd (none 0 (omega arith) IsUtf8-nil)
search_valid bs (suc m) l none = elim (tells (is_utf8 (take m bs))) [
  | inl e ↦ (m, record { short = omega arith; front = IsUtf8-from_is_utf8 (take m bs) e; longest = λ k less. none k (omega arith) })
  | inr e ↦ search_valid bs m (omega arith) (λ k from. elim (cases_lt m k) [
    | inl more ↦ none k (omega arith)
    | inr same ↦
        let is : k ≡ m = omega arith in
        λ u. clash (is_utf8-from_IsUtf8 (take m bs) (subst (λ (i : ℕ). IsUtf8 (take i bs)) is u)) e
  ])
]

longest_valid : (bs : Bytes) → is_utf8 bs ≡ false → (n : ℕ) × IsValidUpTo bs n
longest_valid bs e = search_valid bs (length bs) (omega arith) (λ k from u. clash (is_utf8-from_IsUtf8 bs (subst IsUtf8 (take_all k bs from) u)) e)

-- ---- the first broken rule, from what scanning answers

pub tokens_found : (bs : Bytes) (ts : List Token) → IsUtf8 bs → scan bs ≡ Ok ts → IsTokens bs ts
tokens_found bs ts u e = (u, subst (Says (length bs) [] bs) e (says bs))

pub fault_found : (bs : Bytes) (at : ℕ) (x : Rule) → scan bs ≡ Err (at, x) → IsFault (length bs) [] bs at x
fault_found bs at x e = subst (Says (length bs) [] bs) e (says bs)

pub broken_in_text : (bs : Bytes) (at : ℕ) (x : Rule) → IsUtf8 bs → scan bs ≡ Err (at, x) → IsFirstBroken bs at x
broken_in_text bs at x u e = faults.before (fault_found bs at x e) (λ bad v. absurd (all_valid bs bad u v))

pub broken_before : (bs : Bytes) (bad at : ℕ) (x : Rule) → IsValidUpTo bs bad → scan bs ≡ Err (at, x) → at < bad → IsFirstBroken bs at x
broken_before bs bad at x v e l = faults.before (fault_found bs at x e) (λ other w. omega (arith, one_valid bs bad other v w))

pub broken_utf8 : (bs : Bytes) (bad at : ℕ) (x : Rule) → IsValidUpTo bs bad → scan bs ≡ Err (at, x) → bad ≤ at → IsFirstBroken bs bad r.S1
broken_utf8 bs bad at x v e l = faults.not_utf8 v (λ other y d. let same = same_fault bs at other x y (fault_found bs at x e) d in omega (arith, same.0))

pub broken_utf8_alone : (bs : Bytes) (bad : ℕ) (ts : List Token) → IsValidUpTo bs bad → scan bs ≡ Ok ts → IsFirstBroken bs bad r.S1
broken_utf8_alone bs bad ts v e = faults.not_utf8 v (λ other y d. absurd (not_both bs ts other y e (fault_scanned bs other y d)))

-- ---- the laws

pub tokens_are_one : TokensAreOne
tokens_are_one bytes ts us d e = ap tokens_of (sym (file_scanned bytes ts d.1) ∙ file_scanned bytes us e.1)

pub first_broken_is_one : FirstBrokenIsOne
first_broken_is_one bytes at other x y (faults.not_utf8 v f) (faults.not_utf8 w g) = (let l = one_valid bytes at other v w in let m = one_valid bytes other at w v in omega arith, refl)
first_broken_is_one bytes at other x y (faults.not_utf8 v f) (faults.before d g) = absurd (let l = f other y d in let m = g at v in omega arith)
first_broken_is_one bytes at other x y (faults.before d f) (faults.not_utf8 w g) = absurd (let l = g at x d in let m = f other w in omega arith)
first_broken_is_one bytes at other x y (faults.before d f) (faults.before e g) = same_fault bytes at other x y d e

pub tokens_break_none : TokensBreakNone
tokens_break_none bytes ts at x d (faults.not_utf8 v f) = all_valid bytes at d.0 v
tokens_break_none bytes ts at x d (faults.before e f) = not_both bytes ts at x (file_scanned bytes ts d.1) (fault_scanned bytes at x e)

abbrev OneOf : Bytes → Type 0
OneOf bytes = ((ts : List Token) × IsTokens bytes ts) ⊎ ((at : ℕ) × (x : Rule) × IsFirstBroken bytes at x)

valid_or_broken : (bytes : Bytes) → IsUtf8 bytes → (s : Scanned) → scan bytes ≡ s → OneOf bytes
valid_or_broken bytes u (Ok ts) e = inl (ts, tokens_found bytes ts u e)
valid_or_broken bytes u (Err f) e = inr (f.0, f.1, broken_in_text bytes f.0 f.1 u e)

bad_broken : (bytes : Bytes) (bad : ℕ) → IsValidUpTo bytes bad → (s : Scanned) → scan bytes ≡ s → OneOf bytes
bad_broken bytes bad v (Ok ts) e = inr (bad, r.S1, broken_utf8_alone bytes bad ts v e)
bad_broken bytes bad v (Err f) e = elim (cases_lt f.0 bad) [
  | inl l ↦ inr (f.0, f.1, broken_before bytes bad f.0 f.1 v e l)
  | inr l ↦ inr (bad, r.S1, broken_utf8 bytes bad f.0 f.1 v e l)
]

pub tokens_or_broken : TokensOrBroken
tokens_or_broken bytes = elim (tells (is_utf8 bytes)) [
  | inl e ↦ valid_or_broken bytes (IsUtf8-from_is_utf8 bytes e) (scan bytes) refl
  | inr e ↦ let n = longest_valid bytes e in bad_broken bytes n.0 n.1 (scan bytes) refl
]

pub tokens_ascend : TokensAscend
tokens_ascend bytes ts d =
    let none : length bytes - length bytes ≡ 0 = omega arith in
    subst (λ (low : ℕ). Ascend (length bytes) low ts) none (file_ascends (omega arith) d.1)
