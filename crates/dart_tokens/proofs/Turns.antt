-- A turn of the scanner's loops.
use Rattle.std.proofs.Common.{◌≡◌, ℕ, zero, suc, ◌+◌, ◌-◌, ◌<◌, ◌≤◌, Bool, true, false, List, [], ◌∷◌, length, take, drop, Some, Result, Ok, Err, refl, sym, ap, ◌∙◌, subst, arith}
use Rattle.std.specs.Prelude.{not, ◌==◌, min}
use Rattle.std.specs.List.{list_all}
use Rattle.std.proofs.lemmas.Bool.{eqb-true, le-leb}
use Rattle.std.proofs.lemmas.List.{append-nil}
use denote.Ref.{Bor}
use Rattle.dart_syntax.specs.declared.tokens.Token.{Token}
use Rattle.dart_syntax.specs.Table.{Bytes, is_hex, back, front, value_from}
use Rattle.dart_syntax.specs.Texts.{unit_escape}
use Rattle.dart_syntax.specs.Tokens.{Stack, in_text, taken}
use Rattle.dart_syntax.specs.Reader.{read, skimmed, skim, Scanned, with_front, went, scan_from, scan, capped_from}
use Rattle.dart_syntax.proofs.Fronts.{back_shorter, front_take}
use Rattle.dart_syntax.proofs.Whole.{skim_step, scan_step, scan_end}
use Rattle.dart_tokens.specs.Answers.{Fails, GoesOn}
use Rattle.dart_tokens.specs.declared.scanner.ScanError.{ScanError}
use Rattle.dart_tokens.specs.declared.scanner.ScanError.TheVariants.{Fault, Memory}
use Rattle.dart_tokens.proofs.Digits.{short_value}

-- ---- stretches and escapes

pub stretch_shrinks : (p : ℕ → Bool) (rest more after : Bytes) (b : ℕ) → rest ≡ b ∷ more → p b ≡ true → after ≡ back p rest → length after < length rest
stretch_shrinks p rest more after b e h is =
    let here : back p (b ∷ more) ≡ back p more = rw h refl in
    let whole : after ≡ back p more = is ∙ (ap (back p) e ∙ here) in
    omega (arith, ap length whole, ap length e, back_shorter p more)

pub taken_is : (p : ℕ → Bool) (bs rest : Bytes) → rest ≡ back p bs → taken bs rest ≡ front p bs
taken_is p bs rest e = ap (taken bs) e ∙ front_take p bs

pub unit_read : (k value : ℕ) (bs digits : Bytes) → digits ≡ take k bs → k ≤ length bs → k ≤ 4 → length digits ≡ k → list_all is_hex digits ≡ true → value ≡ min (capped_from 16 0 digits) 65535 → unit_escape k bs ≡ Some (value ∷ [], drop k bs)
unit_read k value bs digits d l four len h v =
    let all : list_all is_hex (take k bs) ≡ true = subst (λ (t : Bytes). list_all is_hex t ≡ true) d h in
    let is : value_from 16 0 (take k bs) ≡ value = ap (value_from 16 0) (sym d) ∙ (sym (short_value digits (omega arith) h) ∙ sym v) in
    rw (le-leb k (length bs) l, all) (ap (λ (x : ℕ). Some (x ∷ [], drop k bs)) is)

-- ---- looking for the end of a text

skim_nothing : (n k : ℕ) (st : Stack) (bs : Bytes) → in_text st ≡ false → skim n k st bs ≡ true
unfolding skim
skim_nothing n zero st [] h = rw h refl
skim_nothing n (suc k) st [] h = rw h refl
skim_nothing n zero st (b ∷ bs) h = rw h refl
skim_nothing n (suc k) st (b ∷ bs) h = rw h refl

skim_end : (n k : ℕ) (st : Stack) (bs : Bytes) → length bs ≤ 0 → skim n k st bs ≡ not (in_text st)
unfolding skim
skim_end n zero st [] l = refl
skim_end n (suc k) st [] l = refl
skim_end n k st (b ∷ bs) l = absurd (omega arith)

skim_none : (n : ℕ) (st : Stack) (bs : Bytes) → skim n 0 st bs ≡ not (in_text st)
unfolding skim
skim_none n st [] = refl
skim_none n st (b ∷ bs) = refl

pub one_turn : (end at : ℕ) → at < end → end - at ≡ suc (end - (at + 1))
one_turn end at l = omega arith

pub some_bytes : (xs : Bytes) → (length xs == 0) ≡ false → 0 < length xs
some_bytes [] h = absurd cc
some_bytes (x ∷ xs) h = omega arith

no_bytes : (xs : Bytes) → (length xs == 0) ≡ true → length xs ≤ 0
no_bytes xs h = omega (arith, eqb-true (length xs) 0 h)

module _ (n at end : ℕ) (st : Stack) (bs : Bytes) (whole : Bool) (was : whole ≡ skim n (end - at) st bs) where
  pub look_out : in_text st ≡ false → whole ≡ true
  look_out h = was ∙ skim_nothing n (end - at) st bs h

  pub look_end : in_text st ≡ true → (length bs == 0) ≡ true → whole ≡ false
  look_end h e = was ∙ (skim_end n (end - at) st bs (no_bytes bs e) ∙ rw h refl)

  turned : at < end → in_text st ≡ true → (length bs == 0) ≡ false → whole ≡ skimmed (λ s x. skim n (end - (at + 1)) s x) st (read n st bs)
  turned l h e = was ∙ (ap (λ (k : ℕ). skim n k st bs) (one_turn end at l) ∙ skim_step n (end - (at + 1)) st bs (some_bytes bs e) h)

  pub look_none : at < end → in_text st ≡ true → (length bs == 0) ≡ false → ((more : Stack → Bytes → Bool) → skimmed more st (read n st bs) ≡ false) → whole ≡ false
  look_none l h e f = turned l h e ∙ f (λ s x. skim n (end - (at + 1)) s x)

  pub look_on : (next : Stack) (rest : Bytes) → at < end → in_text st ≡ true → (length bs == 0) ≡ false → ((more : Stack → Bytes → Bool) → skimmed more st (read n st bs) ≡ more next rest) → whole ≡ skim n (end - (at + 1)) next rest
  look_on next rest l h e f = turned l h e ∙ f (λ s x. skim n (end - (at + 1)) s x)

  pub look_done : end ≤ at → whole ≡ not (in_text st)
  look_done l = let none : end - at ≡ 0 = omega arith in was ∙ (ap (λ (k : ℕ). skim n k st bs) none ∙ skim_none n st bs)

-- ---- whole files

scan_is : (bs : Bytes) → scan bs ≡ scan_from (length bs) (length bs) [] bs
unfolding scan
scan_is bs = refl

front_none : (x : Scanned) → x ≡ with_front [] x
front_none (Ok ts) = refl
front_none (Err e) = refl

pub begins : (bs : Bytes) → scan bs ≡ with_front [] (scan_from (length bs) (length bs - 0) [] bs)
begins bs =
    let same : length bs ≡ length bs - 0 = omega arith in
    scan_is bs ∙ (ap (λ (k : ℕ). scan_from (length bs) k [] bs) same ∙ front_none (scan_from (length bs) (length bs - 0) [] bs))

scan_none : (n : ℕ) (st : Stack) (bs : Bytes) → scan_from n 0 st bs ≡ Ok []
unfolding scan_from
scan_none n st [] = refl
scan_none n st (b ∷ bs) = refl

scan_empty : (n k : ℕ) (st : Stack) (bs : Bytes) → length bs ≤ 0 → scan_from n k st bs ≡ Ok []
scan_empty n k st [] l = scan_end n k st
scan_empty n k st (b ∷ bs) l = absurd (omega arith)

fails_front : (found : List Token) (e : ScanError) (x y : Scanned) → x ≡ with_front found y → Fails e y → Fails e x
fails_front found Memory x y is f = tt
fails_front found (Fault at rule) x y is f = is ∙ ap (with_front found) f

module _ (n at end : ℕ) (st : Stack) (bs : Bytes) (found : List Token) (whole : Scanned) (was : whole ≡ with_front found (scan_from n (end - at) st bs)) where
  opened : at < end → (length bs == 0) ≡ false → whole ≡ with_front found (went n st (λ s x. scan_from n (end - (at + 1)) s x) (read n st bs))
  opened l e = was ∙ ap (with_front found) (ap (λ (k : ℕ). scan_from n k st bs) (one_turn end at l) ∙ scan_step n (end - (at + 1)) st bs (some_bytes bs e))

  pub scan_on : (result : Result (Bor Bytes) ScanError) (rest : Bor Bytes) (more : List Token) (next : Stack) → result ≡ Ok rest → at < end → (length bs == 0) ≡ false
      → GoesOn result found more next (λ k. went n st k (read n st bs)) → whole ≡ with_front more (scan_from n (end - (at + 1)) next rest.now)
  scan_on result rest more next is l e g =
      let go : GoesOn (Ok rest) found more next (λ k. went n st k (read n st bs)) = subst (λ (x : Result (Bor Bytes) ScanError). GoesOn x found more next (λ k. went n st k (read n st bs))) is g in
      opened l e ∙ go (λ s x. scan_from n (end - (at + 1)) s x)

  pub scan_fails : (result : Result (Bor Bytes) ScanError) (x : ScanError) (more : List Token) (next : Stack) → result ≡ Err x → at < end → (length bs == 0) ≡ false
      → GoesOn result found more next (λ k. went n st k (read n st bs)) → Fails x whole
  scan_fails result x more next is l e g =
      let go : GoesOn (Err x) found more next (λ k. went n st k (read n st bs)) = subst (λ (y : Result (Bor Bytes) ScanError). GoesOn y found more next (λ k. went n st k (read n st bs))) is g in
      fails_front found x whole (went n st (λ s y. scan_from n (end - (at + 1)) s y) (read n st bs)) (opened l e) (go (λ s y. scan_from n (end - (at + 1)) s y))

  pub scan_over : (length bs == 0) ≡ true → whole ≡ Ok found
  scan_over e = was ∙ (ap (with_front found) (scan_empty n (end - at) st bs (no_bytes bs e)) ∙ ap Ok (append-nil found))

  pub scan_done : end ≤ at → whole ≡ Ok found
  scan_done l = let none : end - at ≡ 0 = omega arith in was ∙ (ap (λ (k : ℕ). with_front found (scan_from n k st bs)) none ∙ (ap (with_front found) (scan_none n st bs) ∙ ap Ok (append-nil found)))
