-- The units of characters, byte by byte.
use Rattle.std.proofs.Common.{◌≡◌, ℕ, ◌+◌, ◌-◌, ◌*◌, ◌<◌, ◌≤◌, List, [], ◌∷◌, ◌++◌, sym, ap, ◌∙◌, arith}
use Rattle.std.proofs.lemmas.List.{append-nil}
use Rattle.std.proofs.lemmas.Bool.Decides.{nat_tests}
use Rattle.std.specs.Str.{continuation_len, lead_bits, chars_after, chars}
use Rattle.code_units.specs.Text.{units_of_chars, units_of}
use Rattle.dart_tokens.specs.Answers.{IsPartial}

pub lead_small : (left code b : ℕ) → b < 256 → left ≡ continuation_len b → code ≡ lead_bits b → IsPartial left code
lead_small left code b l e f = record {
  few = grind (arith, nat_tests);
  whole = grind (arith, nat_tests);
  one = λ h. grind (arith, nat_tests);
  two = λ h. grind (arith, nat_tests);
  three = λ h. grind (arith, nat_tests);
}

pub next_partial : (left code bits : ℕ) → IsPartial left code → 0 < left → bits ≤ 127 → IsPartial (left - 1) (code * 64 + bits)
next_partial left code bits p some l =
    let few = p.few in
    let one = p.one (omega arith) in
    record {
      few = omega arith;
      whole = omega arith;
      one = λ h. let two = p.two (omega arith) in omega arith;
      two = λ h. let three = p.three (omega arith) in omega arith;
      three = λ h. absurd (omega arith);
    }

pub none_pushed : (us bs : List ℕ) → bs ≡ [] → us ≡ us ++ units_of bs
unfolding chars
none_pushed us bs e = sym (ap (λ (xs : List ℕ). us ++ units_of xs) e ∙ append-nil us)

pub first_of : (bs rest : List ℕ) (b left code : ℕ) → bs ≡ b ∷ rest → left ≡ continuation_len b → code ≡ lead_bits b → units_of_chars (chars_after left code rest) ≡ units_of bs
unfolding chars
first_of bs rest b left code e f g =
    ap (λ (n : ℕ). units_of_chars (chars_after n code rest)) f ∙ ap (λ (c : ℕ). units_of_chars (chars_after (continuation_len b) c rest)) g ∙ ap units_of (sym e)
