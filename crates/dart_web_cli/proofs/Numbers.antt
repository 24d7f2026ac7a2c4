-- Numbers, and numbers with commas between.
use Rattle.std.proofs.Common.{◌≡◌, ◌≢◌, ℕ, suc, ◌+◌, ◌<◌, ◌≤◌, ◌^◌, List, [], ◌∷◌, ◌++◌, length, get_or, Result, Ok, Err, refl, sym, ◌∙◌, ap, subst, arith}
use Rattle.std.specs.Prelude.{All, decimal}
use Rattle.std.specs.Str.Parse.{ParsesUnsigned, AllDigits}
use Rattle.std.proofs.lemmas.Fmt.{parse-decimal, decimal_injective, decimal_is_IsNumeral}
use Rattle.std.proofs.lemmas.Str.Parse.{digit_from_value}
use Rattle.std.proofs.lemmas.List.Elements.{All-cons, All-nil}
use Rattle.dart_web_cli.specs.Words.{with_commas}
use Rattle.dart_web_cli.specs.Commands.{IsNumbers, HasNoNumber, Goes, Ends}

-- ---- one number

pub not_parsed : (n end : ℕ) (text : List ℕ) → end < 2 ^ 64 → ParsesUnsigned {E = Unit {0}} 64 10 text (Err tt) → n < end → text ≡ decimal n → ⊥
not_parsed n end text fits parsed less is =
    let small : n < 2 ^ 64 = omega arith in
    let failed : Result ℕ (Unit {0}) = Err tt in
    let same : failed ≡ Ok n = parse-decimal 64 n text failed small small is parsed in cc

pub same_number : (n other end : ℕ) (text : List ℕ) → end < 2 ^ 64 → ParsesUnsigned {E = Unit {0}} 64 10 text (Ok n) → other < end → text ≡ decimal other → n ≡ other
same_number n other end text fits parsed less is =
    let small : other < 2 ^ 64 = omega arith in
    let read : Result ℕ (Unit {0}) = Ok n in
    let same : read ≡ Ok other = parse-decimal 64 other text read small small is parsed in cc

-- ---- commas

abbrev NoComma : List ℕ → Type 0
NoComma [] = Unit {0}
NoComma (b ∷ bs) = (b ≢ 44) × NoComma bs

no_comma : (bs : List ℕ) → ((i : ℕ) → i < length bs → get_or bs i 0 ≢ 44) → NoComma bs
no_comma [] h = tt
no_comma (b ∷ bs) h = (h 0 (omega arith), no_comma bs (λ i l. h (suc i) (omega arith)))

has_comma : (xs ys : List ℕ) → NoComma (xs ++ 44 ∷ ys) → ⊥
has_comma [] ys h = h.0 refl
has_comma (x ∷ xs) ys h = has_comma xs ys h.1

one_split : (xs ys us vs : List ℕ) → NoComma xs → NoComma us → xs ++ 44 ∷ ys ≡ us ++ 44 ∷ vs → (xs ≡ us) × (ys ≡ vs)
one_split [] ys [] vs h k e = (refl, cc)
one_split [] ys (u ∷ us) vs h k e = let same : 44 ≡ u = cc in absurd (k.0 (sym same))
one_split (x ∷ xs) ys [] vs h k e = let same : x ≡ 44 = cc in absurd (h.0 same)
one_split (x ∷ xs) ys (u ∷ us) vs h k e =
    let more : xs ++ 44 ∷ ys ≡ us ++ 44 ∷ vs = cc in
    let head : x ≡ u = cc in
    let rest = one_split xs ys us vs h.1 k.1 more in
    let tail : xs ≡ us = rest.0 in
    (cc, rest.1)

digits_have_none : (ds : List ℕ) → AllDigits 10 ds → NoComma ds
digits_have_none [] h = tt
digits_have_none (c ∷ cs) h = (λ e. let r = digit_from_value c h.0 in absurd (omega (arith, r.0, r.1)), digits_have_none cs h.1)

decimal_has_none : (n : ℕ) → n < 10 ^ 9 → NoComma (decimal n)
decimal_has_none n small = let digits = decimal_is_IsNumeral n (omega arith) in digits_have_none (decimal n) digits.0.1

same_digits : (m n : ℕ) → m < 10 ^ 9 → n < 10 ^ 9 → decimal m ≡ decimal n → m ≡ n
same_digits m n a b e = decimal_injective m n (omega arith) (omega arith) e

-- ---- the first of some numbers

first_short : (n : ℕ) (more : List ℕ) (word : List ℕ) → IsNumbers word (n ∷ more) → n < 10 ^ 9
first_short n more word are = are.short 0 0 (omega arith)

-- a text without a comma

last_only : (text : List ℕ) (n : ℕ) → NoComma text → text ≡ decimal n → n < 10 ^ 9 → (numbers : List ℕ) → IsNumbers text numbers → numbers ≡ n ∷ []
last_only text n none is small [] are = absurd (omega (arith, are.some))
last_only text n none is small (m ∷ []) are =
    let same : m ≡ n = same_digits m n (first_short m [] text are) small (sym are.is ∙ is) in cc
last_only text n none is small (m ∷ k ∷ more) are = absurd (has_comma (decimal m) (with_commas (k ∷ more)) (subst NoComma are.is none))

pub next_ends : (text : List ℕ) (n : ℕ) → ((i : ℕ) → i < length text → get_or text i 0 ≢ 44) → text ≡ decimal n → n < 10 ^ 9 → Ends text n
next_ends text n none is small = record {
  only = last_only text n (no_comma text none) is small;
  is = record { is = is; some = omega arith; short = All-cons (λ x. x < 10 ^ 9) n [] small (All-nil (λ x. x < 10 ^ 9)) };
}

no_last : (text : List ℕ) → NoComma text → ((n : ℕ) → n < 10 ^ 9 → text ≡ decimal n → ⊥) → (numbers : List ℕ) → IsNumbers text numbers → ⊥
no_last text none never [] are = omega (arith, are.some)
no_last text none never (m ∷ []) are = never m (first_short m [] text are) are.is
no_last text none never (m ∷ k ∷ more) are = has_comma (decimal m) (with_commas (k ∷ more)) (subst NoComma are.is none)

pub no_end : (text : List ℕ) → ((i : ℕ) → i < length text → get_or text i 0 ≢ 44) → ((n : ℕ) → n < 10 ^ 9 → text ≡ decimal n → ⊥) → HasNoNumber text
no_end text none never = no_last text (no_comma text none) never

-- a text with a comma

rest_of : (text digits rest : List ℕ) (n : ℕ) → text ≡ digits ++ 44 ∷ rest → NoComma digits → digits ≡ decimal n → n < 10 ^ 9 → (numbers : List ℕ) → IsNumbers text numbers → (more : List ℕ) × (numbers ≡ n ∷ more) × IsNumbers rest more
rest_of text digits rest n split none is small [] are = absurd (omega (arith, are.some))
rest_of text digits rest n split none is small (m ∷ []) are =
    absurd (has_comma digits rest (subst NoComma (sym are.is ∙ split) (decimal_has_none m (first_short m [] text are))))
rest_of text digits rest n split none is small (m ∷ k ∷ more) are =
    let short = first_short m (k ∷ more) text are in
    let parts = one_split (decimal m) (with_commas (k ∷ more)) digits rest (decimal_has_none m short) none (sym are.is ∙ split) in
    let same : m ≡ n = same_digits m n short small (parts.0 ∙ is) in
    (k ∷ more, cc, record { is = sym parts.1; some = omega arith; short = λ i d l. are.short (suc i) d (omega arith) })

with_first : (text digits rest : List ℕ) (n : ℕ) → text ≡ digits ++ 44 ∷ rest → digits ≡ decimal n → n < 10 ^ 9 → (more : List ℕ) → IsNumbers rest more → IsNumbers text (n ∷ more)
with_first text digits rest n split is small [] are = absurd (omega (arith, are.some))
with_first text digits rest n split is small (k ∷ more) are =
    let whole : text ≡ decimal n ++ 44 ∷ with_commas (k ∷ more) = let r = are.is in cc in
    record { is = whole; some = omega arith; short = All-cons (λ x. x < 10 ^ 9) n (k ∷ more) small are.short }

pub next_goes : (text digits rest : List ℕ) (n : ℕ) → text ≡ digits ++ 44 ∷ rest → ((i : ℕ) → i < length digits → get_or digits i 0 ≢ 44) → digits ≡ decimal n → n < 10 ^ 9 → Goes text n rest
next_goes text digits rest n split none is small = record {
  from = rest_of text digits rest n split (no_comma digits none) is small;
  to = with_first text digits rest n split is small;
}

no_first : (text digits rest : List ℕ) → text ≡ digits ++ 44 ∷ rest → NoComma digits → ((n : ℕ) → n < 10 ^ 9 → digits ≡ decimal n → ⊥) → (numbers : List ℕ) → IsNumbers text numbers → ⊥
no_first text digits rest split none never [] are = omega (arith, are.some)
no_first text digits rest split none never (m ∷ []) are = has_comma digits rest (subst NoComma (sym are.is ∙ split) (decimal_has_none m (first_short m [] text are)))
no_first text digits rest split none never (m ∷ k ∷ more) are =
    let short = first_short m (k ∷ more) text are in
    let parts = one_split (decimal m) (with_commas (k ∷ more)) digits rest (decimal_has_none m short) none (sym are.is ∙ split) in
    never m short (sym parts.0)

pub no_go : (text digits rest : List ℕ) → text ≡ digits ++ 44 ∷ rest → ((i : ℕ) → i < length digits → get_or digits i 0 ≢ 44) → ((n : ℕ) → n < 10 ^ 9 → digits ≡ decimal n → ⊥) → HasNoNumber text
no_go text digits rest split none never = no_first text digits rest split (no_comma digits none) never

-- ---- a text is one list at most

pub one_list : (word : List ℕ) (a b : List ℕ) → IsNumbers word a → IsNumbers word b → a ≡ b
one_list word [] b x y = absurd (omega (arith, x.some))
one_list word (m ∷ ms) [] x y = absurd (omega (arith, y.some))
one_list word (m ∷ []) (n ∷ []) x y =
    let same : m ≡ n = same_digits m n (first_short m [] word x) (first_short n [] word y) (sym x.is ∙ y.is) in cc
one_list word (m ∷ []) (n ∷ l ∷ ns) x y =
    absurd (has_comma (decimal n) (with_commas (l ∷ ns)) (subst NoComma (sym x.is ∙ y.is) (decimal_has_none m (first_short m [] word x))))
one_list word (m ∷ k ∷ ms) (n ∷ []) x y =
    absurd (has_comma (decimal m) (with_commas (k ∷ ms)) (subst NoComma (sym y.is ∙ x.is) (decimal_has_none n (first_short n [] word y))))
one_list word (m ∷ k ∷ ms) (n ∷ l ∷ ns) x y =
    let short = first_short m (k ∷ ms) word x in
    let parts = one_split (decimal m) (with_commas (k ∷ ms)) (decimal n) (with_commas (l ∷ ns)) (decimal_has_none m short) (decimal_has_none n (first_short n (l ∷ ns) word y)) (sym x.is ∙ y.is) in
    let same : m ≡ n = same_digits m n short (first_short n (l ∷ ns) word y) parts.0 in
    let one : IsNumbers (with_commas (k ∷ ms)) (k ∷ ms) = record { is = refl; some = omega arith; short = λ i d h. x.short (suc i) d (omega arith) } in
    let two : IsNumbers (with_commas (k ∷ ms)) (l ∷ ns) = record { is = parts.1; some = omega arith; short = λ i d h. y.short (suc i) d (omega arith) } in
    let rest : k ∷ ms ≡ l ∷ ns = one_list (with_commas (k ∷ ms)) (k ∷ ms) (l ∷ ns) one two in
    cc
