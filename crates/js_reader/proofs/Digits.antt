-- A number is read from its only spelling.
use Rattle.std.proofs.Common.{◌≡◌, ℕ, ◌<◌, ◌≤◌, ◌^◌, Bool, true, false, cond, List, Option, Some, None, refl, sym, ap, ◌∙◌, subst, arith}
use Rattle.std.specs.Prelude.{nat_lt}
use Rattle.std.specs.Str.{bytes_eq}
use Rattle.std.specs.Str.Parse.{digits_value}
use Rattle.std.specs.Fmt.{decimal}
use Rattle.std.proofs.lemmas.Bool.{lt-ltb, le-leb, ltb-true, leb-true, and_parts, and_from}
use Rattle.std.proofs.lemmas.Slice.Eq.{bytes_eq-Decides}
use Rattle.std.proofs.lemmas.Fmt.{decimal_is_IsNumeral}
use Rattle.js_tree.specs.Grammar.{greatest}
use Rattle.js_reader.specs.Taking.{whole_of, limited, number_of}

pub same_bytes : (a b : List ℕ) → a ≡ b → bytes_eq a b ≡ true
same_bytes a b e = (bytes_eq-Decides a b).1 e

pub bytes_same : (a b : List ℕ) → bytes_eq a b ≡ true → a ≡ b
bytes_same a b e = (bytes_eq-Decides a b).0 e

-- what a test that came out so says
pub chosen_some : {X : Type 0} (t : Bool) (x z : X) → cond t (Some x) None ≡ Some z → (t ≡ true) × (x ≡ z)
chosen_some true x z e = (refl, cc)
chosen_some false x z e = cc

pub number_found : (n : ℕ) → n < 2 ^ 64 → whole_of (decimal n) ≡ Some n
unfolding whole_of
number_found n small =
    let v : digits_value 10 (decimal n) ≡ n = (decimal_is_IsNumeral n small).1 in
    let low : nat_lt (digits_value 10 (decimal n)) (2 ^ 64) ≡ true = lt-ltb _ _ (subst (λ m. m < 2 ^ 64) (sym v) small) in
    let is : bytes_eq (decimal n) (decimal (digits_value 10 (decimal n))) ≡ true = same_bytes _ _ (ap decimal (sym v)) in
    ap (λ t. cond t (Some (digits_value 10 (decimal n))) None) (and_from _ _ low is) ∙ ap Some v

whole_is : (text : List ℕ) (n : ℕ) → whole_of text ≡ Some n → (text ≡ decimal n) × (n < 2 ^ 64)
unfolding whole_of
whole_is text n e =
    let c = chosen_some _ _ _ e in
    let both = and_parts _ _ c.0 in
    (bytes_same _ _ both.1 ∙ ap decimal c.1, subst (λ m. m < 2 ^ 64) c.1 (ltb-true _ _ both.0))

pub number_missing : (text : List ℕ) → ((n : ℕ) → n < 2 ^ 64 → text ≡ decimal n → ⊥) → whole_of text ≡ None
number_missing text none = by (whole_of text) refl where
  by : (o : Option ℕ) → whole_of text ≡ o → o ≡ None
  by None e = refl
  by (Some n) e = let h = whole_is text n e in absurd (none n h.1 h.0)

pub greatest_small : (n : ℕ) → n ≤ greatest → n < 2 ^ 64
greatest_small n le = omega (arith, le)

-- a number of the grammar, and its digits
pub digits_found : (n : ℕ) → n ≤ greatest → number_of (decimal n) ≡ Some n
digits_found n small = ap limited (number_found n (greatest_small n small)) ∙ ap (λ t. cond t (Some n) None) (le-leb n greatest small)

pub digits_are : (text : List ℕ) (n : ℕ) → number_of text ≡ Some n → (text ≡ decimal n) × (n ≤ greatest)
digits_are text n e = by (whole_of text) refl e where
  by : (o : Option ℕ) → whole_of text ≡ o → limited o ≡ Some n → (text ≡ decimal n) × (n ≤ greatest)
  by None is e = absurd cc
  by (Some k) is e =
      let c = chosen_some _ _ _ e in
      ((whole_is text k is).0 ∙ ap decimal c.1, subst (λ m. m ≤ greatest) c.1 (leb-true k greatest c.0))
