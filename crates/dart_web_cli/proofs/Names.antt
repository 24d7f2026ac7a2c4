-- Names of the translation: no two are the same.
use Rattle.std.proofs.Common.{◌≡◌, ◌≢◌, ℕ, ◌<◌, ◌≤◌, ◌^◌, Bool, true, false, if◌then◌else◌, List, [], ◌∷◌, ◌++◌, Option, Some, None, refl, sym, ap, ◌∙◌, arith}
use Rattle.std.specs.Prelude.{codes, ◌&&◌, ◌==◌}
use Rattle.std.specs.Fmt.{decimal}
use Rattle.std.specs.List.{list_all, list_any}
use Rattle.std.specs.Map.{lookup}
use Rattle.std.specs.Str.{bytes_eq}
use Rattle.std.specs.Str.Parse.{AllDigits}
use Rattle.std.proofs.lemmas.Bool.{le-leb, and_from, or_left, or_right, false_from_ne_true}
use Rattle.std.proofs.lemmas.Fmt.{decimal_injective, decimal_is_IsNumeral}
use Rattle.std.proofs.lemmas.List.{append_cancel_right}
use Rattle.std.proofs.lemmas.Slice.Eq.{bytes_eq-Decides}
use Rattle.std.proofs.lemmas.Str.Parse.{digit_from_value}
use Rattle.js_tree.specs.Tokens.{is_digit, is_part}
use Rattle.js_tree.specs.Grammar.{is_name}
use Rattle.js_store.specs.Scopes.{Scope, bind}
use Rattle.js_store.specs.declared.value.Value.{Value}
use Rattle.dart_web_cli.specs.Translation.{numbered_name, operation_name, variable_name}

-- ---- the same bytes

pub same_as : (x : List ℕ) → bytes_eq x x ≡ true
same_as x = (bytes_eq-Decides x x).1 refl

pub same_is : (x y : List ℕ) → bytes_eq x y ≡ true → x ≡ y
same_is x y e = (bytes_eq-Decides x y).0 e

pub differ : (x y : List ℕ) → x ≢ y → bytes_eq x y ≡ false
differ x y apart = false_from_ne_true (bytes_eq x y) (λ t. apart (same_is x y t))

-- ---- numbered names

pub same_number : (letter j k : ℕ) → j < 2 ^ 64 → k < 2 ^ 64 → numbered_name letter j ≡ numbered_name letter k → j ≡ k
same_number letter j k sj sk e =
    let behind : decimal j ++ codes "$" ≡ decimal k ++ codes "$" = cc e in
    decimal_injective j k sj sk (append_cancel_right (decimal j) (decimal k) (codes "$") behind)

pub numbers_differ : (letter j k : ℕ) → j < 2 ^ 64 → k < 2 ^ 64 → j ≢ k → bytes_eq (numbered_name letter j) (numbered_name letter k) ≡ false
numbers_differ letter j k sj sk apart = differ (numbered_name letter j) (numbered_name letter k) (λ e. apart (same_number letter j k sj sk e))

pub letters_differ : (j k : ℕ) → bytes_eq (operation_name j) (variable_name k) ≡ false
letters_differ j k = refl

pub letters_differ' : (j k : ℕ) → bytes_eq (variable_name j) (operation_name k) ≡ false
letters_differ' j k = refl

pub no_host : (k : ℕ) → bytes_eq (codes "host$") (operation_name k) ≡ false
no_host k = refl

pub no_host' : (k : ℕ) → bytes_eq (codes "host$") (variable_name k) ≡ false
no_host' k = refl

-- ---- they are names of the grammar

digit_is_part : (c : ℕ) → 48 ≤ c → c ≤ 57 → is_part c ≡ true
digit_is_part c low high =
    let digit : is_digit c ≡ true = and_from _ _ (le-leb 48 c low) (le-leb c 57 high) in
    or_left _ _ (or_left _ _ (or_right _ _ digit))

digits_are_parts : (text rest : List ℕ) → AllDigits 10 text → list_all is_part rest ≡ true → list_all is_part (text ++ rest) ≡ true
digits_are_parts [] rest all more = more
digits_are_parts (c ∷ text) rest all more =
    let range = digit_from_value c all.0 in
    and_from _ _ (digit_is_part c range.0 range.1) (digits_are_parts text rest all.1 more)

has_dollar : (text : List ℕ) → list_any (λ c. c == 36) (text ++ codes "$") ≡ true
has_dollar [] = refl
has_dollar (c ∷ text) = or_right (c == 36) _ (has_dollar text)

parts_of : (k : ℕ) → k < 2 ^ 64 → list_all is_part (decimal k ++ codes "$") ≡ true
parts_of k small = digits_are_parts (decimal k) (codes "$") (decimal_is_IsNumeral k small).0.1 refl

pub operation_is_name : (k : ℕ) → k < 2 ^ 64 → is_name (operation_name k) ≡ true
operation_is_name k small = and_from _ _ (and_from true _ refl (parts_of k small)) (or_right (97 == 36) _ (has_dollar (decimal k)))

pub variable_is_name : (k : ℕ) → k < 2 ^ 64 → is_name (variable_name k) ≡ true
variable_is_name k small = and_from _ _ (and_from true _ refl (parts_of k small)) (or_right (118 == 36) _ (has_dollar (decimal k)))

-- ---- names of a scope

pub bound : (scope : Scope) (x : List ℕ) (v : Option Value) → lookup (bytes_eq x) (bind scope x v) ≡ Some v
bound [] x v = ap (λ b. if b then Some v else None) (same_as x)
bound (e ∷ scope) x v = by (bytes_eq x e.0) refl (bound scope x v)
  where
    by : (b : Bool) → bytes_eq x e.0 ≡ b → lookup (bytes_eq x) (bind scope x v) ≡ Some v → lookup (bytes_eq x) (if b then (e.0, v) ∷ scope else e ∷ bind scope x v) ≡ Some v
    by true h again = ap (λ c. if c then Some v else lookup (bytes_eq x) scope) h
    by false h again = ap (λ c. if c then Some e.1 else lookup (bytes_eq x) (bind scope x v)) h ∙ again

pub bound_other : (scope : Scope) (x y : List ℕ) (v : Option Value) → bytes_eq y x ≡ false → lookup (bytes_eq y) (bind scope x v) ≡ lookup (bytes_eq y) scope
bound_other [] x y v apart = ap (λ b. if b then Some v else None) apart
bound_other (e ∷ scope) x y v apart = by (bytes_eq x e.0) refl (bound_other scope x y v apart)
  where
    by : (b : Bool) → bytes_eq x e.0 ≡ b → lookup (bytes_eq y) (bind scope x v) ≡ lookup (bytes_eq y) scope → lookup (bytes_eq y) (if b then (e.0, v) ∷ scope else e ∷ bind scope x v) ≡ lookup (bytes_eq y) (e ∷ scope)
    by true h again =
        let here : bytes_eq y e.0 ≡ false = ap (bytes_eq y) (sym (same_is x e.0 h)) ∙ apart in
        ap (λ c. if c then Some v else lookup (bytes_eq y) scope) here ∙ sym (ap (λ c. if c then Some e.1 else lookup (bytes_eq y) scope) here)
    by false h again = ap (λ r. if bytes_eq y e.0 then Some e.1 else r) again
