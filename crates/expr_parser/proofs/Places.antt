-- Expressions at numbered places of a file.
use Rattle.std.proofs.Common.{◌≡◌, ◌≤◌, ◌-◌, ◌+◌, ℕ, Option, length, take, drop, Some, None, sym, ap, ◌∙◌, subst, refl, arith}
use Rattle.std.proofs.lemmas.List.{drop-drop, length-drop, take_rest}
use Rattle.dart_grammar.specs.declared.trees.Expr.{Expr}
use Rattle.dart_grammar.specs.Marks.{Tokens, looseness}
use Rattle.dart_grammar.specs.Grammar.{IsExpr}
use Rattle.expr_parser.specs.declared.fault.Fault.{Fault}
use Rattle.expr_parser.specs.declared.fault.Fault.TheVariants.{NotDerived}
use Rattle.expr_parser.specs.Cursor.{Found, Fails}
use Rattle.expr_parser.specs.Knot.{expr_at}
use Rattle.expr_parser.specs.Expressions.{IsExpressionAt, HasNoExpression, OneExpressionAt}
use Rattle.expr_parser.proofs.Shrinks.{expr_shrinks}
use Rattle.expr_parser.proofs.Ends.{left_at_end}
use Rattle.expr_parser.proofs.Takes.{expr_takes}
use Rattle.expr_parser.proofs.Found.{expressions_are_derived, expressions_are_parsed, one_expression_here}

-- the parser's answer from number `from` on, where it was given these tokens cut out
pub in_cut : (all ts : Tokens) (from : ℕ) (found : Found Expr) → all ≡ ts
    → expr_at (length (take (length all - from) (drop from all))) (take (length all - from) (drop from all)) ≡ found → expr_at (length (drop from ts)) (drop from ts) ≡ found
in_cut all ts from found same h =
    subst (λ (xs : Tokens). expr_at (length (drop from xs)) (drop from xs) ≡ found) same (subst (λ (xs : Tokens). expr_at (length xs) xs ≡ found) (take_rest all from) h)

pub fails_not_derived : {Y : Type 0} (e : Fault) (found : Option Y) → e ≡ NotDerived → Fails e found → found ≡ None
fails_not_derived e found is h = subst (λ (x : Fault). Fails x found) is h

-- where an end of the tokens begins that stands behind number `from`
drop_twice : (ts rest : Tokens) (from : ℕ) → from ≤ length ts → length rest ≤ length (drop from ts)
    → drop (length (drop from ts) - length rest) (drop from ts) ≡ rest → drop (length ts - length rest) ts ≡ rest
drop_twice ts rest from inside few h =
    let long = length-drop from ts in
    let same : from + (length (drop from ts) - length rest) ≡ length ts - length rest = omega (arith, long, inside, few) in
    sym (ap (λ (n : ℕ). drop n ts) same) ∙ (sym (drop-drop (length (drop from ts) - length rest) from ts) ∙ h)

pub is_expression_at : (ts rest : Tokens) (from : ℕ) (a : Expr) → from ≤ length ts → expr_at (length (drop from ts)) (drop from ts) ≡ Some (a, rest)
    → IsExpressionAt ts from a (length ts - length rest)
is_expression_at ts rest from a inside h =
    let d = expressions_are_derived (length (drop from ts)) (drop from ts) rest a h in
    let few = expr_shrinks d.0 in
    let long = length-drop from ts in
    let ends = drop_twice ts rest from inside (omega (arith, few)) (left_at_end (expr_takes d.0)) in
    record {
      in_order = omega (arith, few, long, inside);
      within = omega arith;
      derived = subst (λ (r : Tokens). IsExpr (drop from ts) a r) (sym ends) d.0;
      ended = ap looseness ends ∙ d.1;
    }

pub is_no_longer : (ts rest : Tokens) (from : ℕ) (a : Expr) → expr_at (length (drop from ts)) (drop from ts) ≡ Some (a, rest) → length rest ≤ length ts
is_no_longer ts rest from a h = omega (arith, expr_shrinks (expressions_are_derived (length (drop from ts)) (drop from ts) rest a h).0, length-drop from ts)

pub has_no_expression : (ts : Tokens) (from : ℕ) → expr_at (length (drop from ts)) (drop from ts) ≡ None → HasNoExpression ts from
has_no_expression ts from h = record { none = λ a to x. none_is_some (sym h ∙ expressions_are_parsed (drop from ts) (drop to ts) a x.derived x.ended) }
  where
    none_is_some : {y : Expr × Tokens} → (let n : Option (Expr × Tokens) = None in n ≡ Some y) → ⊥
    none_is_some e = cc

pub one_expression_at_place : OneExpressionAt
one_expression_at_place ts from i j a b x y =
    let same = one_expression_here (drop from ts) (drop i ts) (drop j ts) a b x.derived x.ended y.derived y.ended in
    let long = sym (length-drop i ts) ∙ (ap (λ (xs : Tokens). length xs) same.1 ∙ length-drop j ts) in
    (same.0, omega (arith, long, x.within, y.within))
