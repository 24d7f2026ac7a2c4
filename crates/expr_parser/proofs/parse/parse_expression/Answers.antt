use Rattle.std.proofs.Common.{◌≡◌, ◌≤◌, ◌-◌, length, Some, None, refl, sym, subst, rules}
use Rattle.dart_grammar.specs.declared.trees.Expr.{Expr}
use Rattle.dart_grammar.specs.Marks.{Tokens}
use Rattle.expr_parser.specs.Expressions.{IsExpressionAt}
use Rattle.expr_parser.proofs.Places.{in_cut, fails_not_derived, is_expression_at, is_no_longer, has_no_expression}
use Rattle.expr_parser.proofs.parse.parse_expression.Goals as goal

-- src/parse.rt:31:55
pub overflow_sub-result : goal.overflow_sub-result
overflow_sub-result c =
    let same : c.as_slice-all.result.now ≡ c.args.tokens.now.items = search rules in
    let found = in_cut c.as_slice-all.result.now c.args.tokens.now.items c.args.from _ same c.in-Ok.ensures in
    subst (λ (ts : Tokens). length c.in-Ok.behind.now ≤ length ts) (sym same) (is_no_longer c.args.tokens.now.items c.in-Ok.behind.now c.args.from c.in-Ok.tree found)

-- src/parse.rt:18:1
pub returns-in-Ok-clause-found : goal.returns-in-Ok-clause-found
returns-in-Ok-clause-found c =
    let same : c.as_slice-all.result.now ≡ c.args.tokens.now.items = search rules in
    let found = in_cut c.as_slice-all.result.now c.args.tokens.now.items c.args.from _ same c.in-Ok.ensures in
    let tree : c.in-Ok.tree ≡ c.into_inner.result = search rules in
    subst (λ (ts : Tokens). IsExpressionAt c.args.tokens.now.items c.args.from c.into_inner.result (length ts - length c.in-Ok.behind.now)) (sym same)
    (subst (λ (a : Expr). IsExpressionAt c.args.tokens.now.items c.args.from a (length c.args.tokens.now.items - length c.in-Ok.behind.now)) tree
    (is_expression_at c.args.tokens.now.items c.in-Ok.behind.now c.args.from c.in-Ok.tree c.requires.within found))

-- src/parse.rt:18:1
pub returns-in-Err-NotDerived-clause-fault : goal.returns-in-Err-NotDerived-clause-fault
returns-in-Err-NotDerived-clause-fault c =
    let same : c.as_slice-all.result.now ≡ c.args.tokens.now.items = search rules in
    let none = fails_not_derived c.in-Err-NotDerived.field-0 _ (search rules) c.in-Err-NotDerived.ensures in
    (has_no_expression c.args.tokens.now.items c.args.from (in_cut c.as_slice-all.result.now c.args.tokens.now.items c.args.from None same none), refl)
