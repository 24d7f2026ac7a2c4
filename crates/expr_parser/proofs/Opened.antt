-- What expressions, heads and selectors are, form by form.
use Rattle.std.proofs.Common.{◌≡◌, ℕ, List, Some, None, sym, ap, ◌∙◌}
use Rattle.dart_grammar.specs.declared.trees.Span.{Span}
use Rattle.dart_grammar.specs.declared.trees.Name.{Name}
use Rattle.dart_grammar.specs.declared.trees.Operator.{Operator}
use Rattle.dart_grammar.specs.declared.trees.PrefixOperator.{PrefixOperator}
use Rattle.dart_grammar.specs.declared.trees.Step.{Step}
use Rattle.dart_grammar.specs.declared.trees.Expr.{Expr, out-roll-Expr}
use Rattle.dart_grammar.specs.declared.trees.Expr.TheVariants as e
use Rattle.dart_grammar.specs.declared.trees.Head.{Head, out-Head, out-roll-Head}
use Rattle.dart_grammar.specs.declared.trees.Head.TheVariants as h
use Rattle.dart_grammar.specs.declared.trees.Selector.{Selector, out-Selector, out-roll-Selector}
use Rattle.dart_grammar.specs.declared.trees.Selector.TheVariants as l
use Rattle.dart_grammar.specs.declared.trees.Target.{Target}
use Rattle.dart_grammar.specs.declared.trees.Target.TheVariants as t
use Rattle.dart_grammar.specs.declared.trees.Body.{Body}
use Rattle.dart_grammar.specs.declared.trees.Body.TheOpen.{Expr-F, Head-F, Selector-F}
use Rattle.dart_grammar.specs.declared.trees.Arguments.{Arguments}
use Rattle.dart_grammar.specs.declared.trees.Chain.{Chain}
use Rattle.dart_grammar.specs.declared.trees.Entry.{Entry}
use Rattle.dart_grammar.specs.declared.trees.Interpolation.{Interpolation}
use Rattle.dart_grammar.specs.declared.trees.Parameters.{Parameters}
use Rattle.dart_grammar.specs.Trees.{chain_of}
use Rattle.expr_parser.specs.Chains.{bare_at, selected_at, chain_at_level, chain_in}

-- ---- an expression that is a chain

pub chained_in : (c : Chain) → chain_in (e.Chained c) ≡ Some c
unfolding chain_in
chained_in c = ap chain_in (sym (e.rolls-Chained c)) ∙ ap chain_at_level (out-roll-Expr (Expr-F.Chained c))

pub no_step_before_chain : (p : Span) (o : Step) (a : Target) → chain_in (e.StepBefore p o a) ≡ None
unfolding chain_in
no_step_before_chain p o a = ap chain_in (sym (e.rolls-StepBefore p o a)) ∙ ap chain_at_level (out-roll-Expr (Expr-F.StepBefore p o a))

pub no_step_behind_chain : (p : Span) (o : Step) (a : Target) → chain_in (e.StepBehind p o a) ≡ None
unfolding chain_in
no_step_behind_chain p o a = ap chain_in (sym (e.rolls-StepBehind p o a)) ∙ ap chain_at_level (out-roll-Expr (Expr-F.StepBehind p o a))

pub no_prefixed_chain : (p : Span) (o : PrefixOperator) (a : Expr) → chain_in (e.Prefixed p o a) ≡ None
unfolding chain_in
no_prefixed_chain p o a = ap chain_in (sym (e.rolls-Prefixed p o a)) ∙ ap chain_at_level (out-roll-Expr (Expr-F.Prefixed p o a))

pub no_operated_chain : (p : Span) (o : Operator) (a d : Expr) → chain_in (e.Operated p o a d) ≡ None
unfolding chain_in
no_operated_chain p o a d = ap chain_in (sym (e.rolls-Operated p o a d)) ∙ ap chain_at_level (out-roll-Expr (Expr-F.Operated p o a d))

pub no_is_chain : (p : Span) (a : Expr) (xs : List Name) → chain_in (e.Is p a xs) ≡ None
unfolding chain_in
no_is_chain p a xs = ap chain_in (sym (e.rolls-Is p a xs)) ∙ ap chain_at_level (out-roll-Expr (Expr-F.Is p a xs))

pub no_is_not_chain : (p : Span) (a : Expr) (xs : List Name) → chain_in (e.IsNot p a xs) ≡ None
unfolding chain_in
no_is_not_chain p a xs = ap chain_in (sym (e.rolls-IsNot p a xs)) ∙ ap chain_at_level (out-roll-Expr (Expr-F.IsNot p a xs))

pub no_as_chain : (p : Span) (a : Expr) (xs : List Name) → chain_in (e.As p a xs) ≡ None
unfolding chain_in
no_as_chain p a xs = ap chain_in (sym (e.rolls-As p a xs)) ∙ ap chain_at_level (out-roll-Expr (Expr-F.As p a xs))

pub no_conditional_chain : (p : Span) (a d g : Expr) → chain_in (e.Conditional p a d g) ≡ None
unfolding chain_in
no_conditional_chain p a d g = ap chain_in (sym (e.rolls-Conditional p a d g)) ∙ ap chain_at_level (out-roll-Expr (Expr-F.Conditional p a d g))

-- ---- a head that is a name

pub bare_named : (x : Name) → bare_at (out-Head (h.Named x)) ≡ Some (t.Bare x)
bare_named x = ap (λ (y : Head). bare_at (out-Head y)) (sym (h.rolls-Named x)) ∙ ap bare_at (out-roll-Head (Head-F.Named x))

pub no_bare_this : (p : Span) → bare_at (out-Head (h.This p)) ≡ None
no_bare_this p = ap (λ (y : Head). bare_at (out-Head y)) (sym (h.rolls-This p)) ∙ ap bare_at (out-roll-Head (Head-F.This p))

pub no_bare_super : (p : Span) → bare_at (out-Head (h.Super p)) ≡ None
no_bare_super p = ap (λ (y : Head). bare_at (out-Head y)) (sym (h.rolls-Super p)) ∙ ap bare_at (out-roll-Head (Head-F.Super p))

pub no_bare_null : (p : Span) → bare_at (out-Head (h.Null p)) ≡ None
no_bare_null p = ap (λ (y : Head). bare_at (out-Head y)) (sym (h.rolls-Null p)) ∙ ap bare_at (out-roll-Head (Head-F.Null p))

pub no_bare_true : (p : Span) → bare_at (out-Head (h.True p)) ≡ None
no_bare_true p = ap (λ (y : Head). bare_at (out-Head y)) (sym (h.rolls-True p)) ∙ ap bare_at (out-roll-Head (Head-F.True p))

pub no_bare_false : (p : Span) → bare_at (out-Head (h.False p)) ≡ None
no_bare_false p = ap (λ (y : Head). bare_at (out-Head y)) (sym (h.rolls-False p)) ∙ ap bare_at (out-roll-Head (Head-F.False p))

pub no_bare_number : (p : Span) (n : ℕ) → bare_at (out-Head (h.Number p n)) ≡ None
no_bare_number p n = ap (λ (y : Head). bare_at (out-Head y)) (sym (h.rolls-Number p n)) ∙ ap bare_at (out-roll-Head (Head-F.Number p n))

pub no_bare_texts : (p : Span) (us : List ℕ) (ps : List Interpolation) → bare_at (out-Head (h.Texts p us ps)) ≡ None
no_bare_texts p us ps = ap (λ (y : Head). bare_at (out-Head y)) (sym (h.rolls-Texts p us ps)) ∙ ap bare_at (out-roll-Head (Head-F.Texts p us ps))

pub no_bare_new : (p : Span) (xs : List Name) (a : Arguments) → bare_at (out-Head (h.New p xs a)) ≡ None
no_bare_new p xs a = ap (λ (y : Head). bare_at (out-Head y)) (sym (h.rolls-New p xs a)) ∙ ap bare_at (out-roll-Head (Head-F.New p xs a))

pub no_bare_parenthesised : (p : Span) (a : Expr) → bare_at (out-Head (h.Parenthesised p a)) ≡ None
no_bare_parenthesised p a = ap (λ (y : Head). bare_at (out-Head y)) (sym (h.rolls-Parenthesised p a)) ∙ ap bare_at (out-roll-Head (Head-F.Parenthesised p a))

pub no_bare_literal : (p : Span) (ps : Parameters) (d : Body) → bare_at (out-Head (h.Literal p ps d)) ≡ None
no_bare_literal p ps d = ap (λ (y : Head). bare_at (out-Head y)) (sym (h.rolls-Literal p ps d)) ∙ ap bare_at (out-roll-Head (Head-F.Literal p ps d))

pub no_bare_list : (p : Span) (xs : List Expr) → bare_at (out-Head (h.List p xs)) ≡ None
no_bare_list p xs = ap (λ (y : Head). bare_at (out-Head y)) (sym (h.rolls-List p xs)) ∙ ap bare_at (out-roll-Head (Head-F.List p xs))

pub no_bare_map : (p : Span) (xs : List Entry) → bare_at (out-Head (h.Map p xs)) ≡ None
no_bare_map p xs = ap (λ (y : Head). bare_at (out-Head y)) (sym (h.rolls-Map p xs)) ∙ ap bare_at (out-roll-Head (Head-F.Map p xs))

-- ---- a last selector that a target can end with

pub selected_member : (a : Head) (xs : List Selector) (p : Span) (x : Name) → selected_at a xs (out-Selector (l.Member p x)) ≡ Some (t.MemberOf (chain_of a xs) x)
selected_member a xs p x = ap (λ (z : Selector). selected_at a xs (out-Selector z)) (sym (l.rolls-Member p x)) ∙ ap (selected_at a xs) (out-roll-Selector (Selector-F.Member p x))

pub selected_invoke : (a : Head) (xs : List Selector) (p : Span) (x : Name) (y : Arguments) → selected_at a xs (out-Selector (l.Invoke p x y)) ≡ None
selected_invoke a xs p x y = ap (λ (z : Selector). selected_at a xs (out-Selector z)) (sym (l.rolls-Invoke p x y)) ∙ ap (selected_at a xs) (out-roll-Selector (Selector-F.Invoke p x y))

pub selected_index : (a : Head) (xs : List Selector) (p : Span) (d : Expr) → selected_at a xs (out-Selector (l.Index p d)) ≡ Some (t.IndexOf (chain_of a xs) p d)
selected_index a xs p d = ap (λ (z : Selector). selected_at a xs (out-Selector z)) (sym (l.rolls-Index p d)) ∙ ap (selected_at a xs) (out-roll-Selector (Selector-F.Index p d))

pub selected_call : (a : Head) (xs : List Selector) (y : Arguments) → selected_at a xs (out-Selector (l.Call y)) ≡ None
selected_call a xs y = ap (λ (z : Selector). selected_at a xs (out-Selector z)) (sym (l.rolls-Call y)) ∙ ap (selected_at a xs) (out-roll-Selector (Selector-F.Call y))
